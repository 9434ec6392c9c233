-- The map of a checkpoint and its logs, and what opening gives.
use Rattle.std.proofs.Common.{◌≡◌, inl, inr, ℕ, ◌+◌, ◌≤◌, ◌<◌, Option, None, Some, List, length, Result, Ok, Err, IfOk, IfErr, refl, sym, ap, ap₂, subst, ◌∙◌, arith, length-append}
use Rattle.std.specs.FinMap as finite
use Rattle.map_types.specs.declared.commands.Command.{Command}
use Rattle.map_types.specs.declared.refusals.Refusal.{Refusal}
use Rattle.map_types.specs.declared.refusals.Refusal.TheVariants.{Damaged}
use Rattle.map_types.specs.declared.refusals.Refusal.TheVariants as refusal
use Rattle.map_model.specs.Maps.{Map}
use Rattle.map_model.specs.Steps.{map_after}
use Rattle.store_layout.specs.Checkpoints.{Checkpoint, greatest_mark}
use Rattle.store_layout.specs.Logs.{Batch, commands_in, log_file}
use Rattle.store_layout.specs.SectionsAndLog.{counted, restored}
use Rattle.store_layout.specs.Opening.{Contents, Opened, AreBadLogs, IsBadCheckpointIn, IsCheckpointIn, Refuses, bad_checkpoint, bad_logs, below_mark, logged_by, newest_by}
use Rattle.store_layout.proofs.Openings.{used_is_held}
use Rattle.checkpoint_file.specs.declared.loading.LoadedCheckpoint.{LoadedCheckpoint}
use Rattle.checkpoint_file.specs.Loads.{AreRising, IsUnloadable, checkpoint_of, sections_of}
use Rattle.gate_log.specs.Scan.{failed_in}
use Rattle.gate_log.specs.States.{LogState}
use Rattle.recovery.specs.declared.reading.Restored.{Restored}
use Rattle.recovery.specs.declared.restoring.Restoring.{Restoring}
use Rattle.recovery.specs.Counting.{entries_in, greatest_of, marks_in}
use Rattle.recovery.specs.Dividing.{IsDivided}
use Rattle.recovery.specs.Heads.{IsUsed}
use Rattle.recovery.specs.LogReading.{AreReplayed, GoesOnIn}
use Rattle.recovery.specs.Opening.{IsOpened, IsRestored}
use Rattle.recovery.specs.Restoring.{HasMap, IsSameFrame}
use Rattle.recovery.proofs.CountingLemmas.{greatest_is, marks_are, union_is}

-- ---- a checkpoint and its logs

committed_is : (contents : Contents) (k : Checkpoint) (first : List Batch) (second : Option (List Batch)) (place : LogState) → GoesOnIn contents (newest_by k first second) place
    → place.committed ≡ k.low + length (logged_by first second)
committed_is contents k first None place is = is.committed
committed_is contents k first (Some second) place is = let e = is.committed in omega (arith, e, length-append (commands_in first) (commands_in second))

module _ (contents : Contents) (loaded : LoadedCheckpoint) (before after : Restoring) (place : LogState) (marks : before.marks.items ≡ marks_in loaded.sections.items)
    (replayed : AreReplayed contents (checkpoint_of loaded) before after place) where
  -- the greatest mark, as it is kept
  greatest : (same : IsSameFrame before after) → greatest_of after.marks.items ≡ greatest_mark (sections_of loaded.sections.items)
  greatest same = ap (λ ms. greatest_of ms.items) same.marks ∙ ap greatest_of marks ∙ greatest_is loaded.sections.items

  pub below : (same : IsSameFrame before after) (refusal : Refusal) → refusal ≡ Damaged (log_file place.generation) place.gate → place.committed < greatest_of after.marks.items
      → AreBadLogs contents (checkpoint_of loaded) refusal
  below same refusal damage less =
      let committed = committed_is contents (checkpoint_of loaded) replayed.first replayed.second place replayed.goes_on in
      let most = greatest same in
      below_mark replayed.first replayed.second replayed.logs (omega (arith, less, committed, most))
      (damage ∙ ap₂ Damaged (ap log_file replayed.goes_on.generation) replayed.goes_on.gate)

  abbrev log : List Command
  log = logged_by replayed.first replayed.second

  -- the map of the sections, and of the changes behind them
  pub is_restored : (same : IsSameFrame before after) (n : ℕ) → before.of ≡ loaded.stripes → before.divided.stripes.count ≡ n → AreRising loaded.sections.items
      → HasMap before (finite.from_entries (entries_in loaded.sections.items)) → greatest_of after.marks.items ≤ place.committed → (found : Restored)
      → ((m : Map) → HasMap after m → IsDivided after.divided.stripes.count m found.parts.items) → found.sealed ≡ loaded.generation → found.log ≡ place → IsRestored contents (checkpoint_of loaded) n found
  is_restored same n of stripes rising has reaches found parts sealed log_is =
      let k = checkpoint_of loaded in
      let committed = committed_is contents k replayed.first replayed.second place replayed.goes_on in
      let most = greatest same in
      let xs = sections_of loaded.sections.items in
      let start : Map = finite.from_entries (entries_in loaded.sections.items) in
      let made : HasMap after (map_after start (counted before.of.count xs k.low log)) =
      replayed.applied xs start (marks_are loaded.sections.items ∙ sym marks) has in
      let same_map : map_after start (counted before.of.count xs k.low log) ≡ restored k.stripes xs k.low log =
      ap₂ (λ (m : Map) s. map_after m (counted s.count xs k.low log)) (sym (union_is loaded.sections.items rising)) of in
      let divided : IsDivided n (restored k.stripes xs k.low log) found.parts.items =
      subst (λ j. IsDivided j (restored k.stripes xs k.low log) found.parts.items) (ap (λ s. s.count) same.stripes ∙ stripes)
      (parts _ (subst (λ (m : Map). HasMap after m) same_map made)) in
      record {
        first = replayed.first;
        second = replayed.second;
        logs = replayed.logs;
        reaches = omega (arith, reaches, committed, most);
        sealed = sealed;
        goes_on = subst (λ (l : LogState). GoesOnIn contents (newest_by k replayed.first replayed.second) l) (sym log_is) replayed.goes_on;
        committed = ap (λ (l : LogState). l.committed) log_is ∙ committed;
        divided = divided;
      }

-- ---- what opening gives

module _ (contents : Contents) (file : ℕ) (used : IsUsed contents file) where
  pub is_opened : (loaded : LoadedCheckpoint) (n : ℕ) (found : Restored) → IsCheckpointIn (checkpoint_of loaded) (contents file)
      → IsRestored contents (checkpoint_of loaded) n found → IsOpened contents n found
  is_opened loaded n found checkpoint restored =
      let opened : Opened = record { checkpoint = checkpoint_of loaded; first = restored.first; second = restored.second } in
      record {
        found = opened;
        holds = used_is_held contents opened used.faultless (subst (λ number. IsCheckpointIn (checkpoint_of loaded) (contents number)) used.newest checkpoint) restored.logs restored.reaches;
        sealed = restored.sealed;
        log = restored.goes_on;
        committed = restored.committed;
        divided = restored.divided;
      }

  pub logs_refused : (loaded : LoadedCheckpoint) (refusal : Refusal) → IsCheckpointIn (checkpoint_of loaded) (contents file)
      → AreBadLogs contents (checkpoint_of loaded) refusal → Refuses contents refusal
  logs_refused loaded refusal checkpoint bad =
      bad_logs (checkpoint_of loaded) used.faultless (subst (λ number. IsCheckpointIn (checkpoint_of loaded) (contents number)) used.newest checkpoint) bad

  pub not_loaded : (refusal : Refusal) → IsUnloadable file (contents file) refusal → Refuses contents refusal
  not_loaded refusal (inl head) = absurd (let none = used.head in cc)
  not_loaded refusal (inr bad) = bad_checkpoint used.faultless (subst (λ number. IsBadCheckpointIn number (contents number) refusal) used.newest bad.2)

-- ---- counts of failures

pub same_failed : (X Y : Type 0) (r : Refusal) → failed_in {X = X} (Err r) ≡ failed_in {X = Y} (Err r)
same_failed X Y refusal.NullValue = refl
same_failed X Y refusal.KeyTooLong = refl
same_failed X Y refusal.ValueTooLong = refl
same_failed X Y refusal.UnknownMethod = refl
same_failed X Y refusal.UnknownFunction = refl
same_failed X Y refusal.BadFrame = refl
same_failed X Y refusal.NoMemory = refl
same_failed X Y (refusal.Busy stripe) = refl
same_failed X Y refusal.Failed = refl
same_failed X Y refusal.TicketsSpent = refl
same_failed X Y refusal.NotFormatted = refl
same_failed X Y (refusal.Damaged file offset) = refl
same_failed X Y refusal.WrongVersion = refl
same_failed X Y refusal.LogFull = refl
same_failed X Y refusal.AlreadyFormatted = refl
same_failed X Y refusal.WrongPhase = refl
same_failed X Y refusal.TooEarly = refl
same_failed X Y refusal.NotText = refl
same_failed X Y refusal.SeatsSpent = refl

-- ---- answers

pub if_ok : {X : Type 0} (P Q : X → Type 0) (r : Result X Refusal) → ((x : X) → P x → Q x) → IfOk r P → IfOk r Q
if_ok P Q (Ok x) f p = f x p
if_ok P Q (Err e) f p = tt

pub if_err : {X : Type 0} (P Q : Refusal → Type 0) (r : Result X Refusal) → ((x : Refusal) → P x → Q x) → IfErr r P → IfErr r Q
if_err P Q (Ok x) f p = tt
if_err P Q (Err e) f p = f e p
