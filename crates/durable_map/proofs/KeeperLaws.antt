-- What follows of a keeper that fits its files.
use Rattle.std.proofs.Common.{◌≡◌, ℕ, ◌+◌, ◌≤◌, List, [], ◌∷◌, length, length-append, Option, None, Some, IfSome, Bool, true, false, refl, sym, ap, subst, ◌∙◌, arith}
use Rattle.disk_model.specs.Files.{Files, now}
use Rattle.map_types.specs.declared.commands.Command.{Command}
use Rattle.map_model.specs.Histories.{History}
use Rattle.store_layout.specs.Checkpoints.{Checkpoint, Section, checkpoint_file, greatest_mark}
use Rattle.store_layout.specs.Logs.{Batch, commands_in}
use Rattle.store_layout.specs.Opening.{logged_by}
use Rattle.store_layout.specs.SectionsAndLog.{AreMarks, AreParts}
use Rattle.checkpoint_file.specs.States.{CheckpointState}
use Rattle.checkpoint_file.specs.CheckpointStates as checkpoint
use Rattle.gate_log.specs.States.{LogState}
use Rattle.store_invariant.specs.States.{Held, StoreState}
use Rattle.store_invariant.specs.StoreStates.{LogsStand, MayCapture, WriterStands}
use Rattle.ticket_order.specs.declared.record.Record.{Record}
use Rattle.ticket_order.specs.Legality.{history_of}
use Rattle.flusher.specs.declared.keeper.Keeper.{Keeper}
use Rattle.flusher.specs.Fitting.{Fits, IsTakenFront, StopsFit, store_of}
use Rattle.flusher.specs.KeeperSteps.{is_walking}
use Rattle.durable_map.specs.LockedKeepers.{CapturesStand, Keeps, KeepsSealed, OnlyCaptures}

captures : (n : ℕ) (h : History) (store : StoreState) (held : Held) (files : Files) (o : Option CheckpointState) → WriterStands o store held (files (checkpoint_file (store.sealed + 1)))
    → MayCapture h o held.sections store.log.committed → IfSome o (λ w. w.stripes ≡ n) → CapturesStand n h o files
captures n h store held files None writes capture stripes = tt
captures n h store held files (Some w) writes capture stripes = record {
  sections = held.sections;
  given = (held.other, subst (λ (g : ℕ). checkpoint.Stands w held.other held.sections (files (checkpoint_file g))) (sym writes.generation) writes.stands);
  parts = subst (λ (m : ℕ). AreParts h m 0 held.sections) stripes capture.parts;
  marks = capture.marks;
}

below : (low high : ℕ) (sections : List Section) → AreMarks low high sections → greatest_mark sections ≤ high
below low high [] marks = omega arith
below low high (section ∷ sections) marks = let rest = below low high sections marks.2 in let here = marks.1 in omega (arith, rest, here)

committed_is : (k : Checkpoint) (first : List Batch) (second : Option (List Batch)) (newest : LogState) (staged : List Batch) (files : Files) → LogsStand k first second newest staged files
    → newest.committed ≡ k.low + length (logged_by first second)
committed_is k first None newest staged files logs = logs.2.knows.committed ∙ ap (λ (n : ℕ). n + length (commands_in first)) logs.1
committed_is k first (Some second) newest staged files logs =
    let c = logs.2.knows.committed in
    let low = logs.1 in
    let both = length-append (commands_in first) (commands_in second) in
    omega (arith, c, low, both)

module _ {D : Type 0} (states : D → List Files) (honest : D → Type 0) (n : ℕ) (done : List Command) (keeper : Keeper D) (p : Record) (fits : Fits states honest n done keeper p) where
  given : keeper.is_broken ≡ false → honest keeper.disk → CapturesStand n (history_of p) keeper.checkpoint (now (states keeper.disk))
  given works honestly =
      let k = fits.stores.works works honestly in
      captures n (history_of p) _ k.held (now (states keeper.disk)) keeper.checkpoint k.stands.kept.writer k.stands.of_history.capture fits.stripes.writer

  sealed_in : keeper.is_broken ≡ false → KeepsSealed states honest keeper
  sealed_in works honestly =
      let k = fits.stores.works works honestly in
      let found = k.held.found in
      let low = below _ _ found.checkpoint.sections k.stands.of_history.restores.marks in
      let all = committed_is found.checkpoint found.first found.second keeper.log k.held.staged (now (states keeper.disk)) k.stands.kept.logs in record {
        checkpoint = found.checkpoint;
        generation_is = k.stands.kept.sealed;
        sealed = k.stands.kept.checkpoint;
        reached = omega (arith, low, all);
      }

  sealed : (broken : Bool) → keeper.is_broken ≡ broken → (broken ≡ true → KeepsSealed states honest keeper) → KeepsSealed states honest keeper
  sealed false works k = sealed_in works
  sealed true works k = k refl

  -- the checkpoint that is written follows the sealed one
  pub written_next : keeper.is_broken ≡ false → honest keeper.disk → (w : CheckpointState) → keeper.checkpoint ≡ Some w → w.generation ≡ keeper.sealed + 1
  written_next works honestly w is =
      let k = fits.stores.works works honestly in
      let writes : WriterStands (Some w) (store_of keeper) k.held (now (states keeper.disk) (checkpoint_file (keeper.sealed + 1))) =
      subst (λ (o : Option CheckpointState). WriterStands o (store_of keeper) k.held (now (states keeper.disk) (checkpoint_file (keeper.sealed + 1)))) is k.stands.kept.writer in
      writes.generation

  pub keeps : is_walking keeper.sweeper.walking ≡ false → keeper.capture ≡ None → IsTakenFront done keeper.log.committed p → (honest keeper.disk → StopsFit (history_of p) keeper (now (states keeper.disk)))
      → OnlyCaptures n p → (keeper.is_broken ≡ true → KeepsSealed states honest keeper) → Keeps states honest n keeper p
  keeps still over taken stops captured after = record {
    done = done;
    fits = fits;
    still = still;
    over = over;
    taken = taken;
    published = let a = fits.tells.published in let b = fits.tells.durable in omega (arith, a, b);
    stops = stops;
    captured = captured;
    given = given;
    sealed = sealed keeper.is_broken refl after;
  }
