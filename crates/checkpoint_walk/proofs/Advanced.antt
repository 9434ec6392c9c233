-- What a keeper fits after a device call of its checkpoint.
use Rattle.std.proofs.Common.{◌≡◌, ◌≢◌, ◌⊎◌, inl, inr, ℕ, ◌+◌, List, [], ◌∷◌, length, Option, None, Some, Bool, true, false, IfSome, Result, Ok, Err, OnOk, OnErr, append-nil, refl, sym, ◌∙◌, ap, subst, arith}
use Rattle.std.proofs.lemmas.List.{length-map}
use Rattle.disk_model.specs.Calls.{Makes}
use Rattle.disk_model.specs.Files.{AreCoherent, Contents, Leaves, File, Files, now, with_file}
use Rattle.disk_model.specs.Gates.{Call, called}
use Rattle.disk_model.specs.Moments.{AtEachMoment}
use Rattle.map_types.specs.declared.commands.Command.{Command}
use Rattle.map_types.specs.declared.refusals.Refusal.{Refusal}
use Rattle.ticket_order.specs.declared.record.Record.{Record}
use Rattle.ticket_order.specs.declared.stripe.Entry.{Entry}
use Rattle.ticket_order.specs.Legality.{history_of}
use Rattle.log_records.specs.Layout.{IsLayout}
use Rattle.disk_model.proofs.FileLemmas.{with_same, seen_may_stay}
use Rattle.store_layout.specs.Checkpoints.{IsCheckpoint, Section, checkpoint_file, is_to_close}
use Rattle.store_layout.specs.Logs.{commands_in, new_layout}
use Rattle.store_layout.specs.Opening.{IsCheckpointIn}
use Rattle.store_layout.specs.OpeningLaws.{OneCheckpoint}
use Rattle.gate_log.specs.States.{commands_of}
use Rattle.store_layout.specs.declared.checkpoint_phase.CheckpointPhase.{CheckpointPhase}
use Rattle.store_layout.specs.declared.checkpoint_phase.CheckpointPhase.TheVariants as phase
use Rattle.checkpoint_file.specs.CheckpointSteps.{Advances}
use Rattle.checkpoint_file.specs.States.{CheckpointState, state_after}
use Rattle.checkpoint_file.specs.CheckpointStates as checkpoint
use Rattle.checkpoint_file.specs.CheckpointStates.{checkpoint_of}
use Rattle.store_invariant.specs.Laws.{CheckpointIsSealed, StopsUseCheckpoint, StoresStop, WriterStepsOn, WriterStepsStop, sealed_with}
use Rattle.store_invariant.specs.StoreStates as store
use Rattle.store_invariant.specs.States.{Held}
use Rattle.flusher.specs.declared.keeper.Keeper.{Keeper}
use Rattle.flusher.specs.Fitting.{Fits, HoldsFor, StopsFit, Stores, batches_of, store_of}
use Rattle.checkpoint_walk.specs.Checkpointing.{Checkpoints, HasGiven, KeepsAfter, checkpoints_of, kept_in}
use Rattle.store_layout.specs.UsedCheckpoint.{IsUsed, UsesCheckpoint}
use Rattle.flusher.proofs.Moments.{moments_so, at_end}
use Rattle.flusher.proofs.Committing.{two_ways}
use Rattle.checkpoint_walk.proofs.Sealed.{of_writer, writes_in}

-- ---- moments

-- no call was made
pub none_made : {D : Type 0} (states : D → List Files) (old new : D) (P : Files → Type 0) → new ≡ old → P (now (states old)) → AtEachMoment states old new P
none_made states old new P same k = record { added = []; longer = ap states same; first = k; each = tt }

-- ---- what is staged

counted : (first : ℕ) (es : List Entry) → length (commands_in (batches_of first es)) ≡ length es
counted first [] = refl
counted first (e ∷ es) = ap (λ (xs : List Command). length xs) (append-nil (commands_of (e ∷ es))) ∙ length-map (e ∷ es) (λ (x : Entry). x.command)

pub staged_so : {D : Type 0} (h : _) (old : Keeper D) (files start : Files) (k : HoldsFor h old start) → store.StopsStand h old.log.committed (old.log.committed + store.staged_count k.held) files → StopsFit h old files
staged_so {D} h old files start k stops =
    let count : store.staged_count k.held ≡ length old.staged.items = ap (λ bs. length (commands_in bs)) k.staged_is ∙ counted old.log.committed old.staged.items in
    subst (λ c. store.StopsStand h old.log.committed (old.log.committed + c) files) count stops

-- ---- the file of the checkpoint

-- the checkpoint that is written, and how its file stands
pub record IsWritten (w : CheckpointState) (sealed : ℕ) (held : Held) (files : Files) : Type 0 where
  pub generation : w.generation ≡ sealed + 1
  pub stands : checkpoint.Stands w held.other held.sections (files (checkpoint_file w.generation))

pub written_in : {D : Type 0} (h : _) (old : Keeper D) (w : CheckpointState) (files : Files) (k : HoldsFor h old files) → old.checkpoint ≡ Some w → IsWritten w old.sealed k.held files
written_in {D} h old w files k is = (
    let x : store.Writes w (store_of old) k.held (files (checkpoint_file (old.sealed + 1))) = writes_in (store_of old) k.held _ w is k.stands.kept.writer in
    record { generation = x.generation; stands = subst (λ (g : ℕ). checkpoint.Stands w k.held.other k.held.sections (files (checkpoint_file g))) (sym x.generation) x.stands }
    )

-- ---- a step

-- The step that was made of the checkpoint w.
pub record Steps {D : Type 0} (states : D → List Files) (failures : D → ℕ) (honest : D → Type 0) (call : Call) (w : CheckpointState) (old new : Keeper D) (result : Result CheckpointPhase Refusal) : Type 0 where
  pub after : CheckpointState
  pub made : Advances states failures honest call w after old.disk new.disk result
  pub keeps : KeepsAfter result w.phase after (checkpoints_of old) (checkpoints_of new)
  pub works : old.is_broken ≡ false
  pub writer : old.checkpoint ≡ Some w
  pub alone : old.next ≡ None
  pub on : OnOk result (new.is_broken ≡ false)
  pub off : OnErr result (new.is_broken ≡ true)
  pub same : new ≡ record old { disk = new.disk; sealed = new.sealed; checkpoint = new.checkpoint; must_close = new.must_close; is_broken = new.is_broken }

pub moments : {D : Type 0} (states : D → List Files) (failures : D → ℕ) (honest : D → Type 0) (n : ℕ) (done : List Command) (call : Call) (w : CheckpointState) (old new : Keeper D) (p : Record) (result : Result CheckpointPhase Refusal) → WriterStepsStop
    → Fits states honest n done old p → Steps states failures honest call w old new result → honest old.disk → AtEachMoment states old.disk new.disk (StopsFit (history_of p) old)
moments {D} states failures honest n done call w old new p result stops f s h =
    let k = f.stores.works s.works h in
    let x = written_in (history_of p) old w (now (states old.disk)) k s.writer in
    moments_so states old.disk new.disk (checkpoint.IsKept w k.held.other k.held.sections (now (states old.disk))) (StopsFit (history_of p) old)
    (λ files kept. staged_so (history_of p) old files (now (states old.disk)) k (stops (history_of p) (store_of old) k.held w (now (states old.disk)) files k.stands s.writer s.alone kept))
    (s.made.any_moment k.held.other k.held.sections x.stands)

-- the keeper with another disk, and as it knows of its checkpoints
abbrev moved : {D : Type 0} → Keeper D → D → Checkpoints → Bool → Keeper D
moved old disk c broken = record old { disk = disk; sealed = c.sealed; checkpoint = c.writer; must_close = c.must_close; is_broken = broken }

fits_moved : {D : Type 0} (states : D → List Files) (honest : D → Type 0) (n : ℕ) (done : List Command) (old : Keeper D) (p : Record) (disk : D) (c : Checkpoints) (broken : Bool) → Fits states honest n done old p → IfSome c.writer (λ w. w.stripes ≡ n)
    → Stores states honest (moved old disk c broken) p → Fits states honest n done (moved old disk c broken) p
fits_moved {D} states honest n done old p disk c broken f stripes stores = record {
  stands = f.stands;
  counts = record { committed = f.counts.committed; next = f.counts.next; count = f.counts.count; tickets = f.counts.tickets; fits = f.counts.fits; empty = f.counts.empty };
  tells = record { published = f.tells.published; durable = f.tells.durable; failed = f.tells.failed };
  stripes = record { count = f.stripes.count; writer = stripes };
  rotation = f.rotation;
  keys = f.keys;
  stores = stores;
}

-- the files after a call that succeeded
made_files : {D : Type 0} (states : D → List Files) (failures : D → ℕ) (number : ℕ) (call : Call) (old new : D) → Makes states failures number call old new
    → now (states new) ≡ with_file number (called call (now (states old) number)) (now (states old))
made_files states failures number call old new m = ap now m.state

pub opened_or : (ph : CheckpointPhase) → (ph ≡ phase.Opened) ⊎ (ph ≢ phase.Opened)
opened_or phase.Opened = inl refl
opened_or phase.Idle = inr (λ e. cc)
opened_or phase.Gate = inr (λ e. cc)
opened_or phase.GateWritten = inr (λ e. cc)
opened_or phase.GateSynced = inr (λ e. cc)
opened_or phase.Ready = inr (λ e. cc)
opened_or phase.Staged = inr (λ e. cc)
opened_or phase.Header = inr (λ e. cc)
opened_or phase.HeaderWritten = inr (λ e. cc)
opened_or phase.HeaderSynced = inr (λ e. cc)
opened_or phase.Sealed = inr (λ e. cc)

pub kept_other : (ph : CheckpointPhase) (after : CheckpointState) (c : Checkpoints) → ph ≢ phase.Opened → kept_in ph after c ≡ record c { writer = Some after }
kept_other phase.Opened after c other = absurd (other refl)
kept_other phase.Idle after c other = refl
kept_other phase.Gate after c other = refl
kept_other phase.GateWritten after c other = refl
kept_other phase.GateSynced after c other = refl
kept_other phase.Ready after c other = refl
kept_other phase.Staged after c other = refl
kept_other phase.Header after c other = refl
kept_other phase.HeaderWritten after c other = refl
kept_other phase.HeaderSynced after c other = refl
kept_other phase.Sealed after c other = refl

-- a step changes neither whose checkpoint it is nor whether it has failed
pub record IsOfSame (w after : CheckpointState) : Type 0 where
  pub generation : after.generation ≡ w.generation
  pub low : after.low ≡ w.low
  pub stripes : after.stripes ≡ w.stripes
  pub is_broken : after.is_broken ≡ w.is_broken

pub same_after : (ph : CheckpointPhase) (w : CheckpointState) → IsOfSame w (state_after ph w)
same_after phase.Opened w = record { generation = refl; low = refl; stripes = refl; is_broken = refl }
same_after phase.Idle w = record { generation = refl; low = refl; stripes = refl; is_broken = refl }
same_after phase.Gate w = record { generation = refl; low = refl; stripes = refl; is_broken = refl }
same_after phase.GateWritten w = record { generation = refl; low = refl; stripes = refl; is_broken = refl }
same_after phase.GateSynced w = record { generation = refl; low = refl; stripes = refl; is_broken = refl }
same_after phase.Ready w = record { generation = refl; low = refl; stripes = refl; is_broken = refl }
same_after phase.Staged w = record { generation = refl; low = refl; stripes = refl; is_broken = refl }
same_after phase.Header w = record { generation = refl; low = refl; stripes = refl; is_broken = refl }
same_after phase.HeaderWritten w = record { generation = refl; low = refl; stripes = refl; is_broken = refl }
same_after phase.HeaderSynced w = record { generation = refl; low = refl; stripes = refl; is_broken = refl }
same_after phase.Sealed w = record { generation = refl; low = refl; stripes = refl; is_broken = refl }

-- What a call that succeeded leaves of the file, and of the others.
pub record IsLeft (w after : CheckpointState) (held : Held) (start files : Files) : Type 0 where
  pub file : File
  pub files_are : files ≡ with_file (checkpoint_file w.generation) file start
  pub stands : checkpoint.Stands after held.other held.sections file

left_by : {D : Type 0} (states : D → List Files) (failures : D → ℕ) (honest : D → Type 0) (call : Call) (w : CheckpointState) (old new : Keeper D) (ph : CheckpointPhase) (s : Steps states failures honest call w old new (Ok ph)) (held : Held)
    → checkpoint.Stands w held.other held.sections (now (states old.disk) (checkpoint_file w.generation)) → IsLeft w (state_after w.phase w) held (now (states old.disk)) (now (states new.disk))
left_by {D} states failures honest call w old new ph s held stands =
    let number = checkpoint_file w.generation in
    let file : File = called call (now (states old.disk) number) in
    let files_are : now (states new.disk) ≡ with_file number file (now (states old.disk)) = made_files states failures number call old.disk new.disk s.made.ok.2 in
    let there : now (states new.disk) number ≡ file = ap (λ (x : Files). x number) files_are ∙ with_same number file (now (states old.disk)) in
    let stood : checkpoint.Stands s.after held.other held.sections (now (states new.disk) number) = s.made.stands held.other held.sections stands in
    record {
      file = file;
      files_are = files_are;
      stands = subst (λ (v : CheckpointState). checkpoint.Stands v held.other held.sections file) s.made.ok.0 (subst (λ (x : File). checkpoint.Stands s.after held.other held.sections x) there stood);
    }

to_new : {D : Type 0} (states : D → List Files) (honest : D → Type 0) (n : ℕ) (done : List Command) (old new : Keeper D) (p : Record) (c : Checkpoints) (broken : Bool)
    → new ≡ record old { disk = new.disk; sealed = new.sealed; checkpoint = new.checkpoint; must_close = new.must_close; is_broken = new.is_broken } → checkpoints_of new ≡ c → new.is_broken ≡ broken
    → Fits states honest n done (moved old new.disk c broken) p → Fits states honest n done new p
to_new {D} states honest n done old new p c broken same keeps is f =
    subst (λ (k : Keeper D). Fits states honest n done k p) (sym same)
    (subst (λ (b : Bool). Fits states honest n done (moved old new.disk (checkpoints_of new) b) p) (sym is)
    (subst (λ (x : Checkpoints). Fits states honest n done (moved old new.disk x broken) p) (sym keeps) f))

-- the call has failed
fits_failed : {D : Type 0} (states : D → List Files) (failures : D → ℕ) (honest : D → Type 0) (n : ℕ) (done : List Command) (call : Call) (w : CheckpointState) (old new : Keeper D) (p : Record) (e : Refusal) → WriterStepsStop
    → Fits states honest n done old p → Steps states failures honest call w old new (Err e) → Fits states honest n done new p
fits_failed {D} states failures honest n done call w old new p e stops f s =
    let c : Checkpoints = record (checkpoints_of old) { writer = Some s.after } in
    to_new states honest n done old new p c true s.same s.keeps s.off
    (fits_moved states honest n done old p new.disk c true f (ap (λ (x : CheckpointState). x.stripes) s.made.err.1 ∙ of_writer (λ x. x.stripes ≡ n) old.checkpoint w s.writer f.stripes.writer) (record {
      unbroken = λ is. absurd (two_ways true refl is);
      works = λ is h. absurd (two_ways true refl is);
      stopped = λ _ h. at_end states old.disk new.disk _ (moments states failures honest n done call w old new p (Err e) stops f s (s.made.was_honest h));
    }))

-- it was not the last of a seal
fits_went_on : {D : Type 0} (states : D → List Files) (failures : D → ℕ) (honest : D → Type 0) (n : ℕ) (done : List Command) (call : Call) (w : CheckpointState) (old new : Keeper D) (p : Record) (ph : CheckpointPhase) → WriterStepsOn
    → Fits states honest n done old p → Steps states failures honest call w old new (Ok ph) → w.phase ≢ phase.Opened → Fits states honest n done new p
fits_went_on {D} states failures honest n done call w old new p ph goes f s other =
    let v : CheckpointState = state_after w.phase w in
    let alike : IsOfSame w v = same_after w.phase w in
    let u = f.stores.unbroken s.works in
    let c : Checkpoints = record (checkpoints_of old) { writer = Some v } in
    let keeps : checkpoints_of new ≡ c = s.keeps ∙ kept_other w.phase s.after (checkpoints_of old) other ∙ ap (λ (x : CheckpointState). record (checkpoints_of old) { writer = Some x }) s.made.ok.0 in
    to_new states honest n done old new p c false s.same keeps s.on
    (fits_moved states honest n done old p new.disk c false f (alike.stripes ∙ of_writer (λ x. x.stripes ≡ n) old.checkpoint w s.writer f.stripes.writer) (record {
      unbroken = λ _. record { log = u.log; next = u.next; writer = alike.is_broken ∙ of_writer (λ x. x.is_broken ≡ false) old.checkpoint w s.writer u.writer };
      works = λ _ h. (
          let k = f.stores.works s.works (s.made.was_honest h) in
          let x = written_in (history_of p) old w (now (states old.disk)) k s.writer in
          let l = left_by states failures honest call w old new ph s k.held x.stands in
          let stands = goes (history_of p) (store_of old) k.held w (now (states old.disk)) l.file k.stands s.writer s.alone other l.stands in
          record {
            held = k.held;
            stands = subst (λ (files : Files). store.Stands (history_of p) (record (store_of old) { writer = Some v }) k.held files) (sym l.files_are) stands;
            staged_is = k.staged_is;
            must_close_is = k.must_close_is;
          }
          );
      stopped = λ is h. absurd (two_ways false is refl);
    }))

-- the file of a sealed checkpoint has an open gate
open_gate : (k : _) (content : List ℕ) → IsCheckpointIn k content → true ≡ is_to_close content
open_gate k content c = ap is_to_close (sym c.bytes)

-- how a store stands once the last sync of a seal has succeeded
pub record IsSealedNow {D : Type 0} (h : _) (old : Keeper D) (w : CheckpointState) (k : Held) (content : List ℕ) (files : Files) : Type 0 where
  pub stands : store.Stands h (record (store_of old) { sealed = w.generation; writer = None }) (sealed_with w k content) files
  pub gate : true ≡ is_to_close content

sealed_now : {D : Type 0} (states : D → List Files) (failures : D → ℕ) (honest : D → Type 0) (call : Call) (w : CheckpointState) (old new : Keeper D) (p : Record) (ph : CheckpointPhase) → CheckpointIsSealed
    → (k : HoldsFor (history_of p) old (now (states old.disk))) → Steps states failures honest call w old new (Ok ph) → w.phase ≡ phase.Opened
    → IsSealedNow (history_of p) old w k.held k.stands.kept.checkpoint.content (now (states new.disk))
sealed_now {D} states failures honest call w old new p ph seals k s is =
    let x = written_in (history_of p) old w (now (states old.disk)) k s.writer in
    let l = left_by states failures honest call w old new ph s k.held x.stands in
    let last : checkpoint.Stands (state_after phase.Opened w) k.held.other k.held.sections l.file = subst (λ (z : CheckpointPhase). checkpoint.Stands (state_after z w) k.held.other k.held.sections l.file) is l.stands in
    let content : List ℕ = k.stands.kept.checkpoint.content in
    let stands : store.Stands (history_of p) (record (store_of old) { sealed = old.sealed + 1; writer = None }) (sealed_with w k.held content) (with_file (checkpoint_file w.generation) l.file (now (states old.disk))) =
    seals (history_of p) (store_of old) k.held w (now (states old.disk)) l.file k.stands s.writer s.alone is last in
    record {
      stands = subst (λ (g : ℕ). store.Stands (history_of p) (record (store_of old) { sealed = g; writer = None }) (sealed_with w k.held content) (now (states new.disk))) (sym x.generation)
          (subst (λ (files : Files). store.Stands (history_of p) (record (store_of old) { sealed = old.sealed + 1; writer = None }) (sealed_with w k.held content) files) (sym l.files_are) stands);
      gate = open_gate k.held.found.checkpoint content k.stands.kept.checkpoint.checkpoint;
    }

-- it was
fits_sealed : {D : Type 0} (states : D → List Files) (failures : D → ℕ) (honest : D → Type 0) (n : ℕ) (done : List Command) (call : Call) (w : CheckpointState) (old new : Keeper D) (p : Record) (ph : CheckpointPhase) → CheckpointIsSealed
    → Fits states honest n done old p → Steps states failures honest call w old new (Ok ph) → w.phase ≡ phase.Opened → Fits states honest n done new p
fits_sealed {D} states failures honest n done call w old new p ph seals f s is =
    let u = f.stores.unbroken s.works in
    let c : Checkpoints = record { sealed = w.generation; writer = None; must_close = true } in
    let generation : s.after.generation ≡ w.generation = ap (λ (z : CheckpointState). z.generation) s.made.ok.0 ∙ (same_after w.phase w).generation in
    let keeps : checkpoints_of new ≡ c = s.keeps ∙ ap (λ (z : CheckpointPhase). kept_in z s.after (checkpoints_of old)) is ∙ ap (λ g. record c { sealed = g }) generation in
    to_new states honest n done old new p c false s.same keeps s.on
    (fits_moved states honest n done old p new.disk c false f tt (record {
      unbroken = λ _. record { log = u.log; next = u.next; writer = tt };
      works = λ _ h. (
          let k = f.stores.works s.works (s.made.was_honest h) in
          let x = sealed_now states failures honest call w old new p ph seals k s is in
          record { held = sealed_with w k.held k.stands.kept.checkpoint.content; stands = x.stands; staged_is = k.staged_is; must_close_is = x.gate }
          );
      stopped = λ is h. absurd (two_ways false is refl);
    }))

pub fits_stepped : {D : Type 0} (states : D → List Files) (failures : D → ℕ) (honest : D → Type 0) (n : ℕ) (done : List Command) (call : Call) (w : CheckpointState) (old new : Keeper D) (p : Record) (result : Result CheckpointPhase Refusal)
    → WriterStepsStop → WriterStepsOn → CheckpointIsSealed → Fits states honest n done old p → Steps states failures honest call w old new result → Fits states honest n done new p
fits_stepped {D} states failures honest n done call w old new p (Ok ph) stops goes seals f s = elim (opened_or w.phase) [
  | inl is ↦ fits_sealed states failures honest n done call w old new p ph seals f s is
  | inr other ↦ fits_went_on states failures honest n done call w old new p ph goes f s other
]
fits_stepped {D} states failures honest n done call w old new p (Err e) stops goes seals f s = fits_failed states failures honest n done call w old new p e stops f s

-- ---- what is used then

-- two lists of sections of which a file is sealed are the same
sealed_once : (one : OneCheckpoint) (w : CheckpointState) (xs ys : List Section) (a b : List ℕ) (file : File) → w.phase ≡ phase.Sealed → checkpoint.Stands w a xs file → checkpoint.Stands w b ys file → checkpoint_of w xs ≡ checkpoint_of w ys
sealed_once one w xs ys a b file is x y =
    let l : checkpoint.IsSealed w xs file = (subst (λ ph. checkpoint.AtPhase ph w a xs file) is x.stands).1 in
    let r : checkpoint.IsSealed w ys file = (subst (λ ph. checkpoint.AtPhase ph w b ys file) is y.stands).1 in
    let same : l.content ≡ r.content = ap (λ (z : File). z.seen) (sym l.settled ∙ r.settled) in
    let room : IsLayout new_layout = omega arith in
    one new_layout (checkpoint_of w xs) (checkpoint_of w ys) r.content room (subst (λ (z : List ℕ). IsCheckpoint new_layout (checkpoint_of w xs) z) same l.checkpoint) r.checkpoint

none_some : (v : CheckpointState) → None ≡ Some v → ⊥
none_some v e = cc

pub used_then : {D : Type 0} (states : D → List Files) (failures : D → ℕ) (honest : D → Type 0) (n : ℕ) (done : List Command) (call : Call) (w : CheckpointState) (old new : Keeper D) (p : Record) (result : Result CheckpointPhase Refusal) (sections : List Section)
    → OneCheckpoint → CheckpointIsSealed → StopsUseCheckpoint → Fits states honest n done old p → Steps states failures honest call w old new result → honest new.disk → w.phase ≡ phase.Opened → HasGiven old.checkpoint sections (now (states old.disk))
    → AreCoherent (now (states new.disk)) → OnOk result (UsesCheckpoint (checkpoint_of w sections) (now (states new.disk)))
used_then {D} states failures honest n done call w old new p (Err e) sections one seals uses f s h is given whole = tt
used_then {D} states failures honest n done call w old new p (Ok ph) sections one seals uses f s h is given whole =
    let k = f.stores.works s.works (s.made.was_honest h) in
    let x = sealed_now states failures honest call w old new p ph seals k s is in
    let at = written_in (history_of p) old w (now (states old.disk)) k s.writer in
    let theirs : HasGiven (Some w) sections (now (states old.disk)) = subst (λ (o : Option CheckpointState). HasGiven o sections (now (states old.disk))) s.writer given in
    let after : s.after ≡ state_after phase.Opened w = s.made.ok.0 ∙ ap (λ (z : CheckpointPhase). state_after z w) is in
    let number = checkpoint_file w.generation in
    let once : checkpoint_of s.after k.held.sections ≡ checkpoint_of s.after sections =
    sealed_once one s.after k.held.sections sections k.held.other theirs.0 (now (states new.disk) number) (ap (λ (z : CheckpointState). z.phase) after)
    (s.made.stands k.held.other k.held.sections at.stands) (s.made.stands theirs.0 sections theirs.1) in
    let same : checkpoint_of w k.held.sections ≡ checkpoint_of w sections = subst (λ (z : CheckpointState). checkpoint_of z k.held.sections ≡ checkpoint_of z sections) after once in
    let all : (contents : Contents) → Leaves (now (states new.disk)) contents → IsUsed (checkpoint_of w sections) contents = λ contents leaves. (
    let found = uses (history_of p) (record (store_of old) { sealed = w.generation; writer = None }) (sealed_with w k.held k.stands.kept.checkpoint.content) (now (states new.disk)) x.stands (λ v e. absurd (none_some v e)) contents leaves in
    (found.0, found.1, found.2 ∙ same)
    ) in
    record { read = all _ (λ n below. seen_may_stay (now (states new.disk) n) (whole n below)); left = all }

-- ---- where no call is due

-- what a stop leaves now
pub stops_now : {D : Type 0} (states : D → List Files) (honest : D → Type 0) (n : ℕ) (done : List Command) (old : Keeper D) (p : Record) → StoresStop → Fits states honest n done old p → honest old.disk → StopsFit (history_of p) old (now (states old.disk))
stops_now {D} states honest n done old p stops f h = by_broken old.is_broken refl
  where
    by_broken : (b : Bool) → old.is_broken ≡ b → StopsFit (history_of p) old (now (states old.disk))
    by_broken true is = f.stores.stopped is h
    by_broken false is = (let k = f.stores.works is h in staged_so (history_of p) old (now (states old.disk)) (now (states old.disk)) k (stops (history_of p) (store_of old) k.held (now (states old.disk)) k.stands))

pub due_or : (o : Option Call) → (o ≡ None) ⊎ ((call : Call) × (o ≡ Some call))
due_or None = inl refl
due_or (Some call) = inr (call, refl)
