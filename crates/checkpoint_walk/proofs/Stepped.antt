-- What the step of a checkpoint shows.
use Rattle.std.proofs.Common.{◌≡◌, inl, inr, ℕ, List, Option, None, Some, true, false, Result, Ok, Err, OnOk, OnErr, sym, ◌∙◌, ap, subst}
use Rattle.disk_model.specs.Files.{AreCoherent, Files, now}
use Rattle.disk_model.specs.Gates.{Call}
use Rattle.disk_model.specs.Moments.{AtEachMoment}
use Rattle.map_types.specs.declared.commands.Command.{Command}
use Rattle.map_types.specs.declared.refusals.Refusal.{Refusal}
use Rattle.ticket_order.specs.declared.record.Record.{Record}
use Rattle.ticket_order.specs.Legality.{history_of}
use Rattle.gate_log.specs.States.{LogState}
use Rattle.store_layout.specs.Checkpoints.{Section, checkpoint_file}
use Rattle.store_layout.specs.OpeningLaws.{OneCheckpoint}
use Rattle.store_layout.specs.declared.checkpoint_phase.CheckpointPhase.{CheckpointPhase}
use Rattle.store_layout.specs.declared.checkpoint_phase.CheckpointPhase.TheVariants as phase
use Rattle.checkpoint_file.specs.CheckpointSteps.{Advances}
use Rattle.checkpoint_file.specs.States.{CheckpointState, call_in}
use Rattle.checkpoint_file.specs.CheckpointStates as checkpoint
use Rattle.checkpoint_file.specs.CheckpointStates.{checkpoint_of}
use Rattle.store_invariant.specs.Laws.{CheckpointIsSealed, StopsUseCheckpoint, StoresStop, WriterStepsOn, WriterStepsStop}
use Rattle.flusher.specs.declared.keeper.Keeper.{Keeper}
use Rattle.flusher.specs.Fitting.{Fits, StopsFit}
use Rattle.checkpoint_walk.specs.Checkpointing.{Checkpoints, HasGiven, KeepsAfter, StepsCheckpoint, call_due, checkpoints_of, kept_in}
use Rattle.store_layout.specs.UsedCheckpoint.{UsesCheckpoint}
use Rattle.checkpoint_walk.proofs.Advanced.{Steps, due_or, fits_stepped, kept_other, moments, none_made, opened_or, same_after, stops_now, used_then}

-- What the step of the checkpoint w ensures, which the keeper wrote.
pub record Made {D : Type 0} (states : D → List Files) (failures : D → ℕ) (honest : D → Type 0) (w : CheckpointState) (old new : Keeper D) (result : Result CheckpointPhase Refusal) : Type 0 where
  pub works : old.is_broken ≡ false
  pub writer : old.checkpoint ≡ Some w
  pub alone : old.next ≡ None
  pub rests : call_in w.phase w ≡ None → (result ≡ Ok w.phase) × (new ≡ record old { checkpoint = Some w })
  pub advances : (call : Call) → call_in w.phase w ≡ Some call → (after : CheckpointState) × Advances states failures honest call w after old.disk new.disk result × KeepsAfter result w.phase after (record (checkpoints_of old) { writer = Some w }) (checkpoints_of new)
  pub on : OnOk result (new.is_broken ≡ false)
  pub off : OnErr result (new.is_broken ≡ true)
  pub same : new ≡ record old { disk = new.disk; sealed = new.sealed; checkpoint = new.checkpoint; must_close = new.must_close; is_broken = new.is_broken }

steps_of : {D : Type 0} (states : D → List Files) (failures : D → ℕ) (honest : D → Type 0) (w : CheckpointState) (old new : Keeper D) (result : Result CheckpointPhase Refusal) (call : Call) → Made states failures honest w old new result → call_in w.phase w ≡ Some call
    → Steps states failures honest call w old new result
steps_of {D} states failures honest w old new result call m due = (
    let x = m.advances call due in
    record { after = x.0; made = x.1; keeps = subst (λ (o : Option CheckpointState). KeepsAfter result w.phase x.0 (record (checkpoints_of old) { writer = o }) (checkpoints_of new)) (sym m.writer) x.2; works = m.works; writer = m.writer; alone = m.alone; on = m.on; off = m.off; same = m.same }
    )

unchanged : {D : Type 0} (states : D → List Files) (failures : D → ℕ) (honest : D → Type 0) (w : CheckpointState) (old new : Keeper D) (result : Result CheckpointPhase Refusal) → Made states failures honest w old new result → call_in w.phase w ≡ None → new ≡ old
unchanged {D} states failures honest w old new result m none_ = (m.rests none_).1 ∙ ap (λ (o : Option CheckpointState). record old { checkpoint = o }) (sym m.writer)

pub made_fits : {D : Type 0} (states : D → List Files) (failures : D → ℕ) (honest : D → Type 0) (n : ℕ) (done : List Command) (w : CheckpointState) (old new : Keeper D) (p : Record) (result : Result CheckpointPhase Refusal)
    → WriterStepsStop → WriterStepsOn → CheckpointIsSealed → Made states failures honest w old new result → Fits states honest n done old p → Fits states honest n done new p
made_fits {D} states failures honest n done w old new p result stops goes seals m f = elim (due_or (call_in w.phase w)) [
  | inl none_ ↦ subst (λ (k : Keeper D). Fits states honest n done k p) (sym (unchanged states failures honest w old new result m none_)) f
  | inr x ↦ fits_stepped states failures honest n done x.0 w old new p result stops goes seals f (steps_of states failures honest w old new result x.0 m x.1)
]

pub made_moments : {D : Type 0} (states : D → List Files) (failures : D → ℕ) (honest : D → Type 0) (n : ℕ) (done : List Command) (w : CheckpointState) (old new : Keeper D) (p : Record) (result : Result CheckpointPhase Refusal)
    → StoresStop → WriterStepsStop → Made states failures honest w old new result → Fits states honest n done old p → honest old.disk → AtEachMoment states old.disk new.disk (StopsFit (history_of p) old)
made_moments {D} states failures honest n done w old new p result rest stops m f h = elim (due_or (call_in w.phase w)) [
  | inl none_ ↦ none_made states old.disk new.disk (StopsFit (history_of p) old) (ap (λ (k : Keeper D). k.disk) (unchanged states failures honest w old new result m none_)) (stops_now states honest n done old p rest f h)
  | inr x ↦ moments states failures honest n done x.0 w old new p result stops f (steps_of states failures honest w old new result x.0 m x.1) h
]

always : {A E : Type 0} (P : Type 0) (r : Result A E) → P → OnOk r P
always P (Ok x) k = k
always P (Err e) k = tt

some_same : (a b : CheckpointState) → Some a ≡ Some b → a ≡ b
some_same a b e = cc

none_some : (v : CheckpointState) → None ≡ Some v → ⊥
none_some v e = cc

given_then : {D : Type 0} (states : D → List Files) (failures : D → ℕ) (honest : D → Type 0) (call : Call) (w v : CheckpointState) (old new : Keeper D) (result : Result CheckpointPhase Refusal) (sections : List Section) → Steps states failures honest call w old new result
    → HasGiven old.checkpoint sections (now (states old.disk)) → new.checkpoint ≡ Some v → OnOk result (HasGiven (Some v) sections (now (states new.disk)))
given_then {D} states failures honest call w v old new (Err e) sections s given is = tt
given_then {D} states failures honest call w v old new (Ok ph) sections s given is = elim (opened_or w.phase) [
  | inl last ↦ absurd (none_some v (sym (ap (λ (c : Checkpoints). c.writer) (s.keeps ∙ ap (λ (z : CheckpointPhase). kept_in z s.after (checkpoints_of old)) last)) ∙ is))
  | inr other ↦ (
      let same : s.after ≡ v = some_same s.after v (sym (ap (λ (c : Checkpoints). c.writer) (s.keeps ∙ kept_other w.phase s.after (checkpoints_of old) other)) ∙ is) in
      let theirs : HasGiven (Some w) sections (now (states old.disk)) = subst (λ (o : Option CheckpointState). HasGiven o sections (now (states old.disk))) s.writer given in
      let generation : w.generation ≡ s.after.generation = sym (ap (λ (z : CheckpointState). z.generation) s.made.ok.0 ∙ (same_after w.phase w).generation) in
      let stands : checkpoint.Stands s.after theirs.0 sections (now (states new.disk) (checkpoint_file w.generation)) = s.made.stands theirs.0 sections theirs.1 in
      subst (λ (z : CheckpointState). HasGiven (Some z) sections (now (states new.disk))) same
      (theirs.0, subst (λ (g : ℕ). checkpoint.Stands s.after theirs.0 sections (now (states new.disk) (checkpoint_file g))) generation stands)
      )
]

pub made_given : {D : Type 0} (states : D → List Files) (failures : D → ℕ) (honest : D → Type 0) (w v : CheckpointState) (old new : Keeper D) (result : Result CheckpointPhase Refusal) (sections : List Section) → Made states failures honest w old new result
    → HasGiven old.checkpoint sections (now (states old.disk)) → new.checkpoint ≡ Some v → OnOk result (HasGiven (Some v) sections (now (states new.disk)))
made_given {D} states failures honest w v old new result sections m given is = elim (due_or (call_in w.phase w)) [
  | inl none_ ↦ (
      let same : new ≡ old = unchanged states failures honest w old new result m none_ in
      let there : HasGiven new.checkpoint sections (now (states new.disk)) = subst (λ (k : Keeper D). HasGiven k.checkpoint sections (now (states k.disk))) (sym same) given in
      always (HasGiven (Some v) sections (now (states new.disk))) result (subst (λ (o : Option CheckpointState). HasGiven o sections (now (states new.disk))) is there)
      )
  | inr x ↦ given_then states failures honest x.0 w v old new result sections (steps_of states failures honest w old new result x.0 m x.1) given is
]

shows : {D : Type 0} (states : D → List Files) (failures : D → ℕ) (honest : D → Type 0) (call : Call) (w : CheckpointState) (old new : Keeper D) (result : Result CheckpointPhase Refusal) → Steps states failures honest call w old new result
    → StepsCheckpoint states failures honest call w old new result
shows {D} states failures honest call w old new (Ok ph) s = record {
  was_honest = s.made.was_honest;
  ok = (
    s.keeps ∙ ap (λ (x : CheckpointState). kept_in w.phase x (checkpoints_of old)) s.made.ok.0,
    s.made.ok.1 ∙ ap (λ (x : CheckpointState). x.phase) s.made.ok.0,
    s.made.ok.2,
  );
  err = tt;
}
shows {D} states failures honest call w old new (Err e) s = record {
  was_honest = s.made.was_honest;
  ok = tt;
  err = (s.made.err.0, s.keeps ∙ ap (λ (x : CheckpointState). record (checkpoints_of old) { writer = Some x }) s.made.err.1, s.made.err.2);
}

due_there : (call : Call) (w : CheckpointState) (next : Option LogState) (o : Option CheckpointState) → next ≡ None → o ≡ Some w → call_due next o ≡ Some call → call_in w.phase w ≡ Some call
due_there call w next o alone is due = subst (λ (z : Option CheckpointState). call_due None z ≡ Some call) is (subst (λ (z : Option LogState). call_due z o ≡ Some call) alone due)

pub made_steps : {D : Type 0} (states : D → List Files) (failures : D → ℕ) (honest : D → Type 0) (call : Call) (w v : CheckpointState) (old new : Keeper D) (result : Result CheckpointPhase Refusal) → Made states failures honest w old new result
    → call_due old.next old.checkpoint ≡ Some call → old.checkpoint ≡ Some v → StepsCheckpoint states failures honest call v old new result
made_steps {D} states failures honest call w v old new result m due is =
    subst (λ (z : CheckpointState). StepsCheckpoint states failures honest call z old new result) (some_same w v (sym m.writer ∙ is))
    (shows states failures honest call w old new result (steps_of states failures honest w old new result call m (due_there call w old.next old.checkpoint m.alone m.writer due)))

-- in this phase a call is due
due_opened : (w : CheckpointState) (call : Option Call) → call ≡ call_in phase.Opened w → call ≡ None → ⊥
due_opened w call is none_ = cc

pub made_uses : {D : Type 0} (states : D → List Files) (failures : D → ℕ) (honest : D → Type 0) (n : ℕ) (done : List Command) (w v : CheckpointState) (old new : Keeper D) (p : Record) (result : Result CheckpointPhase Refusal) (sections : List Section)
    → OneCheckpoint → CheckpointIsSealed → StopsUseCheckpoint → Made states failures honest w old new result → Fits states honest n done old p → honest new.disk → old.checkpoint ≡ Some v → v.phase ≡ phase.Opened → HasGiven old.checkpoint sections (now (states old.disk))
    → AreCoherent (now (states new.disk)) → OnOk result (UsesCheckpoint (checkpoint_of v sections) (now (states new.disk)))
made_uses {D} states failures honest n done w v old new p result sections one seals uses m f h is last given whole =
    let same : w ≡ v = some_same w v (sym m.writer ∙ is) in
    let opened : w.phase ≡ phase.Opened = ap (λ (z : CheckpointState). z.phase) same ∙ last in
    subst (λ (z : CheckpointState). OnOk result (UsesCheckpoint (checkpoint_of z sections) (now (states new.disk)))) same
    (elim (due_or (call_in w.phase w)) [
      | inl none_ ↦ absurd (due_opened w (call_in w.phase w) (ap (λ (z : CheckpointPhase). call_in z w) opened) none_)
      | inr x ↦ used_then states failures honest n done x.0 w old new p result sections one seals uses f (steps_of states failures honest w old new result x.0 m x.1) h opened given whole
    ])
