-- What a keeper fits once its checkpoint is to be sealed.
use Rattle.std.proofs.Common.{◌≡◌, ℕ, ◌+◌, ◌≤◌, List, Option, Some, false, IfSome, Result, Ok, Err, OnOk, OnErr, sym, ◌∙◌, ap, subst, arith}
use Rattle.disk_model.specs.Files.{File, Files, now}
use Rattle.map_types.specs.declared.commands.Command.{Command}
use Rattle.map_types.specs.declared.refusals.Refusal.{Refusal}
use Rattle.ticket_order.specs.declared.record.Record.{Record}
use Rattle.ticket_order.specs.Legality.{history_of}
use Rattle.store_layout.specs.Checkpoints.{Section, checkpoint_file, greatest_mark}
use Rattle.checkpoint_file.specs.States.{CheckpointState}
use Rattle.checkpoint_file.specs.CheckpointStates as checkpoint
use Rattle.store_layout.specs.declared.checkpoint_phase.CheckpointPhase.TheVariants.{Header}
use Rattle.store_invariant.specs.Laws.{SealBegins}
use Rattle.store_invariant.specs.States.{StoreState}
use Rattle.store_invariant.specs.StoreStates as store
use Rattle.flusher.specs.declared.keeper.Keeper.{Keeper}
use Rattle.flusher.specs.Fitting.{Fits, store_of}
use Rattle.checkpoint_walk.specs.Checkpointing.{HasGiven}
use Rattle.checkpoint_walk.proofs.ChangedKeepers.{fits_changed}

-- the checkpoint that is written, of what is known of a store
pub writes_in : (state : StoreState) (held : _) (file : File) (w : CheckpointState) → state.writer ≡ Some w → store.WriterStands state.writer state held file → store.Writes w state held file
writes_in state held file w is k = subst (λ (o : Option CheckpointState). store.WriterStands o state held file) is k

-- a fact of the checkpoint that is written
pub of_writer : (P : CheckpointState → Type 0) (o : Option CheckpointState) (w : CheckpointState) → o ≡ Some w → IfSome o P → P w
of_writer P o w is k = subst (λ (x : Option CheckpointState). IfSome x P) is k

sealed_so : {D : Type 0} (states : D → List Files) (honest : D → Type 0) (n : ℕ) (done : List Command) (old : Keeper D) (p : Record) (w : CheckpointState) → SealBegins → Fits states honest n done old p → old.is_broken ≡ false
    → old.checkpoint ≡ Some w → w.greatest ≤ old.published → ((content : List ℕ) (sections : List Section) (file : File) → checkpoint.Stands w content sections file → checkpoint.Stands (record w { phase = Header }) content sections file)
    → Fits states honest n done (record old { checkpoint = Some (record w { phase = Header }) }) p
sealed_so {D} states honest n done old p w seals f works is reached stays =
    let u = f.stores.unbroken works in
    fits_changed states honest n done old p old.next (Some (record w { phase = Header })) old.capture f works (of_writer (λ x. x.stripes ≡ n) old.checkpoint w is f.stripes.writer) f.rotation
    (record { log = u.log; next = u.next; writer = of_writer (λ x. x.is_broken ≡ false) old.checkpoint w is u.writer })
    (λ h. (
    let k = f.stores.works works h in
    let x : store.Writes w (store_of old) k.held (now (states old.disk) (checkpoint_file (old.sealed + 1))) = writes_in (store_of old) k.held _ w is k.stands.kept.writer in
    let at : checkpoint.Stands w k.held.other k.held.sections (now (states old.disk) (checkpoint_file w.generation)) =
    subst (λ (g : ℕ). checkpoint.Stands w k.held.other k.held.sections (now (states old.disk) (checkpoint_file g))) (sym x.generation) x.stands in
    let all : greatest_mark k.held.sections ≤ old.log.committed = omega (arith, at.knows.greatest, reached, f.tells.durable) in
    record {
      held = k.held;
      stands = seals (history_of p) (store_of old) k.held (now (states old.disk)) w k.stands is all (stays k.held.other k.held.sections _ at);
      staged_is = k.staged_is;
      must_close_is = k.must_close_is;
    }
    ))

pub fits_sealing : {D : Type 0} (states : D → List Files) (honest : D → Type 0) (n : ℕ) (done : List Command) (old : Keeper D) (p : Record) (w v : CheckpointState) (r : Result (Unit {0}) Refusal) → SealBegins
    → Fits states honest n done old p → old.is_broken ≡ false → old.checkpoint ≡ Some w → OnOk r (v ≡ record w { phase = Header }) → OnOk r (w.greatest ≤ old.published)
    → OnOk r ((content : List ℕ) (sections : List Section) (file : File) → checkpoint.Stands w content sections file → checkpoint.Stands v content sections file) → OnErr r (v ≡ w)
    → Fits states honest n done (record old { checkpoint = Some v }) p
fits_sealing {D} states honest n done old p w v (Ok x) seals f works is to reached stays same =
    subst (λ (z : CheckpointState). Fits states honest n done (record old { checkpoint = Some z }) p) (sym to)
    (sealed_so states honest n done old p w seals f works is reached (λ content sections file k. subst (λ (z : CheckpointState). checkpoint.Stands z content sections file) to (stays content sections file k)))
fits_sealing {D} states honest n done old p w v (Err e) seals f works is to reached stays same =
    subst (λ (o : Option CheckpointState). Fits states honest n done (record old { checkpoint = o }) p) (is ∙ ap Some (sym same)) f

pub given_sealing : (files : Files) (o : Option CheckpointState) (w v : CheckpointState) (r : Result (Unit {0}) Refusal) (sections : List Section) → o ≡ Some w → OnOk r (v ≡ record w { phase = Header })
    → OnOk r ((content : List ℕ) (sections : List Section) (file : File) → checkpoint.Stands w content sections file → checkpoint.Stands v content sections file) → OnErr r (v ≡ w) → HasGiven o sections files → HasGiven (Some v) sections files
given_sealing files o w v (Ok x) sections is to stays same k =
    let given : HasGiven (Some w) sections files = subst (λ (z : Option CheckpointState). HasGiven z sections files) is k in
    (given.0, subst (λ (g : ℕ). checkpoint.Stands v given.0 sections (files (checkpoint_file g))) (sym (ap (λ (z : CheckpointState). z.generation) to)) (stays given.0 sections _ given.1))
given_sealing files o w v (Err e) sections is to stays same k = subst (λ (z : Option CheckpointState). HasGiven z sections files) (is ∙ ap Some (sym same)) k
