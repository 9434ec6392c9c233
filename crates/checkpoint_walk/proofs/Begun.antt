-- What a keeper fits once a checkpoint is begun.
use Rattle.std.proofs.Common.{◌≡◌, ◌≢◌, ℕ, ◌+◌, List, [], Option, None, Some, false, refl, sym, ◌∙◌, ap, subst}
use Rattle.disk_model.specs.Files.{File, Files, at_rest, now}
use Rattle.map_types.specs.declared.commands.Command.{Command}
use Rattle.ticket_order.specs.declared.stripe.Entry.{Entry}
use Rattle.ticket_order.specs.declared.record.Record.{Record}
use Rattle.ticket_order.specs.Legality.{history_of}
use Rattle.store_layout.specs.Checkpoints.{Checkpoint, checkpoint_file, is_to_close}
use Rattle.store_layout.specs.Logs.{Batch}
use Rattle.store_layout.specs.declared.log_phase.Phase.{Phase}
use Rattle.store_layout.specs.declared.log_phase.Phase.TheVariants.{Idle}
use Rattle.gate_log.specs.States.{IsResting, LogState}
use Rattle.gate_log.specs.States as log_states
use Rattle.gate_log.specs.LogStates as gate_log
use Rattle.checkpoint_file.specs.States.{CheckpointState, begun}
use Rattle.checkpoint_file.specs.CheckpointStates as checkpoint
use Rattle.store_invariant.specs.Laws.{CheckpointBegins, RotationBegins}
use Rattle.store_invariant.specs.States.{Held, StoreState}
use Rattle.store_invariant.specs.StoreStates as store
use Rattle.flusher.specs.declared.keeper.Keeper.{Keeper}
use Rattle.flusher.specs.Fitting.{Fits, IsEmptyIn, store_of}
use Rattle.flusher.specs.Rotating.{Rotates}
use Rattle.checkpoint_walk.specs.Checkpointing.{HasGiven}
use Rattle.checkpoint_walk.proofs.ChangedKeepers.{fits_changed}

-- a newest log that isn't that of the sealed checkpoint is that of the next
next_generation : (k : Checkpoint) (first : List Batch) (second : Option (List Batch)) (newest : LogState) (staged : List Batch) (files : Files) (sealed : ℕ) → store.LogsStand k first second newest staged files → k.generation ≡ sealed
    → newest.generation ≢ sealed → newest.generation ≡ sealed + 1
next_generation k first None newest staged files sealed x same other = absurd (other (x.0 ∙ same))
next_generation k first (Some second) newest staged files sealed x same other = x.0 ∙ ap (λ g. g + 1) same

-- nothing is pending in the file of the next checkpoint
resting_file : (state : StoreState) (held : Held) (file : File) → state.writer ≡ None → store.WriterStands state.writer state held file → file ≡ at_rest held.other
resting_file state held file none_ k = (subst (λ (o : Option CheckpointState). store.WriterStands o state held file) none_ k).0

no_batch : (phase : Phase) (staged : List Entry) → phase ≡ Idle → IsEmptyIn phase staged → staged ≡ []
no_batch phase staged is k = subst (λ ph. IsEmptyIn ph staged) is k

-- where none runs the checkpoint that is begun has no section
pub given_begun : {D : Type 0} (states : D → List Files) (honest : D → Type 0) (n : ℕ) (done : List Command) (old : Keeper D) (p : Record) (low : ℕ) (v : CheckpointState) → Fits states honest n done old p → old.is_broken ≡ false
    → old.checkpoint ≡ None → v ≡ begun (old.sealed + 1) low old.stripes.count old.must_close → ((content : List ℕ) → old.must_close ≡ is_to_close content → checkpoint.Stands v content [] (at_rest content)) → honest old.disk
    → HasGiven (Some v) [] (now (states old.disk))
given_begun {D} states honest n done old p low v f works none_ is stands h =
    let k = f.stores.works works h in
    let rests : now (states old.disk) (checkpoint_file (old.sealed + 1)) ≡ at_rest k.held.other = resting_file (store_of old) k.held _ none_ k.stands.kept.writer in
    let there : now (states old.disk) (checkpoint_file v.generation) ≡ at_rest k.held.other = ap (λ (z : CheckpointState). now (states old.disk) (checkpoint_file z.generation)) is ∙ rests in
    (k.held.other, subst (λ (z : File). checkpoint.Stands v k.held.other [] z) (sym there) (stands k.held.other k.must_close_is))

-- its log is there
pub fits_begun : {D : Type 0} (states : D → List Files) (honest : D → Type 0) (n : ℕ) (done : List Command) (old : Keeper D) (p : Record) (v : CheckpointState) → CheckpointBegins → Fits states honest n done old p → old.is_broken ≡ false
    → old.checkpoint ≡ None → old.next ≡ None → old.log.generation ≢ old.sealed → v ≡ begun (old.sealed + 1) old.log.low old.stripes.count old.must_close
    → ((content : List ℕ) → old.must_close ≡ is_to_close content → checkpoint.Stands v content [] (at_rest content)) → Fits states honest n done (record old { checkpoint = Some v }) p
fits_begun {D} states honest n done old p v begins f works none_ alone other is stands =
    let u = f.stores.unbroken works in
    let w : CheckpointState = begun (old.sealed + 1) old.log.low old.stripes.count old.must_close in
    subst (λ (z : CheckpointState). Fits states honest n done (record old { checkpoint = Some z }) p) (sym is)
    (fits_changed states honest n done old p old.next (Some w) old.capture f works f.stripes.count f.rotation (record { log = u.log; next = u.next; writer = refl }) (λ h. (
    let k = f.stores.works works h in
    let generation : old.log.generation ≡ old.sealed + 1 =
    next_generation k.held.found.checkpoint k.held.found.first k.held.found.second old.log k.held.staged (now (states old.disk)) old.sealed k.stands.kept.logs k.stands.kept.sealed other in
    record {
      held = k.held;
      stands = begins (history_of p) (store_of old) k.held (now (states old.disk)) old.stripes.count old.must_close k.stands none_ alone generation
          (subst (λ (z : CheckpointState). checkpoint.Stands z k.held.other [] (at_rest k.held.other)) is (stands k.held.other k.must_close_is));
      staged_is = k.staged_is;
      must_close_is = k.must_close_is;
    }
    )))

-- and its log is begun with it
pub fits_rotating : {D : Type 0} (states : D → List Files) (honest : D → Type 0) (n : ℕ) (done : List Command) (old : Keeper D) (p : Record) (log : LogState) (v : CheckpointState) → RotationBegins → Fits states honest n done old p
    → old.is_broken ≡ false → old.checkpoint ≡ None → old.next ≡ None → old.log.generation ≡ old.sealed → IsResting old.log → log ≡ log_states.begun (old.sealed + 1) old.log.committed → ((file : File) → gate_log.Stands log [] [] file)
    → v ≡ begun (old.sealed + 1) old.log.committed old.stripes.count old.must_close → ((content : List ℕ) → old.must_close ≡ is_to_close content → checkpoint.Stands v content [] (at_rest content))
    → Fits states honest n done (record old { next = Some log; checkpoint = Some v }) p
fits_rotating {D} states honest n done old p log v begins f works none_ alone same rests log_is log_stands is stands =
    let u = f.stores.unbroken works in
    let w : CheckpointState = begun (old.sealed + 1) old.log.committed old.stripes.count old.must_close in
    let next : LogState = log_states.begun (old.sealed + 1) old.log.committed in
    let turns : Rotates next old.log old.staged.items = record {
      is = ap (λ g. log_states.begun (g + 1) old.log.committed) (sym same);
      turn = rests;
      ready = subst gate_log.IsReady (sym rests.0) tt;
      none_staged = no_batch old.log.phase old.staged.items rests.0 f.counts.empty;
    } in
    subst (λ (z : CheckpointState). Fits states honest n done (record old { next = Some log; checkpoint = Some z }) p) (sym is)
    (subst (λ (z : LogState). Fits states honest n done (record old { next = Some z; checkpoint = Some w }) p) (sym log_is)
    (fits_changed states honest n done old p (Some next) (Some w) old.capture f works f.stripes.count turns (record { log = u.log; next = refl; writer = refl }) (λ h. (
    let k = f.stores.works works h in
    record {
      held = k.held;
      stands = begins (history_of p) (store_of old) k.held (now (states old.disk)) old.stripes.count old.must_close k.stands none_ alone same rests
          (λ file. subst (λ (z : LogState). gate_log.Stands z [] [] file) log_is (log_stands file))
          (subst (λ (z : CheckpointState). checkpoint.Stands z k.held.other [] (at_rest k.held.other)) is (stands k.held.other k.must_close_is));
      staged_is = k.staged_is;
      must_close_is = k.must_close_is;
    }
    ))))
