-- A stop within a device call of a life.
use Rattle.std.proofs.Common.{◌≡◌, ℕ, ◌<◌, ◌%◌, ◌+◌, List, Option, None, Some, Bool, true, false, Result, Ok, Err, IfSome, refl, sym, ◌∙◌, ap, subst, arith}
use Rattle.map_types.specs.declared.refusals.Refusal.{Refusal}
use Rattle.one_history.specs.declared.book.Book.{Book}
use Rattle.one_history.specs.Turns.{record_of}
use Rattle.ticket_order.specs.Legality.{history_of}
use Rattle.disk_model.specs.Files as disk
use Rattle.disk_model.specs.Files.{Files, now}
use Rattle.disk_model.specs.Gates.{Call, writes, syncs}
use Rattle.disk_model.specs.Moments.{AtEachMoment}
use Rattle.store_layout.specs.Checkpoints.{checkpoint_file}
use Rattle.store_layout.specs.Logs.{log_file}
use Rattle.store_layout.specs.declared.checkpoint_phase.CheckpointPhase.{CheckpointPhase}
use Rattle.store_layout.specs.declared.log_phase.Phase.{Phase}
use Rattle.checkpoint_file.specs.States.{CheckpointState}
use Rattle.checkpoint_walk.specs.Checkpointing.{call_due}
use Rattle.flusher.specs.declared.keeper.Keeper.{Keeper}
use Rattle.flusher.specs.Fitting.{StopsFit}
use Rattle.flusher.specs.Rotating.{due_of, logs_of}
use Rattle.sim_rules.specs.declared.event.Side.{Side}
use Rattle.sim_rules.specs.declared.event.Side.TheVariants as side
use Rattle.sim_rules.specs.declared.outcome.DeviceCall.{DeviceCall}
use Rattle.sim_rules.specs.declared.outcome.DeviceCall.TheVariants as device
use Rattle.sim_rules.specs.World.{World, Life}
use Rattle.sim_rules.specs.After.{call_of, called, entered, file_of}
use Rattle.sim_rules.specs.Cases.{IsDue}
use Rattle.sim_rules.specs.Due.{checkpoint_call, due_call, due_file, log_call}
use Rattle.sim_rules.specs.Laws.{KnownStands}
use Rattle.sim_keeper.specs.Laws.{CallsAreTold, CheckpointAnswers, CheckpointCallIsTold, FilesAreTold, LogAnswers, LogCallIsTold, StagedIsTold, file_due}
use Rattle.sim_keeper.specs.Promises.{IsMade, TriesCheckpoint, TriesLog}
use Rattle.sim_keeper.specs.KeeperInWorld.{KeeperStands}
use Rattle.sim_keeper.proofs.SameCall.{known_call}
use Rattle.schedule_sim.specs.declared.job.Job.{Job}
use Rattle.schedule_sim.specs.declared.traced.Traced.{Traced}
use Rattle.schedule_sim.specs.Calling.{MayCall, call_on, is_sync, number_due}
use Rattle.schedule_sim.specs.Living.{IsLifeOf}
use Rattle.schedule_sim.specs.Noting.{WasLast}
use Rattle.schedule_sim.specs.Storing.{IsInterrupted}
use Rattle.schedule_sim.specs.Tracing.{traced_honest, traced_states}
use Rattle.schedule_sim.proofs.Devices.{Leaves, checkpoint_made, due_told, has_due, log_made, newest_has, noted, phase_due, planned_fits, planned_stands}
use Rattle.schedule_sim.proofs.LivesParts.{fits_now, life_there}
use Rattle.schedule_sim.proofs.Stopping.{life_keeps}
use Rattle.schedule_sim.proofs.TracedCalls.{HasOneMore}

-- ---- the life that is there

-- it is the one that the world names
standing : (w : World) (keeper : Keeper Traced) (b : Book) (jobs : List Job) → IsLifeOf w keeper b jobs → (l : Life) → w.life ≡ Some l → KeeperStands traced_states keeper (record_of 64 b) w l
standing w keeper b jobs a l life =
    let there = life_there w keeper b jobs a in
    let same : Some there.0 ≡ Some l = sym there.1.life ∙ life in
    subst (λ (v : Life). KeeperStands traced_states keeper (record_of 64 b) w v) (let e : there.0 ≡ l = cc in e) there.1.keeper_stands

-- ---- a stop within a sync

sync_of : (o : Option Call) → is_sync o ≡ true → o ≡ Some syncs
sync_of None is = absurd (let no : false ≡ true = is in cc)
sync_of (Some (writes at bytes)) is = absurd (let no : false ≡ true = is in cc)
sync_of (Some syncs) is = refl

of_side : (s : Side) (keeper : Keeper Traced) (l : Life) → (log_file (due_of (logs_of keeper)).generation ≡ due_file l side.Log) × (file_due keeper.checkpoint ≡ due_file l side.Checkpoint) → number_due s keeper ≡ due_file l s
of_side side.Log keeper l told = told.0
of_side side.Checkpoint keeper l told = told.1

told_call : CallsAreTold traced_states traced_honest → (s : Side) (w : World) (keeper : Keeper Traced) (b : Book) (jobs : List Job) (call : Call) → IsLifeOf w keeper b jobs → MayCall s keeper → call_on s keeper ≡ Some call
    → (l : Life) → w.life ≡ Some l → (low : ℕ) × (call ≡ due_call w l low s)
told_call law side.Log w keeper b jobs call a may due l life =
    (0, (law b.stripes a.done keeper (record_of 64 b) w l call (fits_now w keeper b jobs a may.no_capture) tt (standing w keeper b jobs a l life) may.works).0 due)
told_call law side.Checkpoint w keeper b jobs call a may due l life =
    (law b.stripes a.done keeper (record_of 64 b) w l call (fits_now w keeper b jobs a may.no_capture) tt (standing w keeper b jobs a l life) may.works).1 due

halved : (n : ℕ) → n % 2 < 2
halved n = omega arith

checkpoint_below : (o : Option CheckpointState) → file_due o < 4
checkpoint_below None = omega arith
checkpoint_below (Some v) = omega (arith, halved v.generation)

number_below : (s : Side) (keeper : Keeper Traced) → number_due s keeper < 4
number_below side.Log keeper = omega (arith, halved (due_of (logs_of keeper)).generation)
number_below side.Checkpoint keeper = checkpoint_below keeper.checkpoint

pub interrupted_sync : KnownStands → StagedIsTold traced_states traced_honest → FilesAreTold traced_states traced_honest → CallsAreTold traced_states traced_honest → (s : Side) (w : World) (keeper : Keeper Traced) (b : Book) (jobs : List Job) (file : ℕ)
    → IsLifeOf w keeper b jobs → MayCall s keeper → is_sync (call_on s keeper) ≡ true → StopsFit (history_of (record_of 64 b)) keeper (now (traced_states keeper.disk)) → file ≡ number_due s keeper
    → IsInterrupted w s (device.Sync file) keeper.disk
interrupted_sync stand staged files calls s w keeper b jobs file a may is stops named = record {
  due = λ l life.
      let told = told_call calls s w keeper b jobs syncs a may (sync_of (call_on s keeper) is) l life in
      let there = files b.stripes a.done keeper (record_of 64 b) w l (fits_now w keeper b jobs a may.no_capture) tt (standing w keeper b jobs a l life) may.works in
      record {
        file = named ∙ of_side s keeper l there;
        low = told.0;
        what = told.1;
        possible = record { file = subst (λ n. n < 4) (sym named) (number_below s keeper); place = tt; bytes = λ i. omega arith };
      };
  state = sym (life_there w keeper b jobs a).1.keeper_stands.files;
  stops = λ l life contents leaves. life_keeps stand staged w l keeper b jobs a life (now (traced_states keeper.disk)) stops contents leaves;
}

-- ---- a stop within a write

entered_called : (call : DeviceCall) (files : Files) → is_sync (Some (call_of call)) ≡ false → entered call files ≡ called call files
entered_called (device.Write file at bytes) files is = refl
entered_called (device.Sync file) files is = absurd (let no : true ≡ false = is in cc)

-- a write that was made is the one that is due
pub record IsWritten (w : World) (s : Side) (call : DeviceCall) : Type 0 where
  pub due : (l : Life) → w.life ≡ Some l → IsDue w l s call
  pub writes : is_sync (Some (call_of call)) ≡ false

pub interrupted_write : KnownStands → StagedIsTold traced_states traced_honest → (s : Side) (w : World) (keeper : Keeper Traced) (b : Book) (jobs : List Job) (call : DeviceCall) (planned made last : Traced) → IsLifeOf w keeper b jobs
    → traced_states planned ≡ traced_states keeper.disk → HasOneMore (traced_states made) (traced_states planned) → AtEachMoment traced_states planned made (StopsFit (history_of (record_of 64 b)) keeper)
    → traced_states last ≡ traced_states made → WasLast None call (traced_states last) → IsWritten w s call → IsInterrupted w s call last
interrupted_write stand staged s w keeper b jobs call planned made last a plan more moments same was written =
    let there = life_there w keeper b jobs a in
    let at : now (traced_states planned) ≡ w.files = ap now plan ∙ sym there.1.keeper_stands.files in
    let is = noted None call (traced_states planned) (traced_states made) more (subst (λ states. WasLast None call states) same was) in
    record {
      due = written.due;
      state = ap now same ∙ is.state ∙ ap (λ files. called call files) at ∙ sym (entered_called call w.files written.writes);
      stops = λ l life contents leaves. life_keeps stand staged w l keeper b jobs a life (now (traced_states made))
          (newest_has (StopsFit (history_of (record_of 64 b)) keeper) (traced_states made) (traced_states planned) moments.added moments.longer moments.first moments.each)
          contents (subst (λ states. disk.Leaves (now states) contents) same leaves);
    }

-- of the log
pub log_written : LogCallIsTold traced_states traced_honest → CheckpointCallIsTold traced_states → (failures : Traced → ℕ) → LogAnswers traced_states failures traced_honest → (w : World) (keeper : Keeper Traced) (b : Book) (jobs : List Job)
    (planned last : Traced) (made : Keeper Traced) (call : DeviceCall) (phase : Phase) (result : Result Phase Refusal) → result ≡ Ok phase → IsLifeOf w keeper b jobs → MayCall side.Log keeper
    → is_sync (call_on side.Log keeper) ≡ false → traced_states planned ≡ traced_states keeper.disk → TriesLog traced_states failures traced_honest (record keeper { disk = planned }) made result
    → traced_states last ≡ traced_states made.disk → WasLast None call (traced_states last) → file_of call ≡ number_due side.Log keeper → IsWritten w side.Log call
log_written log checkpoint failures law w keeper b jobs planned last made call phase result ok a may unsynced plan tries same was named =
    let fit = planned_fits b.stripes a.done keeper (record_of 64 b) planned plan (fits_now w keeper b jobs a may.no_capture) in
    let more = log_made keeper failures planned made.disk (logs_of made) result may tries.steps in
    let left : Leaves None call (traced_states planned) (traced_states made.disk) =
    noted None call (traced_states planned) (traced_states made.disk) more (subst (λ states. WasLast None call states) same was) in
    let is_made : IsMade traced_states call planned made.disk = record { possible = left.possible; state = left.state } in
    let tried : TriesLog traced_states failures traced_honest (record keeper { disk = planned }) made (Ok phase) = subst (λ r. TriesLog traced_states failures traced_honest (record keeper { disk = planned }) made r) ok tries in
    let steps = tried.steps may.works (phase_due (due_of (logs_of keeper)).phase (due_of (logs_of keeper)) may.due) in
    let known : call_of call ≡ steps.call =
    known_call (call_of call) steps.call (file_of call) (log_file (due_of (logs_of keeper)).generation) (now (traced_states planned)) (now (traced_states made.disk)) named left.state (ap now steps.ok.2.state) in
    record {
      due = λ l life.
          let stands = standing w keeper b jobs a l life in
          (law b.stripes a.done (record keeper { disk = planned }) made (record_of 64 b) w l call phase fit tt (planned_stands keeper (record_of 64 b) w l planned plan stands) may.works
          (due_told log checkpoint side.Log w keeper b jobs l a stands may.no_capture may.works ∙ may.due) tried is_made named).happens.1;
      writes = ap (λ c. is_sync (Some c)) known ∙ ap is_sync (sym steps.due) ∙ unsynced;
    }

-- of the checkpoint
pub checkpoint_written : LogCallIsTold traced_states traced_honest → CheckpointCallIsTold traced_states → (failures : Traced → ℕ) → CheckpointAnswers traced_states failures traced_honest → (w : World) (keeper : Keeper Traced) (b : Book) (jobs : List Job)
    (planned last : Traced) (made : Keeper Traced) (call : DeviceCall) (phase : CheckpointPhase) (result : Result CheckpointPhase Refusal) → result ≡ Ok phase → IsLifeOf w keeper b jobs → MayCall side.Checkpoint keeper
    → is_sync (call_on side.Checkpoint keeper) ≡ false → traced_states planned ≡ traced_states keeper.disk → TriesCheckpoint traced_states failures traced_honest (record keeper { disk = planned }) made result
    → traced_states last ≡ traced_states made.disk → WasLast None call (traced_states last) → file_of call ≡ number_due side.Checkpoint keeper → IsWritten w side.Checkpoint call
checkpoint_written log checkpoint failures law w keeper b jobs planned last made call phase result ok a may unsynced plan tries same was named =
    let fit = planned_fits b.stripes a.done keeper (record_of 64 b) planned plan (fits_now w keeper b jobs a may.no_capture) in
    let more = checkpoint_made keeper made failures planned result may tries.steps in
    let left : Leaves None call (traced_states planned) (traced_states made.disk) =
    noted None call (traced_states planned) (traced_states made.disk) more (subst (λ states. WasLast None call states) same was) in
    let is_made : IsMade traced_states call planned made.disk = record { possible = left.possible; state = left.state } in
    let tried : TriesCheckpoint traced_states failures traced_honest (record keeper { disk = planned }) made (Ok phase) = subst (λ r. TriesCheckpoint traced_states failures traced_honest (record keeper { disk = planned }) made r) ok tries in
    let d = has_due keeper.next keeper.checkpoint may.due in
    let steps = tried.steps may.works d.call d.state d.due d.writer_is in
    let known : call_of call ≡ d.call =
    known_call (call_of call) d.call (file_of call) (checkpoint_file d.state.generation) (now (traced_states planned)) (now (traced_states made.disk)) (named ∙ ap file_due d.writer_is) left.state (ap now steps.ok.2.state) in
    record {
      due = λ l life.
          let stands = standing w keeper b jobs a l life in
          (law b.stripes a.done (record keeper { disk = planned }) made (record_of 64 b) w l call phase fit tt (planned_stands keeper (record_of 64 b) w l planned plan stands) may.works
          (due_told log checkpoint side.Checkpoint w keeper b jobs l a stands may.no_capture may.works ∙ may.due) tried is_made named).happens.1;
      writes = ap (λ c. is_sync (Some c)) known ∙ ap is_sync (sym d.due) ∙ unsynced;
    }
