-- What a device call of a life's logs did.
use Rattle.std.proofs.Common.{◌≡◌, ℕ, List, None, Some, true, false, Result, Ok, Err, is_ok, refl, ◌∙◌, ap, subst}
use Rattle.map_types.specs.declared.commands.Command.{Command}
use Rattle.map_types.specs.declared.refusals.Refusal.{Refusal}
use Rattle.one_history.specs.Turns.{record_of}
use Rattle.disk_model.specs.declared.fill.Fill.{Fill}
use Rattle.store_layout.specs.Logs.{log_file}
use Rattle.store_layout.specs.declared.log_phase.Phase.{Phase}
use Rattle.flusher.specs.declared.keeper.Keeper.{Keeper}
use Rattle.flusher.specs.Fitting.{Fits, done_after}
use Rattle.flusher.specs.Rotating.{due_of, logs_of}
use Rattle.sim_rules.specs.declared.event.Ending.TheVariants as ending
use Rattle.sim_rules.specs.declared.event.Event.TheVariants as event
use Rattle.sim_rules.specs.declared.event.Side.TheVariants as side
use Rattle.sim_rules.specs.declared.outcome.DeviceCall.{DeviceCall}
use Rattle.sim_rules.specs.declared.outcome.Outcome.TheVariants as outcome
use Rattle.sim_rules.specs.After.{file_of}
use Rattle.sim_rules.specs.World.{World}
use Rattle.sim_workers.specs.Laws.{KeeperRests}
use Rattle.sim_keeper.specs.Laws.{CheckpointCallIsTold, LogAnswers, LogCallIsTold, LogFails, WalkIsTold}
use Rattle.sim_keeper.specs.Promises.{IsLost, IsMade, TriesLog}
use Rattle.schedule_sim.specs.declared.traced.Traced.{Traced}
use Rattle.schedule_sim.specs.declared.life.Life as sim
use Rattle.schedule_sim.specs.Calling.{MayCall}
use Rattle.schedule_sim.specs.Living.{Did, IsLife}
use Rattle.schedule_sim.specs.Noting.{WasLast}
use Rattle.schedule_sim.specs.Tracing.{traced_states, traced_honest}
use Rattle.schedule_sim.proofs.DeviceEnds.{ends_call}
use Rattle.schedule_sim.proofs.Devices.{log_made, noted, planned_fits}
use Rattle.schedule_sim.proofs.LivesParts.{fits_now}

-- The keeper's fit goes on with the call.
abbrev pub Refits : sim.Life → Traced → Keeper Traced → Result Phase Refusal → Type 0
Refits life planned made result = (n : ℕ) (done : List Command)
    → Fits traced_states traced_honest n done (record life.keeper { disk = planned }) (record_of 64 life.words)
    → Fits traced_states traced_honest n (done_after result life.keeper.log.phase done life.keeper.staged.items) made (record_of 64 life.words)

pub is_err : (result : Result Phase Refusal) → is_ok result ≡ false → (e : Refusal) × (result ≡ Err e)
is_err (Ok phase) fails = absurd (let wrong : true ≡ false = fails in cc)
is_err (Err e) fails = (e, refl)

-- it succeeded
pub log_calls : (w : World) (life new : sim.Life) (planned disk : Traced) (made : Keeper Traced) (failures : Traced → ℕ) (call : DeviceCall)
    (phase : Phase) (result : Result Phase Refusal) → result ≡ Ok phase → WalkIsTold traced_states → LogCallIsTold traced_states traced_honest
    → CheckpointCallIsTold traced_states → LogAnswers traced_states failures traced_honest → KeeperRests → MayCall side.Log life.keeper
    → traced_states planned ≡ traced_states life.keeper.disk
    → TriesLog traced_states failures traced_honest (record life.keeper { disk = planned }) made result → Refits life planned made result
    → traced_states disk ≡ traced_states made.disk → WasLast None call (traced_states disk) → file_of call ≡ log_file (due_of (logs_of life.keeper)).generation
    → new.keeper ≡ record made { disk = disk } → new.words ≡ life.words → new.jobs.items ≡ life.jobs.items → IsLife w life
    → Did w (event.Device side.Log ending.Done) (outcome.Logged call phase) new
log_calls w life new planned disk made failures call phase result is walks log checkpoint law leaves may plan tries refits same was named e1 e2 e3 a =
    let b = life.words in
    let fit = planned_fits b.stripes a.done life.keeper (record_of 64 b) planned plan (fits_now w life.keeper b life.jobs.items a may.no_capture) in
    let more = log_made life.keeper failures planned made.disk (logs_of made) result may tries.steps in
    let left = noted None call (traced_states planned) (traced_states made.disk) more (subst (λ states. WasLast None call states) same was) in
    let is_made : IsMade traced_states call planned made.disk = record { possible = left.possible; state = left.state } in
    ends_call w life new side.Log ending.Done (outcome.Logged call phase) planned disk made
    (done_after result life.keeper.log.phase a.done life.keeper.staged.items) walks log checkpoint leaves may plan same
    (ap (λ k. k.capture) tries.same ∙ may.no_capture) (refits b.stripes a.done fit) tt
    (λ l stands has. law b.stripes a.done (record life.keeper { disk = planned }) made (record_of 64 b) w l call phase fit tt stands may.works has
    (subst (λ r. TriesLog traced_states failures traced_honest (record life.keeper { disk = planned }) made r) is tries) is_made named) e1 e2 e3 a

-- it failed
pub log_fails : (w : World) (life new : sim.Life) (planned disk : Traced) (made : Keeper Traced) (failures : Traced → ℕ) (fill : Fill)
    (call : DeviceCall) (result : Result Phase Refusal) → is_ok result ≡ false → WalkIsTold traced_states
    → LogCallIsTold traced_states traced_honest → CheckpointCallIsTold traced_states → LogFails traced_states failures traced_honest → KeeperRests
    → MayCall side.Log life.keeper → traced_states planned ≡ traced_states life.keeper.disk
    → TriesLog traced_states failures traced_honest (record life.keeper { disk = planned }) made result → Refits life planned made result
    → traced_states disk ≡ traced_states made.disk → WasLast (Some fill) call (traced_states disk) → file_of call ≡ log_file (due_of (logs_of life.keeper)).generation
    → new.keeper ≡ record made { disk = disk } → new.words ≡ life.words → new.jobs.items ≡ life.jobs.items → IsLife w life
    → Did w (event.Device side.Log (ending.Fails fill)) (outcome.CallFailed call) new
log_fails w life new planned disk made failures fill call result fails walks log checkpoint law leaves may plan tries refits same was named e1 e2 e3 a =
    let b = life.words in
    let err = is_err result fails in
    let fit = planned_fits b.stripes a.done life.keeper (record_of 64 b) planned plan (fits_now w life.keeper b life.jobs.items a may.no_capture) in
    let more = log_made life.keeper failures planned made.disk (logs_of made) result may tries.steps in
    let left = noted (Some fill) call (traced_states planned) (traced_states made.disk) more
    (subst (λ states. WasLast (Some fill) call states) same was) in
    let is_lost : IsLost traced_states fill call planned made.disk = record { possible = left.possible; state = left.state } in
    ends_call w life new side.Log (ending.Fails fill) (outcome.CallFailed call) planned disk made
    (done_after result life.keeper.log.phase a.done life.keeper.staged.items) walks log checkpoint leaves may plan same
    (ap (λ k. k.capture) tries.same ∙ may.no_capture) (refits b.stripes a.done fit) tt
    (λ l stands has. let x = law b.stripes a.done (record life.keeper { disk = planned }) made (record_of 64 b) w l fill call err.0 fit tt stands may.works
    (subst (λ r. TriesLog traced_states failures traced_honest (record life.keeper { disk = planned }) made r) err.1 tries) is_lost named in
    record { happens = (x.works, x.due has); stands = x.stands }) e1 e2 e3 a
