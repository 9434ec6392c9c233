-- Which device calls of the keeper are made, and how those of the checkpoint end.
use Rattle.std.proofs.Common.{◌≡◌, ℕ, ◌&&◌, ◌||◌, not, Bool, true, false, List, None, Some, is_some, Result, Ok, Err, is_ok}
use Rattle.std.proofs.Common.{refl, sym, ◌∙◌, ap, subst}
use Rattle.map_types.specs.declared.commands.Command.{Command}
use Rattle.map_types.specs.declared.refusals.Refusal.{Refusal}
use Rattle.map_types.specs.declared.refusals.Refusal.TheVariants as refusal
use Rattle.one_history.specs.Turns.{record_of}
use Rattle.disk_model.specs.declared.fill.Fill.{Fill}
use Rattle.disk_model.specs.declared.fill.Fill.TheVariants.{New}
use Rattle.store_layout.specs.declared.checkpoint_phase.CheckpointPhase.{CheckpointPhase}
use Rattle.flusher.specs.declared.keeper.Keeper.{Keeper}
use Rattle.flusher.specs.Fitting.{Fits}
use Rattle.flusher.specs.KeeperSteps.{is_walking}
use Rattle.sim_rules.specs.declared.event.Ending.{Ending}
use Rattle.sim_rules.specs.declared.event.Ending.TheVariants as ending
use Rattle.sim_rules.specs.declared.event.Event.TheVariants as event
use Rattle.sim_rules.specs.declared.event.Side.{Side}
use Rattle.sim_rules.specs.declared.event.Side.TheVariants as side
use Rattle.sim_rules.specs.declared.outcome.DeviceCall.{DeviceCall}
use Rattle.sim_rules.specs.declared.outcome.Outcome.TheVariants as outcome
use Rattle.sim_rules.specs.After.{file_of}
use Rattle.sim_rules.specs.World.{World, Life, rests}
use Rattle.sim_rules.specs.Fitting.{fits, fits_with, has_call}
use Rattle.sim_workers.specs.Laws.{KeeperRests}
use Rattle.sim_keeper.specs.Laws.{BrokenAnswers, CheckpointAnswers, CheckpointCallIsTold, CheckpointFails, LogCallIsTold, WalkIsTold, file_due}
use Rattle.sim_keeper.specs.Promises.{IsLost, IsMade, TriesCheckpoint}
use Rattle.schedule_sim.specs.declared.traced.Traced.{Traced}
use Rattle.schedule_sim.specs.declared.life.Life as sim
use Rattle.schedule_sim.specs.Calling.{MayCall, is_due}
use Rattle.schedule_sim.specs.Living.{Did, IsLife}
use Rattle.schedule_sim.specs.Noting.{WasLast}
use Rattle.schedule_sim.specs.Tracing.{traced_states, traced_honest}
use Rattle.schedule_sim.proofs.DeviceEnds.{ends_call}
use Rattle.schedule_sim.proofs.Devices.{can_call, checkpoint_made, noted, planned_fits}
use Rattle.schedule_sim.proofs.Doing.{did, did_skip}
use Rattle.schedule_sim.proofs.LivesParts.{fits_now, life_there}
use Rattle.schedule_sim.proofs.Quiet.{rests_told, walks_skip}

-- ---- which calls are made

due_where : (walking due broken : Bool) → walking ≡ false → not broken ≡ true → due ≡ (not walking && (due && not broken))
due_where true due broken e works = absurd (let no : true ≡ false = e in cc)
due_where false due true e works = absurd (let no : false ≡ true = works in cc)
due_where false true false e works = refl
due_where false false false e works = refl

-- a keeper that rests and works can make the call that is due
pub due_can : (s : Side) (keeper : Keeper Traced) (answer : Bool) → answer ≡ (is_walking keeper.sweeper.walking || is_some keeper.capture)
    → answer ≡ false → not keeper.is_broken ≡ true → is_due s keeper ≡ can_call s keeper
due_can s keeper answer is rested works =
    due_where (is_walking keeper.sweeper.walking || is_some keeper.capture) (is_due s keeper) keeper.is_broken (sym is ∙ rested) works

none_due : (resting called broken : Bool) → (resting && (called && not broken)) ≡ false → broken ≡ false
    → (resting && (broken || called)) ≡ false
none_due false called broken e works = refl
none_due true called true e works = absurd (let no : true ≡ false = works in cc)
none_due true true false e works = e
none_due true false false e works = refl

-- ---- none is made

-- while the keeper walks
pub walks_on : (w : World) (life : sim.Life) (s : Side) (e : Ending) (answer : Bool) → WalkIsTold traced_states
    → answer ≡ (is_walking life.keeper.sweeper.walking || is_some life.keeper.capture) → answer ≡ true
    → IsLife w life → Did w (event.Device s e) outcome.Skipped life
walks_on w life s e answer told is walks a =
    walks_skip w (event.Device s e) life answer told (λ l resting. ap (λ r. r && (l.is_broken || has_call s l)) resting) is walks a

-- where none is due
pub none_skip : (w : World) (life : sim.Life) (s : Side) (e : Ending) → fits w (event.Stop (Some s) New) ≡ false → life.keeper.is_broken ≡ false
    → IsLife w life → Did w (event.Device s e) outcome.Skipped life
none_skip w life s e unfit works a =
    let there = life_there w life.keeper life.words life.jobs.items a in
    let l : Life = there.0 in
    did_skip w (event.Device s e) life
    (ap (λ o. fits_with o (event.Device s e)) there.1.life
    ∙ none_due (rests l.walk) (has_call s l) l.is_broken (sym (ap (λ o. fits_with o (event.Stop (Some s) New)) there.1.life) ∙ unfit)
    (there.1.keeper_stands.is_broken ∙ works)) a

-- and after one has failed
pub broken_refuses : (w : World) (life : sim.Life) (s : Side) (e : Ending) (answer : Bool) → WalkIsTold traced_states → BrokenAnswers traced_states
    → answer ≡ (is_walking life.keeper.sweeper.walking || is_some life.keeper.capture)
    → answer ≡ false → life.keeper.is_broken ≡ true → IsLife w life → Did w (event.Device s e) (outcome.Refused refusal.Failed) life
broken_refuses w life s e answer told law is rested broken a =
    let there = life_there w life.keeper life.words life.jobs.items a in
    let l : Life = there.0 in
    let p = record_of 64 life.words in
    let k = there.1.keeper_stands in
    let resting : rests l.walk ≡ true = rests_told l life.keeper answer false (told life.keeper p w l k) is rested in
    did w l (event.Device s e) (outcome.Refused refusal.Failed) life there.1.life tt
    (ap (λ r. r && (l.is_broken || has_call s l)) resting ∙ ap (λ b. b || has_call s l) (k.is_broken ∙ broken))
    (law life.keeper p w l s e k broken).happens tt a

-- ---- the checkpoint makes one

-- The keeper's fit goes on with the call.
abbrev pub Refits : sim.Life → Traced → Keeper Traced → Type 0
Refits life planned made = (n : ℕ) (done : List Command)
    → Fits traced_states traced_honest n done (record life.keeper { disk = planned }) (record_of 64 life.words)
    → Fits traced_states traced_honest n done made (record_of 64 life.words)

is_err : (result : Result CheckpointPhase Refusal) → is_ok result ≡ false → (e : Refusal) × (result ≡ Err e)
is_err (Ok phase) is = absurd (let no : true ≡ false = is in cc)
is_err (Err e) is = (e, refl)

-- it succeeded
pub checkpoint_calls : (w : World) (life new : sim.Life) (planned disk : Traced) (made : Keeper Traced) (failures : Traced → ℕ) (call : DeviceCall)
    (phase : CheckpointPhase) (result : Result CheckpointPhase Refusal) → result ≡ Ok phase → WalkIsTold traced_states
    → LogCallIsTold traced_states traced_honest → CheckpointCallIsTold traced_states → CheckpointAnswers traced_states failures traced_honest
    → KeeperRests → MayCall side.Checkpoint life.keeper → traced_states planned ≡ traced_states life.keeper.disk
    → TriesCheckpoint traced_states failures traced_honest (record life.keeper { disk = planned }) made result → Refits life planned made
    → traced_states disk ≡ traced_states made.disk → WasLast None call (traced_states disk) → file_of call ≡ file_due life.keeper.checkpoint
    → new.keeper ≡ record made { disk = disk } → new.words ≡ life.words → new.jobs.items ≡ life.jobs.items → IsLife w life
    → Did w (event.Device side.Checkpoint ending.Done) (outcome.Checkpointed call phase) new
checkpoint_calls w life new planned disk made failures call phase result is walks log checkpoint law leaves may plan tries refits same was named e1 e2 e3 a =
    let b = life.words in
    let fit = planned_fits b.stripes a.done life.keeper (record_of 64 b) planned plan (fits_now w life.keeper b life.jobs.items a may.no_capture) in
    let more = checkpoint_made life.keeper made failures planned result may tries.steps in
    let left = noted None call (traced_states planned) (traced_states made.disk) more (subst (λ states. WasLast None call states) same was) in
    let is_made : IsMade traced_states call planned made.disk = record { possible = left.possible; state = left.state } in
    ends_call w life new side.Checkpoint ending.Done (outcome.Checkpointed call phase) planned disk made a.done walks log checkpoint leaves may plan
    same (ap (λ k. k.capture) tries.same ∙ may.no_capture) (refits b.stripes a.done fit) tt
    (λ l stands has. law b.stripes a.done (record life.keeper { disk = planned }) made (record_of 64 b) w l call phase fit tt stands may.works has
    (subst (λ r. TriesCheckpoint traced_states failures traced_honest (record life.keeper { disk = planned }) made r) is tries) is_made named) e1 e2 e3 a

-- it failed
pub checkpoint_fails : (w : World) (life new : sim.Life) (planned disk : Traced) (made : Keeper Traced) (failures : Traced → ℕ) (fill : Fill)
    (call : DeviceCall) (result : Result CheckpointPhase Refusal) → is_ok result ≡ false → WalkIsTold traced_states
    → LogCallIsTold traced_states traced_honest → CheckpointCallIsTold traced_states → CheckpointFails traced_states failures traced_honest
    → KeeperRests → MayCall side.Checkpoint life.keeper → traced_states planned ≡ traced_states life.keeper.disk
    → TriesCheckpoint traced_states failures traced_honest (record life.keeper { disk = planned }) made result → Refits life planned made
    → traced_states disk ≡ traced_states made.disk → WasLast (Some fill) call (traced_states disk) → file_of call ≡ file_due life.keeper.checkpoint
    → new.keeper ≡ record made { disk = disk } → new.words ≡ life.words → new.jobs.items ≡ life.jobs.items → IsLife w life
    → Did w (event.Device side.Checkpoint (ending.Fails fill)) (outcome.CallFailed call) new
checkpoint_fails w life new planned disk made failures fill call result is walks log checkpoint law leaves may plan tries refits same was named e1 e2 e3 a =
    let b = life.words in
    let err = is_err result is in
    let fit = planned_fits b.stripes a.done life.keeper (record_of 64 b) planned plan (fits_now w life.keeper b life.jobs.items a may.no_capture) in
    let more = checkpoint_made life.keeper made failures planned result may tries.steps in
    let left = noted (Some fill) call (traced_states planned) (traced_states made.disk) more
    (subst (λ states. WasLast (Some fill) call states) same was) in
    let is_lost : IsLost traced_states fill call planned made.disk = record { possible = left.possible; state = left.state } in
    ends_call w life new side.Checkpoint (ending.Fails fill) (outcome.CallFailed call) planned disk made a.done walks log checkpoint leaves may plan
    same (ap (λ k. k.capture) tries.same ∙ may.no_capture) (refits b.stripes a.done fit) tt
    (λ l stands has. let x = law b.stripes a.done (record life.keeper { disk = planned }) made (record_of 64 b) w l fill call err.0 fit tt stands may.works
    (subst (λ r. TriesCheckpoint traced_states failures traced_honest (record life.keeper { disk = planned }) made r) err.1 tries) is_lost named in
    record { happens = (x.works, x.due has); stands = x.stands }) e1 e2 e3 a
