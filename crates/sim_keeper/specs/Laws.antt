-- Laws of a keeper against its world: each event meets its case, and leaves the keeper as the world after it says.
use Rattle.std.specs.Prelude.{◌≡◌, ◌≢◌, ◌⊎◌, ◌↔◌, ◌||◌, not, is_some, ℕ, ◌-◌, ◌^◌, ◌<◌, ◌≤◌, List, length, ◌++◌, Option}
use Rattle.std.specs.Prelude.{None, Some, true, false, Result, Ok, Err}
use Rattle.std.specs.FinMap as finite
use Rattle.map_types.specs.declared.commands.Command.{Command}
use Rattle.map_model.specs.Histories.{fold_to}
use Rattle.map_model.specs.Maps.{Map}
use Rattle.map_model.specs.Parts.{part_of}
use Rattle.map_model.specs.Steps.{fold_of}
use Rattle.ticket_order.specs.Legality.{history_of}
use Rattle.map_types.specs.declared.refusals.Refusal.{Refusal}
use Rattle.ticket_order.specs.declared.record.Record.{Record}
use Rattle.ticket_order.specs.declared.walk.Walk.{Walk}
use Rattle.ticket_order.specs.Records.{failing, outbox_held, publishing, reach}
use Rattle.ticket_order.specs.Walks as walks
use Rattle.disk_model.specs.declared.fill.Fill.{Fill}
use Rattle.disk_model.specs.Files.{Contents, Files}
use Rattle.disk_model.specs.Gates.{Call}
use Rattle.store_layout.specs.declared.log_phase.Phase.{Phase}
use Rattle.store_layout.specs.declared.checkpoint_phase.CheckpointPhase.{CheckpointPhase}
use Rattle.store_layout.specs.Checkpoints.{checkpoint_file}
use Rattle.store_layout.specs.Logs.{log_file}
use Rattle.store_layout.specs.Opening.{Opened}
use Rattle.checkpoint_file.specs.States.{CheckpointState}
use Rattle.flusher.specs.declared.keeper.Keeper.{Keeper}
use Rattle.flusher.specs.declared.sweeper.Sweep.{Sweep}
use Rattle.flusher.specs.declared.sweeper.Swept.{Swept}
use Rattle.flusher.specs.declared.sweeper.Walking.{Walking}
use Rattle.flusher.specs.declared.sweeper.Walking.TheVariants as walking
use Rattle.flusher.specs.Fitting.{Fits}
use Rattle.flusher.specs.KeeperSteps.{is_walking}
use Rattle.flusher.specs.Sweeping.{next_kind}
use Rattle.sim_rules.specs.declared.event.Ending.{Ending}
use Rattle.sim_rules.specs.declared.event.Ending.TheVariants as ending
use Rattle.sim_rules.specs.declared.event.Event.{Event}
use Rattle.sim_rules.specs.declared.event.Event.TheVariants as event
use Rattle.sim_rules.specs.declared.event.Side.{Side}
use Rattle.sim_rules.specs.declared.event.Side.TheVariants as side
use Rattle.sim_rules.specs.declared.outcome.DeviceCall.{DeviceCall}
use Rattle.sim_rules.specs.declared.outcome.Made.{Made}
use Rattle.sim_rules.specs.declared.outcome.Outcome.{Outcome}
use Rattle.sim_rules.specs.declared.outcome.Outcome.TheVariants as outcome
use Rattle.map_types.specs.declared.refusals.Refusal.TheVariants as refusal
use Rattle.ticket_order.specs.declared.record.Holding.{Holding}
use Rattle.gate_log.specs.States.{call_in}
use Rattle.flusher.specs.Rotating.{due_of, logs_of}
use Rattle.checkpoint_walk.specs.Checkpointing.{call_due}
use Rattle.sim_rules.specs.declared.outcome.End.{End}
use Rattle.sim_rules.specs.After.{after, file_of, with_job, with_life, worker_stepped}
use Rattle.sim_rules.specs.World.{World, Life, Job, keeper_holds, rests}
use Rattle.sim_rules.specs.Cases.{Meets, section_size}
use Rattle.sim_rules.specs.Due.{checkpoint_call, due_file, log_call}
use Rattle.sim_rules.specs.Fitting.{fits_inside, has_call}
use Rattle.sim_rules.specs.Runs.{staged_in}
use Rattle.checkpoint_walk.specs.Walking.{FitsWalking}
use Rattle.sim_keeper.specs.Promises.{IsLost, IsMade, StepsCapture, StepsSweep, TriesBegin, TriesCheckpoint, TriesLog}
use Rattle.sim_keeper.specs.Promises.{TriesSeal, TriesStage}
use Rattle.sim_keeper.specs.Telling.{MakesStep, capture_end, sweep_end}
use Rattle.sim_keeper.specs.KeeperInWorld.{Answers, FailsCall, HasKeeper, IsAtOpening, KeeperStands, SeesHistory}
use Rattle.sim_keeper.specs.KeeperInWorld.{TellsPlaces}

-- ---- the counts

abbrev pub PublishAnswers : {D : Type 0} → (D → List Files) → (D → Type 0) → Type 0
PublishAnswers {D} states honest = (n : ℕ) (done : List Command) (old new : Keeper D) (p : Record) (w : World)
    (l : Life) → Fits states honest n done old p → KeeperStands states old p w l
    → new ≡ record old { published = old.log.committed }
    → Answers states new (publishing p old.log.committed) w l event.Publish (outcome.Published old.log.committed)

abbrev pub FailAnswers : {D : Type 0} → (D → List Files) → Type 0
FailAnswers {D} states = (old new : Keeper D) (p : Record) (w : World) (l : Life) → KeeperStands states old p w l
    → new ≡ record old { has_failed = true } → Answers states new (failing p) w l event.Fail outcome.FailMade

-- ---- a checkpoint

-- what the end of a beginning is, as an outcome
abbrev pub begun_as : Result (Unit {0}) Refusal → Outcome
begun_as (Ok unit) = outcome.Begun
begun_as (Err e) = outcome.Refused e

abbrev pub BeginAnswers : {D : Type 0} → (D → List Files) → (D → Type 0) → Type 0
BeginAnswers {D} states honest = (n : ℕ) (done : List Command) (old new : Keeper D) (p : Record) (w : World) (l : Life)
    (result : Result (Unit {0}) Refusal)
    → Fits states honest n done old p → honest old.disk → KeeperStands states old p w l
    → TriesBegin states honest old new result → Answers states new p w l event.Begin (begun_as result)

-- what the end of going on to the seal is
abbrev pub sealing_as : Result (Unit {0}) Refusal → Outcome
sealing_as (Ok unit) = outcome.Sealing
sealing_as (Err e) = outcome.Refused e

abbrev pub SealAnswers : {D : Type 0} → (D → List Files) → (D → Type 0) → Type 0
SealAnswers {D} states honest = (n : ℕ) (done : List Command) (old new : Keeper D) (p : Record) (w : World) (l : Life)
    (result : Result (Unit {0}) Refusal)
    → Fits states honest n done old p → honest old.disk → KeeperStands states old p w l
    → TriesSeal states old new result → Answers states new p w l event.Seal (sealing_as result)

-- ---- device calls

-- a call of the log, which succeeds
abbrev pub LogAnswers : {D : Type 0} → (D → List Files) → (D → ℕ) → (D → Type 0) → Type 0
LogAnswers {D} states failures honest = (n : ℕ) (done : List Command) (old new : Keeper D) (p : Record) (w : World)
    (l : Life) (call : DeviceCall) (phase : Phase)
    → Fits states honest n done old p → honest old.disk → KeeperStands states old p w l → old.is_broken ≡ false
    → has_call side.Log l ≡ true
    → TriesLog states failures honest old new (Ok phase) → IsMade states call old.disk new.disk
    → file_of call ≡ log_file (due_of (logs_of old)).generation
    → Answers states new p w l (event.Device side.Log ending.Done) (outcome.Logged call phase)

-- and which fails
abbrev pub LogFails : {D : Type 0} → (D → List Files) → (D → ℕ) → (D → Type 0) → Type 0
LogFails {D} states failures honest = (n : ℕ) (done : List Command) (old new : Keeper D) (p : Record) (w : World)
    (l : Life) (fill : Fill) (call : DeviceCall) (e : Refusal)
    → Fits states honest n done old p → honest old.disk → KeeperStands states old p w l → old.is_broken ≡ false
    → TriesLog states failures honest old new (Err e) → IsLost states fill call old.disk new.disk
    → file_of call ≡ log_file (due_of (logs_of old)).generation → FailsCall states new p w l side.Log fill call

-- the file of the checkpoint that is written
abbrev pub file_due : Option CheckpointState → ℕ
file_due None = 0
file_due (Some w) = checkpoint_file w.generation

-- a call of the checkpoint, which succeeds
abbrev pub CheckpointAnswers : {D : Type 0} → (D → List Files) → (D → ℕ) → (D → Type 0) → Type 0
CheckpointAnswers {D} states failures honest = (n : ℕ) (done : List Command) (old new : Keeper D) (p : Record)
    (w : World) (l : Life) (call : DeviceCall) (phase : CheckpointPhase)
    → Fits states honest n done old p → honest new.disk → KeeperStands states old p w l → old.is_broken ≡ false
    → has_call side.Checkpoint l ≡ true
    → TriesCheckpoint states failures honest old new (Ok phase) → IsMade states call old.disk new.disk
    → file_of call ≡ file_due old.checkpoint → Answers states new p w l (event.Device side.Checkpoint ending.Done)
    (outcome.Checkpointed call phase)

abbrev pub CheckpointFails : {D : Type 0} → (D → List Files) → (D → ℕ) → (D → Type 0) → Type 0
CheckpointFails {D} states failures honest = (n : ℕ) (done : List Command) (old new : Keeper D) (p : Record) (w : World)
    (l : Life) (fill : Fill) (call : DeviceCall) (e : Refusal)
    → Fits states honest n done old p → honest old.disk → KeeperStands states old p w l → old.is_broken ≡ false
    → TriesCheckpoint states failures honest old new (Err e) → IsLost states fill call old.disk new.disk
    → file_of call ≡ file_due old.checkpoint → FailsCall states new p w l side.Checkpoint fill call

-- After a call has failed none is made.
abbrev pub BrokenAnswers : {D : Type 0} → (D → List Files) → Type 0
BrokenAnswers {D} states = (keeper : Keeper D) (p : Record) (w : World) (l : Life) (s : Side) (e : Ending)
    → KeeperStands states keeper p w l → keeper.is_broken ≡ true
    → Answers states keeper p w l (event.Device s e) (outcome.Refused refusal.Failed)

-- ---- a batch

-- what the end of staging is
abbrev pub staged_as : Result ℕ Refusal → Outcome
staged_as (Ok count) = outcome.Staged count
staged_as (Err e) = outcome.Refused e

-- the longest run in hand is staged, if the places of the tickets are told by what the sweeps took
abbrev pub StageAnswers : {D : Type 0} → (D → List Files) → (D → Type 0) → Type 0
StageAnswers {D} states honest = (n : ℕ) (done : List Command) (most : ℕ) (old new : Keeper D) (p : Record) (w : World)
    (l : Life) (result : Result ℕ Refusal)
    → Fits states honest n done old p → KeeperStands states old p w l → TellsPlaces p l → rests l.walk ≡ true
    → TriesStage most old new result → Answers states new p w l (event.Stage most) (staged_as result)

-- ---- stripes

-- the keeper's pass holds this stripe
pub record PassHolds (p : Record) (i : ℕ) : Type 0 where
  pub held : Holding
  pub holding : p.holding ≡ Some held
  pub stripe_is : held.stripe ≡ i

-- ---- a sweep

-- it begins, or goes on where it waited
abbrev pub SweepAnswers : {D : Type 0} → (D → List Files) → (D → Type 0) → Type 0
SweepAnswers {D} states honest = (n : ℕ) (done : List Command) (old new : Keeper D) (p q : Record) (w : World)
    (l : Life) (result : Result Swept Refusal) (m : Made)
    → Fits states honest n done old p → KeeperStands states old p w l → rests l.walk ≡ true
    → StepsSweep n old new p q result → MakesStep w l p q (next_kind old.sweeper.sweep old.sweeper.walking) m
    → Answers states new q w l event.Sweep (outcome.Stepped m (sweep_end result))

-- and makes its next step
abbrev pub SweepStepAnswers : {D : Type 0} → (D → List Files) → (D → Type 0) → Type 0
SweepStepAnswers {D} states honest = (n : ℕ) (done : List Command) (old new : Keeper D) (p q : Record) (w : World)
    (l : Life) (result : Result Swept Refusal) (m : Made)
    → Fits states honest n done old p → KeeperStands states old p w l → old.capture ≡ None
    → is_walking old.sweeper.walking ≡ true → StepsSweep n old new p q result
    → MakesStep w l p q (next_kind old.sweeper.sweep old.sweeper.walking) m
    → Answers states new q w l event.KeeperStep (outcome.Stepped m (sweep_end result))

-- ---- a capture

-- its TAKE
abbrev pub CaptureAnswers : {D : Type 0} → (D → List Files) → (D → Type 0) → Type 0
CaptureAnswers {D} states honest = (n : ℕ) (done : List Command) (stripe : ℕ) (old new : Keeper D) (p q : Record)
    (w : World) (l : Life) (result : Result (Option ℕ) Refusal) (m : Made)
    → Fits states honest n done old p → honest old.disk → KeeperStands states old p w l → rests l.walk ≡ true
    → StepsCapture states honest n stripe old new p q result
    → result ≢ Err refusal.Failed → result ≢ Err refusal.WrongPhase → MakesStep w l p q (walks.Take stripe) m
    → Answers states new q w l (event.Capture stripe) (outcome.Stepped m (capture_end result))

-- or its refusal
abbrev pub CaptureRefuses : {D : Type 0} → (D → List Files) → (D → Type 0) → Type 0
CaptureRefuses {D} states honest =
    (n : ℕ) (done : List Command) (stripe : ℕ) (old new : Keeper D) (p q : Record) (w : World) (l : Life) (e : Refusal)
    → Fits states honest n done old p → honest old.disk → KeeperStands states old p w l → rests l.walk ≡ true
    → StepsCapture states honest n stripe old new p q (Err e)
    → (e ≡ refusal.Failed) ⊎ (e ≡ refusal.WrongPhase) → Answers states new q w l (event.Capture stripe)
    (outcome.Refused e)

-- and each step that follows, if refusal 14 comes only for a section that is too large
abbrev pub CaptureStepAnswers : {D : Type 0} → (D → List Files) → (D → Type 0) → Type 0
CaptureStepAnswers {D} states honest = (n : ℕ) (done : List Command) (stripe : ℕ) (walk : Walk) (old new : Keeper D)
    (p q : Record) (w : World) (l : Life) (result : Result (Option ℕ) Refusal) (m : Made)
    → FitsWalking states honest n done old p → honest old.disk → KeeperStands states old p w l → old.capture ≡ Some walk
    → StepsCapture states honest n stripe old new p q result
    → (result ≡ Err refusal.LogFull → 2 ^ 32 - 1 < section_size w l (reach p) l.checkpoint)
    → MakesStep w l p q (walks.next_kind n walk) m → Answers states new q w l event.KeeperStep
    (outcome.Stepped m (capture_end result))

-- It is too large if the part that the pass holds has too many entries, and is the part after the commands that it has
-- seen.
abbrev pub TooManyAreTooLarge : {D : Type 0} → (D → List Files) → (D → Type 0) → Type 0
TooManyAreTooLarge {D} states honest = (n : ℕ) (done : List Command) (walk : Walk) (keeper : Keeper D) (p : Record)
    (w : World) (l : Life) (i : ℕ) (part : Map) → FitsWalking states honest n done keeper p
    → KeeperStands states keeper p w l
    → keeper.capture ≡ Some walk → PassHolds p i → part_of n i (fold_to (history_of p) (reach p)) ≡ part
    → 2 ^ 32 ≤ length (finite.entries part) → 2 ^ 32 - 1 < section_size w l (reach p) l.checkpoint

-- ---- what can be read off

-- the keeper walks exactly if the world says so
abbrev pub WalkIsTold : {D : Type 0} → (D → List Files) → Type 0
WalkIsTold {D} states = (keeper : Keeper D) (p : Record) (w : World) (l : Life) → KeeperStands states keeper p w l
    → rests l.walk ≡ not (is_walking keeper.sweeper.walking || is_some keeper.capture)

-- a call of the log is to be made exactly if one is due
abbrev pub LogCallIsTold : {D : Type 0} → (D → List Files) → (D → Type 0) → Type 0
LogCallIsTold {D} states honest = (n : ℕ) (done : List Command) (keeper : Keeper D) (p : Record) (w : World) (l : Life)
    → Fits states honest n done keeper p → KeeperStands states keeper p w l → keeper.is_broken ≡ false
    → has_call side.Log l ≡ is_some (call_in (due_of (logs_of keeper)).phase (due_of (logs_of keeper)))

-- and one of the checkpoint
abbrev pub CheckpointCallIsTold : {D : Type 0} → (D → List Files) → Type 0
CheckpointCallIsTold {D} states = (keeper : Keeper D) (p : Record) (w : World) (l : Life)
    → KeeperStands states keeper p w l → keeper.is_broken ≡ false
    → has_call side.Checkpoint l ≡ is_some (call_due keeper.next keeper.checkpoint)

-- it holds the stripe whose word the world says the keeper has, and no other
abbrev pub StripeIsTold : {D : Type 0} → (D → List Files) → (D → Type 0) → Type 0
StripeIsTold {D} states honest = (n : ℕ) (done : List Command) (keeper : Keeper D) (p : Record) (w : World) (l : Life)
    (i : ℕ) → FitsWalking states honest n done keeper p → KeeperStands states keeper p w l
    → (keeper_holds l i l.walk ≡ true) ↔ PassHolds p i

-- the world's durable count and its failure are those of the pass
abbrev pub CountsAreTold : {D : Type 0} → (D → List Files) → (D → Type 0) → Type 0
CountsAreTold {D} states honest = (n : ℕ) (done : List Command) (keeper : Keeper D) (p : Record) (w : World) (l : Life)
    → FitsWalking states honest n done keeper p → KeeperStands states keeper p w l
    → (l.durable ≡ p.published) × (l.has_failed ≡ p.failed)

-- the next call of the log, and that of the checkpoint, is of the file that the world says
abbrev pub FilesAreTold : {D : Type 0} → (D → List Files) → (D → Type 0) → Type 0
FilesAreTold {D} states honest = (n : ℕ) (done : List Command) (keeper : Keeper D) (p : Record) (w : World) (l : Life)
    → Fits states honest n done keeper p → honest keeper.disk → KeeperStands states keeper p w l
    → keeper.is_broken ≡ false → (log_file (due_of (logs_of keeper)).generation ≡ due_file l side.Log)
    × (file_due keeper.checkpoint ≡ due_file l side.Checkpoint)

-- the call of the log that is due, and that of the checkpoint, is the one that the world says
abbrev pub CallsAreTold : {D : Type 0} → (D → List Files) → (D → Type 0) → Type 0
CallsAreTold {D} states honest = (n : ℕ) (done : List Command) (keeper : Keeper D) (p : Record) (w : World) (l : Life)
    (call : Call) → Fits states honest n done keeper p → honest keeper.disk → KeeperStands states keeper p w l
    → keeper.is_broken ≡ false → (call_in (due_of (logs_of keeper)).phase (due_of (logs_of keeper)) ≡ Some call
    → call ≡ log_call w l l.log)
    × (call_due keeper.next keeper.checkpoint ≡ Some call → (low : ℕ) × (call ≡ checkpoint_call l low l.checkpoint))

-- as many commands are staged as the world says, also after a device call has failed
abbrev pub StagedIsTold : {D : Type 0} → (D → List Files) → (D → Type 0) → Type 0
StagedIsTold {D} states honest = (n : ℕ) (done : List Command) (keeper : Keeper D) (p : Record) (w : World) (l : Life)
    → FitsWalking states honest n done keeper p → KeeperStands states keeper p w l
    → staged_in l.log ≡ length keeper.staged.items

-- ---- what sweeps took

-- no step took an entry but the GIVE of a sweep
abbrev pub NoneTaken : Walking → Result Swept Refusal → Type 0
NoneTaken (walking.SweepGives walk) (Ok swept) = ⊥
NoneTaken walks result = Unit {0}

abbrev pub SweepTakesNone : {D : Type 0} → (D → List Files) → (D → Type 0) → Type 0
SweepTakesNone {D} states honest = (n : ℕ) (done : List Command) (old new : Keeper D) (p q : Record)
    (result : Result Swept Refusal) → Fits states honest n done old p → StepsSweep n old new p q result
    → NoneTaken old.sweeper.walking result → q.taken ≡ p.taken

-- and that GIVE, if its walk hands out the outbox of the stripe that the pass held, took that outbox
abbrev pub SweepTakesOutbox : {D : Type 0} → (D → List Files) → (D → Type 0) → Type 0
SweepTakesOutbox {D} states honest = (n : ℕ) (done : List Command) (old new : Keeper D) (p q : Record) (sweep : Sweep)
    (walk : Walk) (swept : Swept) → Fits states honest n done old p → StepsSweep n old new p q (Ok swept)
    → old.sweeper.sweep ≡ Some sweep → old.sweeper.walking ≡ walking.SweepGives walk
    → walks.entries_of_walk walk ≡ outbox_held p.holding
    → (holds : PassHolds p sweep.stripe) × (q.taken ≡ p.taken ++ holds.held.outbox)

abbrev pub CaptureTakesNone : {D : Type 0} → (D → List Files) → (D → Type 0) → Type 0
CaptureTakesNone {D} states honest = (n : ℕ) (done : List Command) (stripe : ℕ) (old new : Keeper D) (p q : Record)
    (result : Result (Option ℕ) Refusal) → FitsWalking states honest n done old p
    → StepsCapture states honest n stripe old new p q result → q.taken ≡ p.taken

-- ---- the workers

-- A worker that begins a walk, and one that makes a step, leave the keeper as it is.
abbrev pub WorkersLeaveKeeper : {D : Type 0} → (D → List Files) → Type 0
WorkersLeaveKeeper {D} states =
    (keeper : Keeper D) (p : Record) (w : World) (l : Life) (worker : ℕ) (job : Job) → KeeperStands states keeper p w l
    → HasKeeper states keeper p (with_life w (with_job worker job l))
    × ((m : Made) (end : End) → HasKeeper states keeper p (worker_stepped w l worker job m end))

-- A pass sees the history of the world if it has seen a front of what the life has added to what came before.
abbrev pub FrontIsSeen : Type 0
FrontIsSeen = (p : Record) (w : World) (l : Life) (before added rest : List Command) → w.history ≡ before ++ added
    → length before ≡ l.first → p.opening.first ≡ l.first → p.opening.map ≡ fold_of before
    → added ≡ p.seen ++ rest → SeesHistory p w l

-- ---- an opening

-- A keeper that was opened with what is found in these contents stands against a life that begins with that.
abbrev pub OpeningStands : {D : Type 0} → (D → List Files) → Type 0
OpeningStands {D} states = (keeper : Keeper D) (p : Record) (w : World) (stripes : ℕ) (contents : Contents)
    (found : Opened) → IsAtOpening states keeper p w stripes contents found → HasKeeper states keeper p w

-- ---- whole events

-- If the event fits, the outcome that was told of it is met, and the keeper stands against the world after it.
abbrev pub AnswersAreMet : {D : Type 0} → (D → List Files) → Type 0
AnswersAreMet {D} states = (old new : Keeper D) (p q : Record) (w : World) (found : Opened) (l : Life) (e : Event)
    (x : Outcome) → KeeperStands states old p w l → fits_inside l e ≡ true → Answers states new q w l e x
    → Meets w found e x × HasKeeper states new q (after w found e x)
