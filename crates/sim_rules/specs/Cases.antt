-- What may come of each event, by what came before it. The clauses of one definition exclude each other.
use Rattle.std.specs.Prelude.{◌≡◌, ℕ, ◌+◌, ◌-◌, ◌^◌, ◌<◌, ◌≤◌, length, Option, Some, None, Bool, true, false, ◌&&◌}
use Rattle.std.specs.Prelude.{◌||◌, ◌==◌, not, nat_lt, if◌then◌else◌, is_some, MatchBool}
use Rattle.std.specs.FinMap as finite
use Rattle.map_types.specs.declared.refusals.Refusal.TheVariants as refusal
use Rattle.disk_model.specs.Files.{AreBytes, Files}
use Rattle.disk_model.specs.Gates.{IsPlaced}
use Rattle.store_layout.specs.Checkpoints.{greatest_mark}
use Rattle.store_layout.specs.Opening.{Opened}
use Rattle.store_layout.specs.declared.log_phase.Phase.{Phase}
use Rattle.store_layout.specs.declared.log_phase.Phase.TheVariants as log_phase
use Rattle.store_layout.specs.declared.checkpoint_phase.CheckpointPhase.{CheckpointPhase}
use Rattle.store_layout.specs.declared.checkpoint_phase.CheckpointPhase.TheVariants as checkpoint_phase
use Rattle.store_layout.specs.Hands.{FitsBatch}
use Rattle.store_layout.specs.Logs.{most_log_bytes}
use Rattle.store_layout.specs.UsedCheckpoint.{UsesCheckpoint}
use Rattle.sim_rules.specs.declared.event.Ending.{Ending}
use Rattle.sim_rules.specs.declared.event.Ending.TheVariants as ending
use Rattle.sim_rules.specs.declared.event.Event.{Event}
use Rattle.sim_rules.specs.declared.event.Event.TheVariants as event
use Rattle.sim_rules.specs.declared.event.Side.{Side}
use Rattle.sim_rules.specs.declared.event.Side.TheVariants as side
use Rattle.sim_rules.specs.declared.outcome.DeviceCall.{DeviceCall}
use Rattle.sim_rules.specs.declared.outcome.End.{End}
use Rattle.sim_rules.specs.declared.outcome.End.TheVariants as ends
use Rattle.sim_rules.specs.declared.outcome.Made.{Made}
use Rattle.sim_rules.specs.declared.outcome.Made.TheVariants as made
use Rattle.sim_rules.specs.declared.outcome.Outcome.{Outcome}
use Rattle.sim_rules.specs.declared.outcome.Outcome.TheVariants as outcome
use Rattle.sim_rules.specs.World.{World, Life, InHand, Sweep, KeeperWalk, Rests, SweepTakes, SweepGives, CaptureLooks}
use Rattle.sim_rules.specs.World.{CaptureGives, LogWork, Resting, Committing, Rotating, Running, gate_after, is_held}
use Rattle.sim_rules.specs.World.{is_resting, job_of, needs_rotation, next_commands, next_section, place_of, sweep_or}
use Rattle.sim_rules.specs.Fitting.{fits}
use Rattle.sim_rules.specs.Due.{due_call, due_file}
use Rattle.sim_rules.specs.After.{bytes_of, call_of, called, checkpoint_called, file_of, log_called, section_at}
pub use Rattle.sim_rules.specs.WorkerCases.{BeginsChange, LooksAround, StepsCall, StepsJob, StepsRelease, TakesForCall}
pub use Rattle.sim_rules.specs.OpeningCases.{Finds, MayTake, OpensFiles, entry_of, names_within}

-- ---- the steps of a sweep

-- TAKE finds the word held exactly if another has it; then the sweep waits for that stripe.
abbrev pub TakesForSweep : Life → ℕ → Made → End → Type 0
TakesForSweep l stripe (made.Took i) ends.Goes = (i ≡ stripe) × (is_held l stripe ≡ false)
TakesForSweep l stripe (made.FoundHeld i) (ends.SweepHeld j) = (i ≡ stripe) × (j ≡ stripe) × (is_held l stripe ≡ true)
TakesForSweep l stripe m end = ⊥

-- The stripes come in rising order. With the GIVE of the last the sweep is over, and returns what its LOOK found; or
-- memory is wanting, with refusal 7.
abbrev pub GivesSwept : Life → Sweep → Made → End → Type 0
GivesSwept l sweep (made.Gave i) ends.Goes = (i ≡ sweep.stripe) × (sweep.stripe + 1 < l.stripes)
GivesSwept l sweep (made.Gave i) (ends.Swept n) =
    (i ≡ sweep.stripe) × (sweep.stripe + 1 ≡ l.stripes) × (n ≡ sweep.count)
GivesSwept l sweep (made.Gave i) (ends.Refused refusal.NoMemory) = i ≡ sweep.stripe
GivesSwept l sweep m end = ⊥

-- A sweep begins with its LOOK; one that waits goes on with the TAKE of its stripe.
abbrev pub BeginsSweep : World → Life → Option Sweep → Made → End → Type 0
BeginsSweep w l None m end = LooksAround w m end
BeginsSweep w l (Some sweep) m end = TakesForSweep l sweep.stripe m end

-- ---- the steps of a capture

-- how many entries the next section is to hold
abbrev pub section_size : World → Life → ℕ → Option Running → ℕ
section_size w l mark None = 0
section_size w l mark (Some running) = length (finite.entries (section_at w l mark running).map)

-- A capture returns what its LOOK found. Refusal 14 comes only for a stripe with more than 2^32 - 1 entries, and
-- refusal 7 if memory is wanting.
abbrev pub GivesCaptured : World → Life → ℕ → Made → End → Type 0
GivesCaptured w l n (made.Gave i) (ends.Captured mark) =
    (i ≡ next_section l.checkpoint) × (mark ≡ n) × (section_size w l n l.checkpoint ≤ 2 ^ 32 - 1)
GivesCaptured w l n (made.Gave i) (ends.Refused refusal.LogFull) =
    (i ≡ next_section l.checkpoint) × (2 ^ 32 - 1 < section_size w l n l.checkpoint)
GivesCaptured w l n (made.Gave i) (ends.Refused refusal.NoMemory) = i ≡ next_section l.checkpoint
GivesCaptured w l n m end = ⊥

-- A sweep walks LOOK, then TAKE and GIVE on each stripe; a capture walks TAKE, LOOK, GIVE.
abbrev pub StepsKeeper : World → Life → KeeperWalk → Made → End → Type 0
StepsKeeper w l Rests m end = ⊥
StepsKeeper w l SweepTakes m end = TakesForSweep l (sweep_or l.sweep).stripe m end
StepsKeeper w l SweepGives m end = GivesSwept l (sweep_or l.sweep) m end
StepsKeeper w l CaptureLooks m end = LooksAround w m end
StepsKeeper w l (CaptureGives n) m end = GivesCaptured w l n m end

-- ---- a batch is staged

-- n tickets from the committed count on are in hand, and may be one batch of at most `most`
pub record CanStage (w : World) (l : Life) (most n : ℕ) : Type 0 where
  pub in_hand : (i : ℕ) → i < n → place_of l (l.committed + i) ≡ InHand
  pub fits : FitsBatch l.layout most l.committed (next_commands w l n)

-- it is the longest such run
pub record IsLongestRun (w : World) (l : Life) (most n : ℕ) : Type 0 where
  pub can : CanStage w l most n
  pub no_longer : CanStage w l most (n + 1) → ⊥

-- its frame and the next gate would end past the most bytes of a log
abbrev pub IsPastFull : World → Life → ℕ → Type 0
IsPastFull w l n = (1 ≤ n) × (most_log_bytes < gate_after w l n + 1)

-- Stage returns the length of the longest run. It is refused with 9 after a device failure of this life, else with 16
-- exactly if the log isn't idle. It is refused with 14 if the batch wouldn't fit into the log.
abbrev pub StagesRun : World → Life → ℕ → Outcome → Type 0
StagesRun w l most (outcome.Staged n) =
    (l.is_broken ≡ false) × (is_resting l.log ≡ true) × IsLongestRun w l most n × (IsPastFull w l n → ⊥)
StagesRun w l most (outcome.Refused refusal.Failed) = l.is_broken ≡ true
StagesRun w l most (outcome.Refused refusal.WrongPhase) = (l.is_broken ≡ false) × (is_resting l.log ≡ false)
StagesRun w l most (outcome.Refused refusal.LogFull) =
    (l.is_broken ≡ false) × (is_resting l.log ≡ true) × ((n : ℕ) × IsLongestRun w l most n × IsPastFull w l n)
StagesRun w l most (outcome.Refused refusal.NoMemory) = (l.is_broken ≡ false) × (is_resting l.log ≡ true)
StagesRun w l most x = ⊥

-- ---- a device call

-- the call is one that may be made: of one of the four files, at its end or before
pub record IsPossible (files : Files) (call : DeviceCall) : Type 0 where
  pub file : file_of call < 4
  pub place : IsPlaced (call_of call) (files (file_of call))
  pub bytes : AreBytes (bytes_of call)

-- the call is the one that is due: of that file, at that place, with those bytes. The low ticket of a checkpoint is
-- left open.
pub record IsDue (w : World) (l : Life) (s : Side) (call : DeviceCall) : Type 0 where
  pub file : file_of call ≡ due_file l s
  pub low : ℕ
  pub what : call_of call ≡ due_call w l low s
  pub possible : IsPossible w.files call

-- a frame's four calls: it is written, synced, its gate is opened, that is synced
abbrev pub frame_phase : ℕ → Phase
frame_phase left =
    if left == 4 then log_phase.Staged
    else if left == 3 then log_phase.Written
    else if left == 2 then log_phase.Synced
    else log_phase.Opened

-- the six of a rotation are those of the next log's header, written and synced, and those of the end frame
abbrev pub rotation_phase : ℕ → Phase
rotation_phase left =
    if left == 6 then log_phase.Header
    else if left == 5 then log_phase.HeaderWritten
    else frame_phase left

abbrev pub phase_of_log : LogWork → Phase
phase_of_log Resting = log_phase.Idle
phase_of_log (Committing n left) = frame_phase left
phase_of_log (Rotating left) = rotation_phase left

-- before the sections the gate is closed, that is synced, and zeros are written where the header will stand
abbrev pub clearing_phase : ℕ → CheckpointPhase
clearing_phase left =
    if left == 3 then checkpoint_phase.Gate
    else if left == 2 then checkpoint_phase.GateWritten
    else checkpoint_phase.GateSynced

-- a seal's four calls: the header is written, synced, the gate is opened, that is synced
abbrev pub sealing_phase : ℕ → CheckpointPhase
sealing_phase left =
    if left == 4 then checkpoint_phase.Header
    else if left == 3 then checkpoint_phase.HeaderWritten
    else if left == 2 then checkpoint_phase.HeaderSynced
    else checkpoint_phase.Opened

abbrev pub phase_of_running : Running → CheckpointPhase
phase_of_running running =
    if nat_lt 0 running.clears then clearing_phase running.clears
    else if running.is_waiting then checkpoint_phase.Staged
    else if nat_lt 0 running.seals then sealing_phase running.seals
    else checkpoint_phase.Ready

-- after a device call of the checkpoint: if none is written any more, it is sealed
abbrev pub phase_of_checkpoint : Option Running → CheckpointPhase
phase_of_checkpoint None = checkpoint_phase.Sealed
phase_of_checkpoint (Some running) = phase_of_running running

-- the call is the last of a seal
abbrev pub is_last_call : Running → Bool
is_last_call running = running.clears == 0 && (not running.is_waiting && running.seals == 1)

-- The last call of a seal leaves files whose greatest sealed generation is the one that was begun, with the sections
-- and marks of its captures.
abbrev pub UsesRunning : Files → Life → Option Running → Type 0
UsesRunning files l None = ⊥
UsesRunning files l (Some running) = is_last_call running ≡ true →
    (low : ℕ) × UsesCheckpoint
    (record { generation = running.generation; low = low; stripes = l.stripes; sections = running.sections }) files

-- The outcome names the call, which is the one that is due also if it fails, and the phase after one that succeeds.
-- After a device failure of this life it is refusal 9, and no call is made.
abbrev pub MakesCall : World → Life → Side → Ending → Outcome → Type 0
MakesCall w l s e (outcome.Refused refusal.Failed) = l.is_broken ≡ true
MakesCall w l side.Log ending.Done (outcome.Logged call phase) =
    (l.is_broken ≡ false) × IsDue w l side.Log call × (phase ≡ phase_of_log (log_called w l l.log).log)
MakesCall w l side.Checkpoint ending.Done (outcome.Checkpointed call phase) =
    (l.is_broken ≡ false) × IsDue w l side.Checkpoint call
    × (phase ≡ phase_of_checkpoint (checkpoint_called l l.checkpoint).checkpoint)
    × UsesRunning (called call w.files) l l.checkpoint
MakesCall w l s (ending.Fails fill) (outcome.CallFailed call) = (l.is_broken ≡ false) × IsDue w l s call
MakesCall w l s e x = ⊥

-- ---- a checkpoint

-- no checkpoint runs, the generation that follows has a number, and the log is idle if a rotation is needed
abbrev pub may_begin : Life → Bool
may_begin l =
    not (is_some l.checkpoint) && (nat_lt (l.sealed + 1) (2 ^ 64) && (not (needs_rotation l) || is_resting l.log))

-- Begin is refused with 9 after a device failure of this life, else with 16 exactly if it may not be.
abbrev pub BeginsCheckpoint : Life → Outcome → Type 0
BeginsCheckpoint l outcome.Begun = (l.is_broken ≡ false) × (may_begin l ≡ true)
BeginsCheckpoint l (outcome.Refused refusal.Failed) = l.is_broken ≡ true
BeginsCheckpoint l (outcome.Refused refusal.WrongPhase) = (l.is_broken ≡ false) × (may_begin l ≡ false)
BeginsCheckpoint l x = ⊥

-- the stripe is the next of a running checkpoint, and no write before it is still to be made
abbrev pub may_capture : Life → Option Running → ℕ → Bool
may_capture l None stripe = false
may_capture l (Some running) stripe =
    nat_lt stripe l.stripes && (stripe == length running.sections && (running.clears == 0 && not running.is_waiting))

-- Capture is refused with 9 after a device failure of this life, else with 16 exactly if it may not be. Else it makes
-- its TAKE.
abbrev pub BeginsCapture : Life → ℕ → Outcome → Type 0
BeginsCapture l stripe (outcome.Refused refusal.Failed) = l.is_broken ≡ true
BeginsCapture l stripe (outcome.Refused refusal.WrongPhase) =
    (l.is_broken ≡ false) × (may_capture l l.checkpoint stripe ≡ false)
BeginsCapture l stripe (outcome.Stepped m end) =
    (l.is_broken ≡ false) × (may_capture l l.checkpoint stripe ≡ true) × TakesForCall l stripe m end
BeginsCapture l stripe x = ⊥

-- all sections of a running checkpoint are written, and no seal is under way
abbrev pub may_seal : Life → Option Running → Bool
may_seal l None = false
may_seal l (Some running) = length running.sections == l.stripes && (not running.is_waiting && running.seals == 0)

-- the greatest mark of its sections
abbrev pub mark_of : Option Running → ℕ
mark_of None = 0
mark_of (Some running) = greatest_mark running.sections

-- Seal is refused with 9 after a device failure of this life, else with 16 exactly if it may not be, else with 17
-- exactly if the durable count is below the greatest mark.
abbrev pub BeginsSeal : Life → Outcome → Type 0
BeginsSeal l outcome.Sealing =
    (l.is_broken ≡ false) × (may_seal l l.checkpoint ≡ true) × (mark_of l.checkpoint ≤ l.durable)
BeginsSeal l (outcome.Refused refusal.Failed) = l.is_broken ≡ true
BeginsSeal l (outcome.Refused refusal.WrongPhase) = (l.is_broken ≡ false) × (may_seal l l.checkpoint ≡ false)
BeginsSeal l (outcome.Refused refusal.TooEarly) =
    (l.is_broken ≡ false) × (may_seal l l.checkpoint ≡ true) × (l.durable < mark_of l.checkpoint)
BeginsSeal l x = ⊥

-- ---- the counts

-- Publish gives the committed count.
abbrev pub Publishes : Life → Outcome → Type 0
Publishes l (outcome.Published n) = n ≡ l.committed
Publishes l x = ⊥

-- ---- the ends of a life

-- A stop within a device call names that call.
abbrev pub StopsInside : World → Life → Option Side → Outcome → Type 0
StopsInside w l None (outcome.Stopped None) = Unit {0}
StopsInside w l (Some s) (outcome.Stopped (Some call)) = IsDue w l s call
StopsInside w l within x = ⊥

-- between lives there is none
abbrev pub StopsOutside : Outcome → Type 0
StopsOutside (outcome.Stopped None) = Unit {0}
StopsOutside x = ⊥

-- ---- all of them

-- the outcome is a step, of which this is so
abbrev pub IsStep : Outcome → (Made → End → Type 0) → Type 0
IsStep (outcome.Stepped m end) P = P m end
IsStep x P = ⊥

abbrev pub HappensInside : World → Life → Event → Outcome → Type 0
HappensInside w l (event.Change worker c) x = BeginsChange l c x
HappensInside w l (event.Read worker r) x = x ≡ outcome.Started
HappensInside w l (event.Release worker) x = x ≡ outcome.Started
HappensInside w l (event.Step worker) x = IsStep x (StepsJob w l worker (job_of l worker))
HappensInside w l event.Sweep x = IsStep x (BeginsSweep w l l.sweep)
HappensInside w l event.KeeperStep x = IsStep x (StepsKeeper w l l.walk)
HappensInside w l (event.Stage most) x = StagesRun w l most x
HappensInside w l (event.Device s e) x = MakesCall w l s e x
HappensInside w l event.Publish x = Publishes l x
HappensInside w l event.Fail x = x ≡ outcome.FailMade
HappensInside w l event.Begin x = BeginsCheckpoint l x
HappensInside w l (event.Capture stripe) x = BeginsCapture l stripe x
HappensInside w l event.Seal x = BeginsSeal l x
HappensInside w l (event.Stop within fill) x = StopsInside w l within x
HappensInside w l event.Leave x = x ≡ outcome.Left
HappensInside w l event.Old x = ⊥
HappensInside w l (event.Open stripes fails_at) x = ⊥

abbrev pub HappensOutside : World → Opened → Event → Outcome → Type 0
HappensOutside w found (event.Open stripes fails_at) x = OpensFiles w found fails_at x
HappensOutside w found (event.Stop within fill) x = StopsOutside x
HappensOutside w found e x = ⊥

abbrev pub HappensWith : World → Option Life → Opened → Event → Outcome → Type 0
HappensWith w None found e x = HappensOutside w found e x
HappensWith w (Some l) found e x = HappensInside w l e x

-- The outcome meets the case of its event. It is Skipped exactly if the event doesn't fit, since no case allows that.
-- What an opening found is `found`.
abbrev pub Meets : World → Opened → Event → Outcome → Type 0
Meets w found e x = MatchBool (fits w e) (HappensWith w w.life found e x) (x ≡ outcome.Skipped)
