-- One change on a store of 16 stripes, row by row; and the phases of a commit, a rotation and a checkpoint.
use Rattle.std.specs.Prelude.{◌≡◌, ℕ, ◌+◌, ◌≤◌, List, [], ◌∷◌, ◌++◌, length, map, Option, None, Some, true, false}
use Rattle.std.specs.FinMap as finite
use Rattle.std.specs.Global.{Vec}
use Rattle.std.specs.List.{flat_map, range_with_len}
use Rattle.java_hash.specs.declared.stripe_count.StripeCount.{StripeCount}
use Rattle.map_types.specs.declared.commands.Change.TheVariants.{Put}
use Rattle.map_types.specs.declared.commands.Command.{Command}
use Rattle.map_types.specs.declared.commands.Reply.TheVariants.{Was}
use Rattle.map_types.specs.declared.refusals.Refusal.TheVariants as refusal
use Rattle.disk_model.specs.declared.fill.Fill.{Fill}
use Rattle.disk_model.specs.declared.fill.Fill.TheVariants.{Old, New, Byte}
use Rattle.disk_model.specs.Gates.{writes}
use Rattle.log_records.specs.Layout.{first_layout}
use Rattle.store_layout.specs.Examples.{a, number}
use Rattle.store_layout.specs.Logs.{frame, new_layout}
use Rattle.store_layout.specs.Opening.{Opened, StandsFor, first_checkpoint}
use Rattle.store_layout.specs.declared.log_phase.Phase.TheVariants as log_phase
use Rattle.store_layout.specs.declared.checkpoint_phase.CheckpointPhase.{CheckpointPhase}
use Rattle.store_layout.specs.declared.checkpoint_phase.CheckpointPhase.TheVariants as checkpoint_phase
use Rattle.sim_rules.specs.declared.event.Ending.TheVariants as ending
use Rattle.sim_rules.specs.declared.event.Event.TheVariants as event
use Rattle.sim_rules.specs.declared.event.Side.TheVariants as side
use Rattle.sim_rules.specs.declared.outcome.DeviceCall.{DeviceCall}
use Rattle.sim_rules.specs.declared.outcome.DeviceCall.TheVariants as device
use Rattle.sim_rules.specs.declared.outcome.End.{End}
use Rattle.sim_rules.specs.declared.outcome.End.TheVariants as ends
use Rattle.sim_rules.specs.declared.outcome.Made.TheVariants as made
use Rattle.sim_rules.specs.declared.outcome.MapEntry.{MapEntry}
use Rattle.sim_rules.specs.declared.outcome.Outcome.TheVariants as outcome
use Rattle.sim_rules.specs.World.{World, Life, Running, Committing, Rotating, begun_by, old_start, seen_of, start}
use Rattle.sim_rules.specs.After.{after, call_of, file_of, log_called, running_called, synced_below}
use Rattle.sim_rules.specs.Cases.{Meets, phase_of_checkpoint, phase_of_log}
use Rattle.sim_rules.specs.Runs.{Row, IsRun}

-- ---- rows, the oldest first

-- each row meets its case, in the world that those before it lead to
abbrev pub AllMeet : Opened → World → List Row → Type 0
AllMeet found w [] = Unit {0}
AllMeet found w (row ∷ rows) = Meets w found row.0 row.1 × AllMeet found (after w found row.0 row.1) rows

abbrev pub after_rows : Opened → World → List Row → World
after_rows found w [] = w
after_rows found w (row ∷ rows) = after_rows found (after w found row.0 row.1) rows

-- ---- the store is opened

-- what an opening finds of a new store
abbrev pub new_store : Opened
new_store = record { checkpoint = first_checkpoint 16; first = []; second = None }

-- the world after it, if it began with this one
abbrev pub opened_from : World → World
opened_from from = record {
  files = synced_below 4 from.files;
  history = [];
  life = Some
      (begun_by 16 (seen_of from.files) new_store);
}

abbrev pub opened : World
opened = opened_from start

-- It takes 12 device calls: four syncs, two heads and the head of the checkpoint that is used, the length and the bytes
-- of its file and of its log, and the gate of the other checkpoint's file.
abbrev pub OpensFrom : World → Type 0
OpensFrom from = (stripes : StripeCount) (entries : Vec MapEntry) (calls : ℕ) → stripes.count ≡ 16 → entries.items ≡ []
    → calls ≡ 12 →
    Meets from new_store (event.Open stripes None) (outcome.Opened calls 0 entries)
    × (after from new_store (event.Open stripes None) (outcome.Opened calls 0 entries) ≡ opened_from from)

abbrev pub NewStoreOpens : Type 0
NewStoreOpens = OpensFrom start

-- So a call fails by which it is refused only among these 12, whatever the event names.
abbrev pub FailsAmongThem : Type 0
FailsAmongThem = (found : Opened) (stripes : StripeCount) (fails_at : Option ℕ) (calls : ℕ) →
    Meets start found (event.Open stripes fails_at) (outcome.NotOpened calls refusal.Failed) → calls ≤ 12

-- This alone is a run.
abbrev pub OpeningIsRun : Type 0
OpeningIsRun = (stripes : StripeCount) (entries : Vec MapEntry) (calls : ℕ) → stripes.count ≡ 16 → entries.items ≡ []
    → calls ≡ 12 →
    IsRun (event.Open stripes None ∷ []) (outcome.Opened calls 0 entries ∷ [])

-- ---- a becomes 5

abbrev pub put_a : Command
put_a = record { key = a; change = Put (number 5) }

abbrev pub put_rows : List Row
put_rows =
    (event.Change 0 put_a, outcome.Started)
    ∷ (event.Step 0, outcome.Stepped (made.Took 1) ends.Goes)
    ∷ (event.Step 0, outcome.Stepped (made.FoundAlive true) ends.Goes)
    ∷ (event.Step 0, outcome.Stepped (made.Looked 0) ends.Goes)
    ∷ (event.Step 0, outcome.Stepped (made.Drew 0) ends.Goes)
    ∷ (event.Step 0, outcome.Stepped (made.Gave 1) (ends.Held 1))
    ∷ []

-- while the stripe is held, a change of another worker on the same key is refused
abbrev pub OtherIsRefused : Type 0
OtherIsRefused = AllMeet new_store opened (
    (event.Change 0 put_a, outcome.Started)
    ∷ (event.Step 0, outcome.Stepped (made.Took 1) ends.Goes)
    ∷ (event.Change 1 put_a, outcome.Started)
    ∷ (event.Step 1, outcome.Stepped (made.FoundHeld 1) (ends.Refused (refusal.Busy 1)))
    ∷ [])

-- A key above the limit of a new log is refused. Its worker may begin another change then, and one at the limit begins
-- its walk.
abbrev pub LongKeyIsRefused : Type 0
LongKeyIsRefused = (long short : Command) → length long.key ≡ new_layout.key_limit + 1
    → length short.key ≡ new_layout.key_limit → AllMeet new_store opened (
    (event.Change 0 long, outcome.Refused refusal.KeyTooLong)
    ∷ (event.Change 0 short, outcome.Started)
    ∷ [])

-- ---- its entry is swept and staged

abbrev pub stripe_rows : ℕ → End → List Row
stripe_rows stripe end = (event.KeeperStep, outcome.Stepped (made.Took stripe) ends.Goes) ∷
    (event.KeeperStep, outcome.Stepped (made.Gave stripe) end) ∷ []

abbrev pub sweep_rows : List Row
sweep_rows =
    (event.Sweep, outcome.Stepped (made.Looked 1) ends.Goes)
    ∷ (flat_map (λ stripe. stripe_rows stripe ends.Goes) (range_with_len 0 15) ++ stripe_rows 15 (ends.Swept 1))

-- before the sweep nothing can be staged, and while it walks a Stage doesn't fit
abbrev pub unswept_rows : List Row
unswept_rows = (event.Stage 10, outcome.Staged 0) ∷ (event.Sweep, outcome.Stepped (made.Looked 1) ends.Goes) ∷
    (event.Stage 10, outcome.Skipped) ∷ []

abbrev pub NotYetInHand : Type 0
NotYetInHand = AllMeet new_store opened (put_rows ++ unswept_rows)

abbrev pub stage_rows : List Row
stage_rows = (event.Stage 10, outcome.Staged 1) ∷ []

abbrev pub staged_rows : List Row
staged_rows = put_rows ++ (sweep_rows ++ stage_rows)

abbrev pub ChangeIsStaged : Type 0
ChangeIsStaged = AllMeet new_store opened staged_rows

-- ---- its frame is written

-- the batch's frame, and a closed gate
abbrev pub frame_bytes : List ℕ
frame_bytes = frame new_layout (record { first = 0; commands = put_a ∷ [] }) ++ 0 ∷ []

abbrev pub written_rows : Vec ℕ → List Row
written_rows bytes =
    (event.Device side.Log ending.Done, outcome.Logged (device.Write 2 18 bytes) log_phase.Written)
    ∷ (event.Device side.Log ending.Done, outcome.Logged (device.Sync 2) log_phase.Synced)
    ∷ []

-- the reply isn't released yet
abbrev pub withheld_rows : List Row
withheld_rows =
    (event.Release 0, outcome.Started)
    ∷ (event.Step 0, outcome.Stepped (made.Saw 0) ends.Goes)
    ∷ (event.Step 0, outcome.Stepped (made.FoundAlive true) ends.NotYet)
    ∷ []

-- the gate is opened, the count is published, and the reply is released
abbrev pub released_rows : Vec ℕ → List Row
released_rows gate =
    (event.Device side.Log ending.Done, outcome.Logged (device.Write 2 17 gate) log_phase.Opened)
    ∷ (event.Device side.Log ending.Done, outcome.Logged (device.Sync 2) log_phase.Idle)
    ∷ (event.Publish, outcome.Published 1)
    ∷ (event.Release 0, outcome.Started)
    ∷ (event.Step 0, outcome.Stepped (made.Saw 1) (ends.Replied 1 (Was None)))
    ∷ []

abbrev pub ChangeIsReleased : Type 0
ChangeIsReleased = (bytes gate : Vec ℕ) → bytes.items ≡ frame_bytes → gate.items ≡ 165 ∷ [] →
    AllMeet new_store opened (staged_rows ++ (written_rows bytes ++ (withheld_rows ++ released_rows gate)))

-- All of it, from the opening on, is a run.
abbrev pub schedule_rows : StripeCount → Vec MapEntry → Vec ℕ → Vec ℕ → List Row
schedule_rows stripes entries bytes gate =
    (event.Open stripes None, outcome.Opened 12 0 entries) ∷ (staged_rows
    ++ (written_rows bytes ++ (withheld_rows ++ released_rows gate)))

abbrev pub ScheduleIsRun : Type 0
ScheduleIsRun = (stripes : StripeCount) (entries : Vec MapEntry) (bytes gate : Vec ℕ) → stripes.count ≡ 16
    → entries.items ≡ [] → bytes.items ≡ frame_bytes
    → gate.items ≡ 165 ∷ [] → IsRun (map (λ row. row.0) (schedule_rows stripes entries bytes gate))
    (map (λ row. row.1) (schedule_rows stripes entries bytes gate))

-- ---- or its first call fails

-- That is the write of the frame and a closed gate, whatever it leaves.
abbrev pub FailsAsDue : Type 0
FailsAsDue = (fill : Fill) (call : DeviceCall) →
    Meets (after_rows new_store opened staged_rows) new_store (event.Device side.Log (ending.Fails fill))
    (outcome.CallFailed call)
    → (file_of call ≡ 2) × (call_of call ≡ writes 18 frame_bytes)

-- ---- or nothing is written

-- all four calls of the commit are syncs of another file
abbrev pub unwritten_rows : List Row
unwritten_rows =
    (event.Device side.Log ending.Done, outcome.Logged (device.Sync 0) log_phase.Written)
    ∷ (event.Device side.Log ending.Done, outcome.Logged (device.Sync 0) log_phase.Synced)
    ∷ (event.Device side.Log ending.Done, outcome.Logged (device.Sync 0) log_phase.Opened)
    ∷ (event.Device side.Log ending.Done, outcome.Logged (device.Sync 0) log_phase.Idle)
    ∷ []

abbrev pub opened_rows : StripeCount → ℕ → Vec MapEntry → List Row → List Row
opened_rows stripes calls entries rows = (event.Open stripes None, outcome.Opened calls 0 entries) ∷ rows

-- So these are no rows of a run, with no opening behind them that would show it.
abbrev pub UnwrittenIsNoRun : Type 0
UnwrittenIsNoRun = (stripes : StripeCount) (calls : ℕ) (entries : Vec MapEntry) →
    IsRun (map (λ row. row.0) (opened_rows stripes calls entries (staged_rows ++ unwritten_rows)))
    (map (λ row. row.1) (opened_rows stripes calls entries (staged_rows ++ unwritten_rows))) → ⊥

-- ---- or the machine stops before the gate is open, or within the call that opens it

abbrev pub stopped_with : Vec ℕ → Row → World
stopped_with bytes row =
    after_rows new_store opened (staged_rows ++ (written_rows bytes ++ (withheld_rows ++ row ∷ [])))

abbrev pub StoppedBefore : Type 0
StoppedBefore = (bytes : Vec ℕ) → bytes.items ≡ frame_bytes →
    StandsFor (seen_of (stopped_with bytes (event.Stop None New, outcome.Stopped None)).files) 0 finite.empty

abbrev pub stopped_within : Vec ℕ → Vec ℕ → Fill → World
stopped_within bytes gate fill =
    stopped_with bytes (event.Stop (Some side.Log) fill, outcome.Stopped (Some (device.Write 2 17 gate)))

-- if the gate is left open, the change stands
abbrev pub StoppedOpen : Type 0
StoppedOpen = (bytes gate : Vec ℕ) → bytes.items ≡ frame_bytes → gate.items ≡ 165 ∷ [] →
    StandsFor (seen_of (stopped_within bytes gate New).files) 1 (finite.from_entries ((a, number 5) ∷ []))
    × StandsFor (seen_of (stopped_within bytes gate (Byte 165)).files) 1 (finite.from_entries ((a, number 5) ∷ []))

-- if it isn't, the change is gone
abbrev pub StoppedShut : Type 0
StoppedShut = (bytes gate : Vec ℕ) → bytes.items ≡ frame_bytes → gate.items ≡ 165 ∷ [] →
    StandsFor (seen_of (stopped_within bytes gate Old).files) 0 finite.empty
    × StandsFor (seen_of (stopped_within bytes gate (Byte 127)).files) 0 finite.empty

-- ---- a directory of version 01

-- it opens as a new store does
abbrev pub OldStoreOpens : Type 0
OldStoreOpens = OpensFrom old_start

-- A key above the limit of version 01 is refused, whatever a new log takes; one at the limit begins its walk.
abbrev pub OldKeyIsRefused : Type 0
OldKeyIsRefused =
    (long short : Command) → length long.key ≡ first_layout.key_limit + 1 → length short.key ≡ first_layout.key_limit →
    AllMeet new_store (opened_from old_start) (
    (event.Change 0 long, outcome.Refused refusal.KeyTooLong)
    ∷ (event.Change 0 short, outcome.Started)
    ∷ [])

-- A run begins with an Old and an opening.
abbrev pub OldBeginsRun : Type 0
OldBeginsRun = (stripes : StripeCount) (entries : Vec MapEntry) (calls : ℕ) → stripes.count ≡ 16 → entries.items ≡ []
    → calls ≡ 12 →
    IsRun (event.Old ∷ event.Open stripes None ∷ []) (outcome.Old ∷ outcome.Opened calls 0 entries ∷ [])

-- Behind the opening the Old is skipped.
abbrev pub SecondOldIsSkipped : Type 0
SecondOldIsSkipped = (stripes : StripeCount) (entries : Vec MapEntry) (calls : ℕ) → stripes.count ≡ 16
    → entries.items ≡ [] → calls ≡ 12 →
    IsRun (event.Open stripes None ∷ event.Old ∷ []) (outcome.Opened calls 0 entries ∷ outcome.Skipped ∷ [])

-- ---- phases

-- the four calls of a batch commit its commands
abbrev pub BatchIsCommitted : Type 0
BatchIsCommitted = (w : World) (l : Life) (n : ℕ) →
    (map (λ left. phase_of_log (log_called w l (Committing n left)).log) (4 ∷ 3 ∷ 2 ∷ 1 ∷ [])
    ≡ log_phase.Written ∷ log_phase.Synced ∷ log_phase.Opened ∷ log_phase.Idle ∷ [])
    × (map (λ left. (log_called w l (Committing n left)).committed) (4 ∷ 3 ∷ 2 ∷ 1 ∷ [])
    ≡ l.committed ∷ l.committed ∷ l.committed ∷ (l.committed + n) ∷ [])

abbrev pub RotationGoesOn : Type 0
RotationGoesOn = (w : World) (l : Life) →
    map (λ left. phase_of_log (log_called w l (Rotating left)).log) (6 ∷ 5 ∷ 4 ∷ 3 ∷ 2 ∷ 1 ∷ [])
    ≡ log_phase.HeaderWritten ∷ log_phase.Staged ∷ log_phase.Written ∷ log_phase.Synced ∷ log_phase.Opened
    ∷ log_phase.Idle ∷ []

-- The newest log has its layout until the last call of a rotation; then it is one of the new version. The limit for
-- keys stays.
abbrev pub RotationTakesNewVersion : Type 0
RotationTakesNewVersion = (w : World) (l : Life) →
    (map (λ left. (log_called w l (Rotating left)).layout) (6 ∷ 5 ∷ 4 ∷ 3 ∷ 2 ∷ 1 ∷ [])
    ≡ l.layout ∷ l.layout ∷ l.layout ∷ l.layout ∷ l.layout ∷ new_layout ∷ [])
    × (map (λ left. (log_called w l (Rotating left)).key_limit) (6 ∷ 5 ∷ 4 ∷ 3 ∷ 2 ∷ 1 ∷ [])
    ≡ l.key_limit ∷ l.key_limit ∷ l.key_limit ∷ l.key_limit ∷ l.key_limit ∷ l.key_limit ∷ [])

-- the phase after the next call of this checkpoint
abbrev pub next_phase : Life → Running → CheckpointPhase
next_phase l running = phase_of_checkpoint (running_called l running).checkpoint

abbrev pub CheckpointGoesOn : Type 0
CheckpointGoesOn = (l : Life) (running : Running) →
    (map (λ left. next_phase l (record running { clears = left; is_waiting = false; seals = 0 })) (3 ∷ 2 ∷ 1 ∷ [])
    ≡ checkpoint_phase.GateWritten ∷ checkpoint_phase.GateSynced ∷ checkpoint_phase.Ready ∷ [])
    × (next_phase l (record running { clears = 0; is_waiting = true; seals = 0 }) ≡ checkpoint_phase.Ready)
    × (map (λ left. next_phase l (record running { clears = 0; is_waiting = false; seals = left })) (4 ∷ 3 ∷ 2 ∷ 1 ∷ [])
    ≡ checkpoint_phase.HeaderWritten ∷ checkpoint_phase.HeaderSynced ∷ checkpoint_phase.Opened
    ∷ checkpoint_phase.Sealed ∷ [])
