-- A keeper in the words of the world: its sweep, its walk, the work of its log, and the checkpoint that it writes.
use Rattle.std.specs.Prelude.{ℕ, List, Option, None, Some, Bool, true, false}
use Rattle.ticket_order.specs.declared.record.Record.{Record}
use Rattle.ticket_order.specs.declared.walk.Walk.{Walk}
use Rattle.ticket_order.specs.Records.{reach}
use Rattle.ticket_order.specs.Walks.{Kind, Take, Give, Ticket, Look, Durable, See, Fail, Alive, next_kind}
use Rattle.store_layout.specs.Checkpoints.{Section}
use Rattle.store_layout.specs.declared.log_phase.Phase.{Phase}
use Rattle.store_layout.specs.declared.log_phase.Phase.TheVariants as log_phase
use Rattle.gate_log.specs.States.{LogState}
use Rattle.store_layout.specs.declared.checkpoint_phase.CheckpointPhase.{CheckpointPhase}
use Rattle.store_layout.specs.declared.checkpoint_phase.CheckpointPhase.TheVariants as checkpoint_phase
use Rattle.checkpoint_file.specs.States.{CheckpointState}
use Rattle.flusher.specs.declared.keeper.Keeper.{Keeper}
use Rattle.flusher.specs.declared.sweeper.Sweep as sweeper
use Rattle.flusher.specs.declared.sweeper.Walking.{Walking}
use Rattle.flusher.specs.declared.sweeper.Walking.TheVariants as walking
use Rattle.flusher.specs.Rotating.{Logs, due_in}
use Rattle.sim_rules.specs.World.{Sweep, KeeperWalk, Rests, SweepTakes, SweepGives, CaptureLooks, CaptureGives, LogWork}
use Rattle.sim_rules.specs.World.{Resting, Committing, Rotating, Running}

-- ---- its walk

abbrev pub sweep_shown : Option sweeper.Sweep → Option Sweep
sweep_shown None = None
sweep_shown (Some sweep) = Some (record { count = sweep.count; stripe = sweep.stripe })

abbrev pub walking_shown : Walking → KeeperWalk
walking_shown walking.Rests = Rests
walking_shown walking.SweepTakes = SweepTakes
walking_shown (walking.SweepGives walk) = SweepGives

-- A capture that has taken its stripe comes to its LOOK; one that has looked comes to its GIVE, with the count that it
-- found.
abbrev pub capture_shown : Kind → ℕ → KeeperWalk
capture_shown (Take i) mark = CaptureLooks
capture_shown (Give i) mark = CaptureGives mark
capture_shown Ticket mark = CaptureLooks
capture_shown Look mark = CaptureLooks
capture_shown Durable mark = CaptureLooks
capture_shown See mark = CaptureLooks
capture_shown Fail mark = CaptureLooks
capture_shown Alive mark = CaptureLooks

abbrev pub walk_by : ℕ → Walking → Option Walk → Record → KeeperWalk
walk_by n walks None p = walking_shown walks
walk_by n walks (Some walk) p = capture_shown (next_kind n walk) (reach p)

-- what it walks, if this is the record of its pass
abbrev pub walk_shown : {D : Type 0} → ℕ → Keeper D → Record → KeeperWalk
walk_shown n keeper p = walk_by n keeper.sweeper.walking keeper.capture p

-- ---- its log

-- how many device calls are left of a rotation, or from the fifth on of a commit
abbrev pub calls_left : Phase → ℕ
calls_left log_phase.Idle = 0
calls_left log_phase.Header = 6
calls_left log_phase.HeaderWritten = 5
calls_left log_phase.Staged = 4
calls_left log_phase.Written = 3
calls_left log_phase.Synced = 2
calls_left log_phase.Opened = 1

-- a log that no other is to follow, when n commands are staged
abbrev pub committing : Phase → ℕ → LogWork
committing log_phase.Idle n = Resting
committing log_phase.Header n = Committing n 6
committing log_phase.HeaderWritten n = Committing n 5
committing log_phase.Staged n = Committing n 4
committing log_phase.Written n = Committing n 3
committing log_phase.Synced n = Committing n 2
committing log_phase.Opened n = Committing n 1

abbrev pub work_by : LogState → Option LogState → ℕ → LogWork
work_by newest None n = committing newest.phase n
work_by newest (Some next) n = Rotating (calls_left (due_in next.phase newest next).phase)

abbrev pub work_shown : Logs → ℕ → LogWork
work_shown logs n = work_by logs.newest logs.next n

-- ---- its checkpoint

-- how many device calls are left before the first section
abbrev pub clears_left : CheckpointPhase → ℕ
clears_left checkpoint_phase.Idle = 0
clears_left checkpoint_phase.Gate = 3
clears_left checkpoint_phase.GateWritten = 2
clears_left checkpoint_phase.GateSynced = 1
clears_left checkpoint_phase.Ready = 0
clears_left checkpoint_phase.Staged = 0
clears_left checkpoint_phase.Header = 0
clears_left checkpoint_phase.HeaderWritten = 0
clears_left checkpoint_phase.HeaderSynced = 0
clears_left checkpoint_phase.Opened = 0
clears_left checkpoint_phase.Sealed = 0

-- a section is still to be written
abbrev pub is_waiting_in : CheckpointPhase → Bool
is_waiting_in checkpoint_phase.Idle = false
is_waiting_in checkpoint_phase.Gate = false
is_waiting_in checkpoint_phase.GateWritten = false
is_waiting_in checkpoint_phase.GateSynced = false
is_waiting_in checkpoint_phase.Ready = false
is_waiting_in checkpoint_phase.Staged = true
is_waiting_in checkpoint_phase.Header = false
is_waiting_in checkpoint_phase.HeaderWritten = false
is_waiting_in checkpoint_phase.HeaderSynced = false
is_waiting_in checkpoint_phase.Opened = false
is_waiting_in checkpoint_phase.Sealed = false

-- how many device calls are left of the seal
abbrev pub seals_left : CheckpointPhase → ℕ
seals_left checkpoint_phase.Idle = 0
seals_left checkpoint_phase.Gate = 0
seals_left checkpoint_phase.GateWritten = 0
seals_left checkpoint_phase.GateSynced = 0
seals_left checkpoint_phase.Ready = 0
seals_left checkpoint_phase.Staged = 0
seals_left checkpoint_phase.Header = 4
seals_left checkpoint_phase.HeaderWritten = 3
seals_left checkpoint_phase.HeaderSynced = 2
seals_left checkpoint_phase.Opened = 1
seals_left checkpoint_phase.Sealed = 0

-- in this phase, with the sections that the writer was given
abbrev pub running_in : CheckpointPhase → CheckpointState → List Section → Running
running_in phase w sections =
    record {
      generation = w.generation;
      clears = clears_left phase;
      sections = sections;
      is_waiting = is_waiting_in phase;
      seals = seals_left phase;
    }

-- the writer, with the sections that it was given
abbrev pub running_shown : CheckpointState → List Section → Running
running_shown w sections = running_in w.phase w sections
