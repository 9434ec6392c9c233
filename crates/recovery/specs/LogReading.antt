-- What reading the logs of a checkpoint finds.
use Rattle.std.specs.Prelude.{◌≡◌, ◌⊎◌, ℕ, ◌+◌, ◌≤◌, List, length, Option}
use Rattle.disk_model.specs.Files.{Files, now}
use Rattle.map_types.specs.declared.refusals.Refusal.{Refusal}
use Rattle.map_types.specs.declared.refusals.Refusal.TheVariants.{Damaged, Failed, NoMemory}
use Rattle.log_records.specs.Layout.{Layout, layout_of}
use Rattle.store_layout.specs.Checkpoints.{Section, Checkpoint}
use Rattle.store_layout.specs.Logs.{Batch, IsClosed, IsEnded, commands_in, log_file}
use Rattle.store_layout.specs.Readings.{IsBadHeader, Reads, broken, gate_behind}
use Rattle.store_layout.specs.Opening.{Contents, AreLogs, FoundLog, gate_in, log_layout, logged_by, newest_by}
use Rattle.gate_log.specs.Scan.{ScanState, HasRead}
use Rattle.gate_log.specs.States.{LogState, resumed}
use Rattle.recovery.specs.declared.replay.End.{End}
use Rattle.recovery.specs.declared.replay.End.TheVariants.{Closed, Ended}
use Rattle.recovery.specs.declared.restoring.Restoring.{Restoring}
use Rattle.recovery.specs.Restoring.{Applies}

-- what a read gives of each file
abbrev pub contents_of : {D : Type 0} → (D → List Files) → D → Contents
contents_of states disk number = (now (states disk) number).seen

-- a device call failed, or memory was wanting, or there is this reason
abbrev pub RefusesFor : Type 0 → Refusal → Type 0
RefusesFor Reason refusal = (refusal ≡ Failed) ⊎ ((refusal ≡ NoMemory) ⊎ Reason)

-- the log is closed behind these batches, or it has ended
abbrev pub IsEnd : Layout → End → ℕ → ℕ → List Batch → List ℕ → Type 0
IsEnd layout Closed generation low batches content = IsClosed layout generation low batches content
IsEnd layout Ended generation low batches content = IsEnded layout generation low batches (generation + 1) content

-- the last gate of a log whose batches end at this one: behind an end frame another gate stands
abbrev pub end_gate : End → ℕ → ℕ
end_gate Closed gate = gate
end_gate Ended gate = gate + 14

-- the last gate of a log that is read to its end
pub record EndsAt (layout : Layout) (generation low : ℕ) (content : List ℕ) (last : ℕ) : Type 0 where
  pub end : End
  pub batches : List Batch
  pub ends : IsEnd layout end generation low batches content
  pub gate : last ≡ end_gate end (gate_behind layout generation low batches)

-- at least `count` batches were read, and their changes were made
pub record IsReading (layout : Layout) (low : ℕ) (content : List ℕ) (before : Restoring) (scan : ScanState) (count : ℕ)
    (after : Restoring) : Type 0 where
  pub batches : List Batch
  pub read : HasRead layout low batches scan content
  pub many : count ≤ length batches
  pub applied : Applies low (commands_in batches) before after

-- the log was read to its end, and its changes were made
pub record IsReplayed (layout : Layout) (generation low : ℕ) (content : List ℕ) (before : Restoring) (end : End)
    (scan : ScanState) (after : Restoring) : Type 0 where
  pub batches : List Batch
  pub ends : IsEnd layout end generation low batches content
  pub gate : scan.gate ≡ gate_behind layout generation low batches
  pub committed : scan.expected ≡ low + length (commands_in batches)
  pub applied : Applies low (commands_in batches) before after

-- the log goes on with an open gate and no frame, and this is the refusal
pub record IsBrokenFor (layout : Layout) (generation low : ℕ) (content : List ℕ) (refusal : Refusal) : Type 0 where
  pub batches : List Batch
  pub reads : Reads layout generation low content (broken batches)
  pub damage : refusal ≡ Damaged (log_file generation) (gate_behind layout generation low batches)

-- nothing is staged in the log, and no device call is due
abbrev pub IsResumed : LogState → Type 0
IsResumed log = log ≡ resumed log.version log.generation log.low log.gate log.committed

-- the log goes on behind the last of its batches, in the version that its file names
pub record GoesOnFrom (content : List ℕ) (found : FoundLog) (log : LogState) : Type 0 where
  pub version : layout_of log.version ≡ log_layout content
  pub generation : log.generation ≡ found.generation
  pub low : log.low ≡ found.low
  pub gate : log.gate ≡ gate_in content found
  pub committed : log.committed ≡ found.low + length (commands_in found.batches)

-- the same, where the contents have the log in the file of its generation
abbrev pub GoesOnIn : Contents → FoundLog → LogState → Type 0
GoesOnIn contents found log = GoesOnFrom (contents (log_file found.generation)) found log

-- one log was read, and its changes were made
pub record IsLogRead (generation low : ℕ) (content : List ℕ) (before : Restoring) (end : End) (log : LogState)
    (after : Restoring) : Type 0 where
  pub batches : List Batch
  pub ends : IsEnd (log_layout content) end generation low batches content
  pub goes_on : GoesOnFrom content (record { generation = generation; low = low; batches = batches }) log
  pub applied : Applies low (commands_in batches) before after

-- what is wrong with one log: its header, or one of its frames
abbrev pub IsBadLog : ℕ → ℕ → List ℕ → Refusal → Type 0
IsBadLog generation low content refusal =
    IsBadHeader generation low content refusal ⊎ IsBrokenFor (log_layout content) generation low content refusal

-- a checkpoint of this generation and low ticket
abbrev pub checkpoint_with : ℕ → ℕ → ℕ → List Section → Checkpoint
checkpoint_with generation low stripes sections =
    record { generation = generation; low = low; stripes = stripes; sections = sections }

-- the logs of the checkpoint were read, and their changes were made
pub record AreReplayed (contents : Contents) (k : Checkpoint) (before after : Restoring) (log : LogState) : Type 0 where
  pub first : List Batch
  pub second : Option (List Batch)
  pub logs : AreLogs contents k first second
  pub goes_on : GoesOnIn contents (newest_by k first second) log
  pub applied : Applies k.low (logged_by first second) before after
