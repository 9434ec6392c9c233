-- A map in memory: how it begins, and what a call leaves of it.
use Rattle.std.specs.Prelude.{◌≡◌, ◌⊎◌, ℕ, ◌+◌, Bool, true, false, List, Result, Err}
use Rattle.std.specs.FinMap as finite
use Rattle.map_types.specs.declared.refusals.Refusal.{Refusal}
use Rattle.map_types.specs.declared.refusals.Refusal.TheVariants as refusal_type
use Rattle.ticket_order.specs.declared.held.Held.{Held}
use Rattle.ticket_order.specs.declared.record.Record.{Record}
use Rattle.ticket_order.specs.declared.record.Opening.{Opening}
use Rattle.store_layout.specs.Logs.{new_layout}
use Rattle.stripe_locks.specs.Plays.{joining}
use Rattle.disk_model.specs.Files.{Files, now}
use Rattle.ticket_order.specs.Legality.{history_of}
use Rattle.gate_log.specs.States.{LogState}
use Rattle.flusher.specs.declared.keeper.Keeper.{Keeper}
use Rattle.flusher.specs.Fitting.{StopsFit}
use Rattle.recovery.specs.Formatting.{IsFormatted}
use Rattle.recovery.specs.LogReading.{IsResumed, contents_of}
use Rattle.wire_frames.specs.declared.requests.Request.{Request}
use Rattle.connections.specs.Dialogue.{Answer}
use Rattle.cmd_mem.specs.Served.{Begins, Ends, IsCallOf, fails}

-- a map in memory: the count of stripes, the record of its pass, its log, and whether it has failed
pub record MapState : Type 0 where
  pub stripes : ℕ
  pub pass : Record
  pub log : LogState
  pub has_failed : Bool

-- where an empty map begins, in files of a new generation
abbrev pub nothing_yet : Opening
nothing_yet = record { first = 0; map = finite.empty; key_limit = new_layout.key_limit }

-- An empty map of 16 stripes: its pass has made no step, and its log goes on from the first ticket.
pub record IsEmpty (map : MapState) : Type 0 where
  pub stripes : map.stripes ≡ 16
  pub pass : map.pass ≡ joining nothing_yet 0
  pub log : IsResumed map.log
  pub committed : map.log.committed ≡ 0
  pub unfailed : map.has_failed ≡ false

-- Why a disk was not made that of an empty map and opened, and how it was left: a device call has failed; or none has,
-- and a checkpoint is sealed there, or no memory was found.
pub data CannotOpen {D : Type 0} (states : D → List Files) (failures : D
    → ℕ) (disk : D) (refusal : Refusal) (left : D) : Type 0 where
  failed : refusal ≡ refusal_type.Failed → failures left ≡ failures disk + 1
      → CannotOpen states failures disk refusal left
  formatted : refusal ≡ refusal_type.AlreadyFormatted → IsFormatted (contents_of states disk)
      → failures left ≡ failures disk → CannotOpen states failures disk refusal left
  forgotten : refusal ≡ refusal_type.NoMemory → failures left ≡ failures disk
      → CannotOpen states failures disk refusal left

-- why no map was begun over it: for such a reason, or there was no keeper's pass
abbrev pub CannotBegin : {D : Type 0} → (D → List Files) → (D → ℕ) → D → Refusal → D → Type 0
CannotBegin states failures disk refusal left =
    CannotOpen states failures disk refusal left ⊎ ((refusal ≡ refusal_type.SeatsSpent)
    × (failures left ≡ failures disk))

-- A keeper of the map's log had this disk: whatever a stop leaves of its files stands for a front of the map's history,
-- with the committed commands and no more than the staged ones besides.
pub record Leaves {D : Type 0} (states : D → List Files) (map : MapState) (disk : D) : Type 0 where
  pub keeper : Keeper D
  pub own : keeper.disk ≡ disk
  pub log : keeper.log ≡ map.log
  pub stops : StopsFit (history_of map.pass) keeper (now (states disk))

-- a map that has not failed began a call so, or refused it; it left the log
pub record Begun (before : MapState) (request : Request) (begun : Result Held Refusal) (after : MapState) : Type 0 where
  pub working : before.has_failed ≡ false
  pub stripes : after.stripes ≡ before.stripes
  pub begins : Begins before.stripes before.pass request begun after.pass
  pub log : after.log ≡ before.log
  pub failed : after.has_failed ≡ fails begun

-- a map that has not failed finished a call so
pub record Ended (before : MapState) (held : Held) (answer : Answer) (after : MapState) : Type 0 where
  pub working : before.has_failed ≡ false
  pub stripes : after.stripes ≡ before.stripes
  pub ends : Ends before.pass held answer after.pass after.log
  pub failed : after.has_failed ≡ fails answer

-- a map that has failed refuses, and does nothing
pub record IsOver {X : Type 0} (before : MapState) (result : Result X Refusal) (after : MapState) : Type 0 where
  pub failed : before.has_failed ≡ true
  pub refused : result ≡ Err refusal_type.Failed
  pub same : after ≡ before

-- a call was begun so, and led from one state of the map to another
abbrev pub Began : MapState → Request → Result Held Refusal → MapState → Type 0
Began before request begun after = Begun before request begun after ⊎ IsOver before begun after

-- a call that was begun was finished so
abbrev pub Finished : MapState → Held → Answer → MapState → Type 0
Finished before held answer after = Ended before held answer after ⊎ IsOver before answer after

-- the map made the call whose reply is held
abbrev pub Owns : MapState → Held → Type 0
Owns map held = IsCallOf map.pass held

-- a call that was begun was given up: its reply is let go, and nothing else is done
abbrev pub GaveUp : MapState → Held → MapState → Type 0
GaveUp before held after = after ≡ before
