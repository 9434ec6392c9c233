-- Whole runs: what events and outcomes lead to, and the machine of one list that they are a run of.
use Rattle.std.specs.Prelude.{◌≡◌, ◌⊎◌, ℕ, ◌+◌, Bool, true, false, List, [], ◌∷◌, length, map, Option, Some, None}
use Rattle.std.specs.List.{AllByRecursion}
use Rattle.std.specs.FinMap as finite
use Rattle.map_types.specs.declared.refusals.Refusal.TheVariants as refusal
use Rattle.map_types.specs.declared.commands.Command.{Command}
use Rattle.map_model.specs.Maps.{Map}
use Rattle.ticket_order.specs.declared.record.Asked.TheVariants.{Changing}
use Rattle.ticket_order.specs.Records.{call}
use Rattle.disk_model.specs.Files.{Contents, Files, Leaves}
use Rattle.store_layout.specs.Opening.{Opened, StandsForFront}
use Rattle.sim_rules.specs.declared.event.Event.{Event}
use Rattle.sim_rules.specs.declared.event.Event.TheVariants as event
use Rattle.sim_rules.specs.declared.outcome.End.{End}
use Rattle.sim_rules.specs.declared.outcome.End.TheVariants as ends
use Rattle.sim_rules.specs.declared.outcome.Made.{Made}
use Rattle.sim_rules.specs.declared.outcome.Made.TheVariants as made
use Rattle.sim_rules.specs.declared.outcome.Outcome.{Outcome}
use Rattle.sim_rules.specs.declared.outcome.Outcome.TheVariants as outcome
use Rattle.sim_rules.specs.Machine.{Machine, Move, Calls, Releases, Stops, Opens, AreReleasedTo, IsAllowed, begun}
use Rattle.sim_rules.specs.Machine.{moved, whole}
use Rattle.sim_rules.specs.World.{World, Life, Job, Idle, Walks, Releasing, LogWork, Committing, job_of, old_start}
use Rattle.sim_rules.specs.World.{seen_of, start}
use Rattle.sim_rules.specs.After.{after, entered}
use Rattle.sim_rules.specs.Cases.{Meets, entry_of}

-- ---- the move that an outcome is

-- A TICKET calls the command that the worker's event named. A reply that is released is that of the worker's call, at
-- its position.
abbrev pub move_of : Job → Made → End → Option Move
move_of (Walks (Changing c) stage) (made.Drew ticket) end = Some (Calls c)
move_of (Releasing asked position asking) m (ends.Replied q reply) = Some (Releases (call q asked reply))
move_of job m end = None

abbrev pub job_in : Option Life → ℕ → Job
job_in None worker = Idle
job_in (Some l) worker = job_of l worker

-- No other event than a worker's step is such a move.
abbrev pub move_of_step : World → Event → Made → End → Option Move
move_of_step w (event.Step worker) m end = move_of (job_in w.life worker) m end
move_of_step w e m end = None

-- Some number of commands is left.
abbrev pub IsStop : Option Move → Type 0
IsStop move = (p : ℕ) × (move ≡ Some (Stops p))

-- A stop is a stop of the machine, and so is a life that is left. An opening returns the number of its commands and the
-- map with its entries. No other outcome is a move.
abbrev pub IsMove : World → Event → Outcome → Option Move → Type 0
IsMove w e (outcome.Stepped m end) move = move ≡ move_of_step w e m end
IsMove w e (outcome.Stopped within) move = IsStop move
IsMove w e outcome.Left move = IsStop move
IsMove w e (outcome.Opened calls prefix entries) move =
    (m : Map) × (map entry_of entries.items ≡ finite.entries m) × (move ≡ Some (Opens prefix m))
IsMove w e x move = move ≡ None

abbrev pub MayMove : Machine → Option Move → Type 0
MayMove a None = Unit {0}
MayMove a (Some move) = IsAllowed a move

abbrev pub moved_by : Machine → Option Move → Machine
moved_by a None = a
moved_by a (Some move) = moved a move

-- ---- one event more

-- an event and its outcome
abbrev pub Row : Type 0
Row = Event × Outcome

-- the files as a stop finds them, within a device call or between two
abbrev pub stopped_in : Row → Files → Files
stopped_in (event.Stop within fill, outcome.Stopped (Some call)) files = entered call files
stopped_in row files = files

-- Whatever a stop may leave at the event is so (P), and so (Q) is what it may leave after it, and what is read then.
-- (Within a call that is made a stop leaves what it may leave before that, or what it may leave after it.)
pub record AtEachMoment (P Q : Contents → Type 0) (row : Row) (files files' : Files) : Type 0 where
  pub within : (contents : Contents) → Leaves (stopped_in row files) contents → P contents
  pub left : (contents : Contents) → Leaves files' contents → Q contents
  pub read : Q (seen_of files')

-- The outcome meets its case, and this is the world after it.
pub record Happens (w : World) (row : Row) (w' : World) : Type 0 where
  -- what an opening found in the files
  pub found : Opened
  pub meets : Meets w found row.0 row.1
  pub world : w' ≡ after w found row.0 row.1

-- It is a move of the machine which that allows, or none.
pub record Moves (w : World) (a : Machine) (row : Row) (a' : Machine) : Type 0 where
  pub move : Option Move
  pub is_move : IsMove w row.0 row.1 move
  pub allowed : MayMove a move
  pub machine : a' ≡ moved_by a move

-- ---- what the files stand for

-- of a life what is committed
abbrev pub least_of : Option Life → ℕ
least_of None = 0
least_of (Some l) = l.committed

-- how many commands are staged
abbrev pub staged_in : LogWork → ℕ
staged_in (Committing n left) = n
staged_in log = 0

-- of a life what is committed and staged
abbrev pub most_of : List Command → Option Life → ℕ
most_of history None = length history
most_of history (Some l) = l.committed + staged_in l.log

-- These contents stand for a front of the history. That front loses no command at whose position a reply was released,
-- in any life. In a life it loses none that is committed, and has none that isn't committed or staged.
pub record AreKept (w : World) (a : Machine) (contents : Contents) : Type 0 where
  pub front : StandsForFront (whole w.history) (least_of w.life) (most_of w.history w.life) contents
  pub released : AreReleasedTo front.count a.released

-- so do the files at each moment of an event, and after it
abbrev pub Keeps : World → Machine → Row → World → Machine → Type 0
Keeps w a row w' a' = AtEachMoment (AreKept w a) (AreKept w' a') row w.files w'.files

-- ---- a run

-- The rows, the newest first, lead from the world at the beginning to this one, and to this state of the machine.
unfoldable pub LeadsTo : World → List Row → World → Machine → Type 0
LeadsTo from [] w a = (w ≡ from) × (a ≡ begun)
LeadsTo from (row ∷ rows) w a =
    (w0 : World) × (a0 : Machine) × LeadsTo from rows w0 a0 × Happens w0 row w × Moves w0 a0 row a × Keeps w0 a0 row w a

-- An opening is refused only for want of memory, or by the device call that its event names, which was its last.
abbrev pub OpensWell : Row → Type 0
OpensWell (event.Open stripes fails_at, outcome.NotOpened calls reason) =
    (reason ≡ refusal.NoMemory) ⊎ ((reason ≡ refusal.Failed) × (fails_at ≡ Some calls))
OpensWell row = Unit {0}

unfoldable pub rows_onto : List Row → List Event → List Outcome → List Row
rows_onto rows (e ∷ es) (x ∷ xs) = rows_onto ((e, x) ∷ rows) es xs
rows_onto rows es xs = rows

-- the events with their outcomes, the newest first
abbrev pub rows_of : List Event → List Outcome → List Row
rows_of es xs = rows_onto [] es xs

-- The outcomes are those of a run that begins with this world, whatever the events are. There is one for each event,
-- and each meets its case. The files stand for what they have to at each moment. Together the outcomes are a run of the
-- machine of one list.
pub record IsRunFrom (from : World) (events : List Event) (outcomes : List Outcome) : Type 0 where
  pub one_each : length outcomes ≡ length events
  pub world : World
  pub machine : Machine
  pub leads : LeadsTo from (rows_of events outcomes) world machine
  pub opens : AllByRecursion OpensWell (rows_of events outcomes)

-- An Old that is the first event has the outcome Old, and the run goes on from a directory of version 01. Any other run
-- begins with a new store.
abbrev pub IsRun : List Event → List Outcome → Type 0
IsRun (event.Old ∷ events) (outcome.Old ∷ outcomes) = IsRunFrom old_start events outcomes
IsRun (event.Old ∷ events) outcomes = ⊥
IsRun events outcomes = IsRunFrom start events outcomes

-- the first event is an Old
abbrev pub is_old : List Event → Bool
is_old (event.Old ∷ events) = true
is_old events = false
