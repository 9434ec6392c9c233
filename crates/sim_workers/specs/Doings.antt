-- What a worker of a life does, and how its job stands against the record of its pass.
use Rattle.std.specs.Prelude.{◌≡◌, ℕ, List, [], ◌∷◌, ◌++◌, Option, Some, None, Bool, true, false}
use Rattle.std.specs.List.{Contains}
use Rattle.map_types.specs.declared.commands.Reply.{Reply}
use Rattle.ticket_order.specs.declared.held.Held.{Held}
use Rattle.ticket_order.specs.declared.held.Released.{Released}
use Rattle.ticket_order.specs.declared.held.Released.TheVariants as answer
use Rattle.ticket_order.specs.declared.record.Asked.{Asked}
use Rattle.ticket_order.specs.declared.record.Asked.TheVariants.{Changing, Reading}
use Rattle.ticket_order.specs.declared.record.StepMade.{StepMade}
use Rattle.ticket_order.specs.declared.record.Record.{Record}
use Rattle.ticket_order.specs.declared.walk.Walk.{Walk}
use Rattle.ticket_order.specs.declared.walk.Stepped.{Stepped}
use Rattle.ticket_order.specs.declared.walk.Stepped.TheVariants as stepped
use Rattle.ticket_order.specs.Records.{call}
use Rattle.ticket_order.specs.Walks.{Task, ToChange, ToRead, ToRelease, Fits}
use Rattle.sim_rules.specs.declared.outcome.End.{End}
use Rattle.sim_rules.specs.declared.outcome.End.TheVariants as ends
use Rattle.sim_rules.specs.declared.outcome.Made.{Made}
use Rattle.sim_rules.specs.World.{Job, Idle, Walks, Keeps, Releasing, Stage, Begins, Asking, FirstSees}
use Rattle.sim_rules.specs.After.{asking_after, stage_after}
use Rattle.sim_rules.specs.Told.{told_of}

-- ---- steps, as they are told

abbrev pub stage_with : Stage → Option Made → Stage
stage_with stage None = stage
stage_with stage (Some m) = stage_after stage m

-- the stage that these steps lead to from that one
unfoldable pub stage_from : Stage → List StepMade → Stage
stage_from stage [] = stage
stage_from stage (step ∷ steps) = stage_from (stage_with stage (told_of step)) steps

abbrev pub asking_with : Asking → Option Made → Asking
asking_with asking None = asking
asking_with asking (Some m) = asking_after m

unfoldable pub asking_from : Asking → List StepMade → Asking
asking_from asking [] = asking
asking_from asking (step ∷ steps) = asking_from (asking_with asking (told_of step)) steps

-- how far the walk of a call is that has made these steps
abbrev pub stage_of : List StepMade → Stage
stage_of steps = stage_from Begins steps

-- how far the walk of a release is that has made these steps
abbrev pub asking_of : List StepMade → Asking
asking_of steps = asking_from FirstSees steps

-- ---- what a worker does

pub data Doing : Type 0 where
  Rests : Doing
  -- the walk of a change or of a read is under way
  Calls : Walk → Doing
  -- its reply is held
  Waits : Held → Doing
  -- the walk of the reply's release is under way
  Releases : Walk → Doing

abbrev pub is_resting : Doing → Bool
is_resting Rests = true
is_resting doing = false

abbrev pub is_waiting : Doing → Bool
is_waiting (Waits held) = true
is_waiting doing = false

-- its walk has a step to make
abbrev pub is_stepping : Doing → Bool
is_stepping (Calls walk) = true
is_stepping (Releases walk) = true
is_stepping doing = false

-- What a step of a change or of a read leaves: what the worker does, and the end that is told.
abbrev pub CallLeaves : Stepped → Doing → End → Type 0
CallLeaves (stepped.More walk) doing end = (doing ≡ Calls walk) × (end ≡ ends.Goes)
CallLeaves (stepped.Held held) doing end = (doing ≡ Waits held) × (end ≡ ends.Held held.position)
CallLeaves (stepped.Refused refusal) doing end = (doing ≡ Rests) × (end ≡ ends.Refused refusal)
CallLeaves s doing end = ⊥

abbrev pub AnswerLeaves : Released → Doing → End → Type 0
AnswerLeaves (answer.Reply position reply) doing end = (doing ≡ Rests) × (end ≡ ends.Replied position reply)
AnswerLeaves (answer.NotYet held) doing end = (doing ≡ Waits held) × (end ≡ ends.NotYet)
AnswerLeaves answer.Failed doing end = (doing ≡ Rests) × (end ≡ ends.Failed)

-- What a step of a release leaves.
abbrev pub ReleaseLeaves : Stepped → Doing → End → Type 0
ReleaseLeaves (stepped.More walk) doing end = (doing ≡ Releases walk) × (end ≡ ends.Goes)
ReleaseLeaves (stepped.Released released) doing end = AnswerLeaves released doing end
ReleaseLeaves s doing end = ⊥

-- ---- its job

-- what the walk of the call is for
abbrev pub task_of : Asked → Task
task_of (Changing c) = ToChange c
task_of (Reading r) = ToRead r

-- The walk of this call stands at the record p. It began with no stripe held, and the steps that the pass made since
-- then tell its stage.
pub record IsCalling (n : ℕ) (p : Record) (walk : Walk) (asked : Asked) (stage : Stage) : Type 0 where
  pub begun : Record
  pub free : begun.holding ≡ None
  pub fits : Fits n begun (task_of asked) walk p
  pub made : List StepMade
  pub steps : p.steps ≡ begun.steps ++ made
  pub stage_is : stage ≡ stage_of made

-- The pass has made this call, and its reply is held at that position.
pub record IsKeeping (p : Record) (held : Held) (asked : Asked) (position : ℕ) : Type 0 where
  pub free : p.holding ≡ None
  pub position_is : held.position ≡ position
  pub call_is : Contains p.calls (call position asked held.reply)

-- The walk of the release of such a reply stands at the record p, as far as the steps tell that the pass made since the
-- walk began.
pub record IsReleasing (n : ℕ) (p : Record) (walk : Walk) (asked : Asked) (position : ℕ)
    (asking : Asking) : Type 0 where
  pub begun : Record
  pub reply : Reply
  pub free : begun.holding ≡ None
  pub call_is : Contains begun.calls (call position asked reply)
  pub fits : Fits n begun (ToRelease position reply) walk p
  pub made : List StepMade
  pub steps : p.steps ≡ begun.steps ++ made
  pub asking_is : asking ≡ asking_of made

-- What the worker does, whose pass has the record p, is this job.
abbrev pub JobStands : ℕ → Record → Doing → Job → Type 0
JobStands n p Rests Idle = p.holding ≡ None
JobStands n p (Calls walk) (Walks asked stage) = IsCalling n p walk asked stage
JobStands n p (Waits held) (Keeps asked position) = IsKeeping p held asked position
JobStands n p (Releases walk) (Releasing asked position asking) = IsReleasing n p walk asked position asking
JobStands n p doing job = ⊥
