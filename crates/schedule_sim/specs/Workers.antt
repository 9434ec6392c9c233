-- What the workers of a life do, and what a step of a walk leaves to one of them.
use Rattle.std.specs.Prelude.{ℕ, List, slice_index_or}
use Rattle.ticket_order.specs.declared.held.Released.{Released}
use Rattle.ticket_order.specs.declared.held.Released.TheVariants as answer
use Rattle.ticket_order.specs.declared.walk.Stepped.{Stepped}
use Rattle.ticket_order.specs.declared.walk.Stepped.TheVariants as stepped
use Rattle.sim_rules.specs.declared.outcome.End.{End}
use Rattle.sim_rules.specs.declared.outcome.End.TheVariants as ends
use Rattle.sim_workers.specs.Doings.{Doing, Rests, Calls, Waits, Releases}
use Rattle.schedule_sim.specs.declared.job.Job.{Job}
use Rattle.schedule_sim.specs.declared.job.Job.TheVariants.{Idle, Calling, Waiting, Releasing}

abbrev pub doing_of : Job → Doing
doing_of Idle = Rests
doing_of (Calling walk) = Calls walk
doing_of (Waiting held) = Waits held
doing_of (Releasing walk) = Releases walk

abbrev pub job_of : ℕ → List Job → Job
job_of j jobs = slice_index_or jobs j Idle

-- what each worker does
abbrev pub doings_of : List Job → ℕ → Doing
doings_of jobs j = doing_of (job_of j jobs)

-- what a step of a change or a read leaves to the worker, and how it is told
abbrev pub called_of : Stepped → Job × End
called_of (stepped.More walk) = (Calling walk, ends.Goes)
called_of (stepped.Held held) = (Waiting held, ends.Held held.position)
called_of (stepped.Refused refusal) = (Idle, ends.Refused refusal)
called_of (stepped.Released z) = (Idle, ends.Goes)
called_of (stepped.Swept entries) = (Idle, ends.Goes)
called_of (stepped.Captured z) = (Idle, ends.Goes)

-- a change or a read may leave this
abbrev pub IsOfCall : Stepped → Type 0
IsOfCall (stepped.More walk) = Unit {0}
IsOfCall (stepped.Held held) = Unit {0}
IsOfCall (stepped.Refused refusal) = Unit {0}
IsOfCall (stepped.Released z) = ⊥
IsOfCall (stepped.Swept entries) = ⊥
IsOfCall (stepped.Captured z) = ⊥

-- what the answer of a release leaves to the worker, and how it is told
abbrev pub answered_of : Released → Job × End
answered_of (answer.Reply position reply) = (Idle, ends.Replied position reply)
answered_of (answer.NotYet held) = (Waiting held, ends.NotYet)
answered_of answer.Failed = (Idle, ends.Failed)

-- what a step of a release leaves to the worker, and how it is told
abbrev pub released_of : Stepped → Job × End
released_of (stepped.More walk) = (Releasing walk, ends.Goes)
released_of (stepped.Released z) = answered_of z
released_of (stepped.Held held) = (Idle, ends.Goes)
released_of (stepped.Refused refusal) = (Idle, ends.Goes)
released_of (stepped.Swept entries) = (Idle, ends.Goes)
released_of (stepped.Captured z) = (Idle, ends.Goes)

-- a release may leave this
abbrev pub IsOfRelease : Stepped → Type 0
IsOfRelease (stepped.More walk) = Unit {0}
IsOfRelease (stepped.Released z) = Unit {0}
IsOfRelease (stepped.Held held) = ⊥
IsOfRelease (stepped.Refused refusal) = ⊥
IsOfRelease (stepped.Swept entries) = ⊥
IsOfRelease (stepped.Captured z) = ⊥
