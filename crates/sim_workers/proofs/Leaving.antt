-- What the walk of a worker may do.
use Rattle.std.proofs.Common.{ℕ, ◌<◌, subst, inl, inr, refl}
use Rattle.map_types.specs.declared.commands.Reply.{Reply}
use Rattle.ticket_order.specs.declared.record.Asked.{Asked}
use Rattle.ticket_order.specs.declared.record.Asked.TheVariants.{Changing, Reading}
use Rattle.ticket_order.specs.declared.record.Record.{Record}
use Rattle.ticket_order.specs.declared.held.Released.{Released}
use Rattle.ticket_order.specs.declared.held.Released.TheVariants as answer
use Rattle.ticket_order.specs.declared.walk.Walk.{Walk}
use Rattle.ticket_order.specs.declared.walk.Stepped.{Stepped}
use Rattle.ticket_order.specs.declared.walk.Stepped.TheVariants as stepped
use Rattle.ticket_order.specs.Walks.{ToRelease, IsUnderWay, Next}
use Rattle.one_history.specs.declared.book.Book.{Book}
use Rattle.one_history.specs.Turns.{record_of}
use Rattle.sim_rules.specs.declared.outcome.End.{End}
use Rattle.sim_rules.specs.declared.outcome.End.TheVariants as ends
use Rattle.sim_rules.specs.World.{World, Job, Idle, Walks, Keeps, Releasing, job_of}
use Rattle.sim_workers.specs.Doings.{Doing, Rests, Calls, Waits, Releases, CallLeaves, JobStands, ReleaseLeaves, task_of}
use Rattle.sim_workers.specs.Workers.{Stand, StepsWalk}
use Rattle.sim_workers.specs.Laws.{CallsLeave, ReleasesLeave, WalksAreUnderWay}
use Rattle.sim_workers.proofs.WorkersInWorld.{in_life}

-- a worker's job in a world that stands
standing : (b : Book) (w : World) (doings : ℕ → Doing) (j : ℕ) → Stand b w doings → j < 64 → (job : Job) × JobStands b.stripes (record_of j b) (doings j) job
standing b w doings j stand worker = in_life b w doings (λ x. (job : Job) × JobStands b.stripes (record_of j b) (doings j) job) (λ files history l stands. (job_of l j, stands.each j worker)) stand

-- ---- under way

call_under_way : (n : ℕ) (p : Record) (walk : Walk) (job : Job) → JobStands n p (Calls walk) job → IsUnderWay n walk p
call_under_way n p walk Idle stands = absurd stands
call_under_way n p walk (Walks asked stage) stands = (stands.begun, task_of asked, stands.fits)
call_under_way n p walk (Keeps asked position) stands = absurd stands
call_under_way n p walk (Releasing asked position asking) stands = absurd stands

release_under_way : (n : ℕ) (p : Record) (walk : Walk) (job : Job) → JobStands n p (Releases walk) job → IsUnderWay n walk p
release_under_way n p walk Idle stands = absurd stands
release_under_way n p walk (Walks asked stage) stands = absurd stands
release_under_way n p walk (Keeps asked position) stands = absurd stands
release_under_way n p walk (Releasing asked position asking) stands = (stands.begun, ToRelease position stands.reply, stands.fits)

pub walks_are_under_way : WalksAreUnderWay
walks_are_under_way b w doings j walk stand worker either =
    let job : (job : Job) × JobStands b.stripes (record_of j b) (doings j) job = standing b w doings j stand worker in
    elim either [
      | inl is ↦ call_under_way b.stripes (record_of j b) walk job.0 (subst (λ d. JobStands b.stripes (record_of j b) d job.0) is job.1)
      | inr is ↦ release_under_way b.stripes (record_of j b) walk job.0 (subst (λ d. JobStands b.stripes (record_of j b) d job.0) is job.1)
    ]

-- ---- what is left

CallLeft : Stepped → Type 0
CallLeft s = (doing : Doing) × (end : End) × CallLeaves s doing end

ReleaseLeft : Stepped → Type 0
ReleaseLeft s = (doing : Doing) × (end : End) × ReleaseLeaves s doing end

call_left : (n : ℕ) (b : Record) (asked : Asked) (s : Stepped) (p : Record) → Next n b (task_of asked) s p → CallLeft s
unfolding CallLeft
call_left n b asked (stepped.More walk) p next = (Calls walk, ends.Goes, (refl, refl))
call_left n b (Changing c) (stepped.Held h) p next = (Waits h, ends.Held h.position, (refl, refl))
call_left n b (Reading r) (stepped.Held h) p next = (Waits h, ends.Held h.position, (refl, refl))
call_left n b asked (stepped.Refused e) p next = (Rests, ends.Refused e, (refl, refl))
call_left n b (Changing c) s p next = absurd next
call_left n b (Reading r) s p next = absurd next

answer_left : (z : Released) → ReleaseLeft (stepped.Released z)
unfolding ReleaseLeft
answer_left (answer.Reply position reply) = (Rests, ends.Replied position reply, (refl, refl))
answer_left (answer.NotYet h) = (Waits h, ends.NotYet, (refl, refl))
answer_left answer.Failed = (Rests, ends.Failed, (refl, refl))

release_left : (n : ℕ) (b : Record) (position : ℕ) (reply : Reply) (s : Stepped) (p : Record) → Next n b (ToRelease position reply) s p → ReleaseLeft s
unfolding ReleaseLeft
release_left n b position reply (stepped.More walk) p next = (Releases walk, ends.Goes, (refl, refl))
release_left n b position reply (stepped.Released z) p next = answer_left z
release_left n b position reply s p next = absurd next

call_job_left : (n : ℕ) (p : Record) (walk : Walk) (s : Stepped) (q : Record) (job : Job) → JobStands n p (Calls walk) job → StepsWalk n walk p s q → CallLeft s
call_job_left n p walk s q Idle stands steps = absurd stands
call_job_left n p walk s q (Walks asked stage) stands steps = call_left n stands.begun asked s q (steps stands.begun (task_of asked) stands.fits)
call_job_left n p walk s q (Keeps asked position) stands steps = absurd stands
call_job_left n p walk s q (Releasing asked position asking) stands steps = absurd stands

release_job_left : (n : ℕ) (p : Record) (walk : Walk) (s : Stepped) (q : Record) (job : Job) → JobStands n p (Releases walk) job → StepsWalk n walk p s q → ReleaseLeft s
release_job_left n p walk s q Idle stands steps = absurd stands
release_job_left n p walk s q (Walks asked stage) stands steps = absurd stands
release_job_left n p walk s q (Keeps asked position) stands steps = absurd stands
release_job_left n p walk s q (Releasing asked position asking) stands steps = release_left n stands.begun position stands.reply s q (steps stands.begun (ToRelease position stands.reply) stands.fits)

pub calls_leave : CallsLeave
unfolding CallLeft
calls_leave b w doings j walk s p stand worker is steps =
    let job : (job : Job) × JobStands b.stripes (record_of j b) (doings j) job = standing b w doings j stand worker in
    call_job_left b.stripes (record_of j b) walk s p job.0 (subst (λ d. JobStands b.stripes (record_of j b) d job.0) is job.1) steps

pub releases_leave : ReleasesLeave
unfolding ReleaseLeft
releases_leave b w doings j walk s p stand worker is steps =
    let job : (job : Job) × JobStands b.stripes (record_of j b) (doings j) job = standing b w doings j stand worker in
    release_job_left b.stripes (record_of j b) walk s p job.0 (subst (λ d. JobStands b.stripes (record_of j b) d job.0) is job.1) steps
