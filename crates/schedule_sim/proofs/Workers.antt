-- What a worker's event does: the laws of the workers and of the keeper, put together for a life.
use Rattle.std.proofs.Common.{◌≡◌, ◌≢◌, ℕ, ◌<◌, ◌&&◌, inl, inr, List, [], length, set, get_or, None, Some, Result, Ok, Err, IfOk, Bool, true, false, nat_lt, arith, refl, sym, ◌∙◌, ap, subst}
use Rattle.std.proofs.lemmas.Bool.{cases_lt, le-ltb}
use Rattle.std.proofs.lemmas.List.{length-set, get_or-set_same, get_or-set_other, set-set, set-get_or, get_or_default}
use Rattle.map_types.specs.declared.commands.Command.{Command}
use Rattle.map_types.specs.declared.commands.Read as read_type
use Rattle.map_types.specs.declared.refusals.Refusal.TheVariants.{KeyTooLong}
use Rattle.ticket_order.specs.declared.held.Held.{Held}
use Rattle.ticket_order.specs.declared.held.Released.TheVariants as answer
use Rattle.ticket_order.specs.declared.record.Asked.TheVariants.{Changing, Reading}
use Rattle.ticket_order.specs.declared.record.Opening.{Opening}
use Rattle.ticket_order.specs.declared.record.Record.{Record}
use Rattle.ticket_order.specs.declared.walk.Walk.{Walk}
use Rattle.ticket_order.specs.declared.walk.Stepped.{Stepped}
use Rattle.ticket_order.specs.declared.walk.Stepped.TheVariants as stepped
use Rattle.ticket_order.specs.Records.{IsWithin}
use Rattle.ticket_order.specs.Walks.{Fits, IsUnderWay, Kind, ToChange, ToRead, ToRelease}
use Rattle.one_history.specs.declared.book.Book.{Book}
use Rattle.one_history.specs.OneHistory.{HoldApart, IsOneHistory}
use Rattle.one_history.specs.Turns.{record_of}
use Rattle.flusher.specs.declared.keeper.Keeper.{Keeper}
use Rattle.store_layout.specs.Opening.{Opened}
use Rattle.sim_rules.specs.declared.event.Event.{Event}
use Rattle.sim_rules.specs.declared.event.Event.TheVariants as event
use Rattle.sim_rules.specs.declared.outcome.End.{End}
use Rattle.sim_rules.specs.declared.outcome.Made.{Made}
use Rattle.sim_rules.specs.declared.outcome.Outcome.{Outcome}
use Rattle.sim_rules.specs.declared.outcome.Outcome.TheVariants as outcome
use Rattle.sim_rules.specs.World as world
use Rattle.sim_rules.specs.After.{after, after_inside, after_with, job_releasing}
use Rattle.sim_workers.specs.Doings as doings
use Rattle.sim_workers.specs.Laws.{KeepsStanding, ChangeFits, ReadFits, StepFits, ReleaseFits, ChangeBegins, ChangeTurnedDown, ReadBegins, ReleaseBegins, CallSteps, CallsLeave, ReleaseSteps, ReleasesLeave, WalksAreUnderWay}
use Rattle.sim_workers.specs.Workers as states
use Rattle.sim_keeper.specs.Laws.{WorkersLeaveKeeper}
use Rattle.sim_keeper.specs.KeeperInWorld.{HasKeeper}
use Rattle.schedule_sim.specs.declared.traced.Traced.{Traced}
use Rattle.schedule_sim.specs.declared.job.Job.{Job}
use Rattle.schedule_sim.specs.declared.job.Job.TheVariants.{Idle, Calling, Waiting, Releasing}
use Rattle.schedule_sim.specs.declared.life.Life.{Life}
use Rattle.schedule_sim.specs.Living.{Did, IsLife, IsLifeOf, is_of_life}
use Rattle.schedule_sim.specs.Tracing.{traced_states}
use Rattle.schedule_sim.specs.Watching.{MakesStep}
use Rattle.schedule_sim.specs.Workers.{IsOfCall, IsOfRelease, called_of, doing_of, doings_of, job_of, released_of}
use Rattle.schedule_sim.proofs.Doing.{IsNoSkip, did_skip, goes_on}
use Rattle.schedule_sim.proofs.LivesParts.{life_there}

-- ---- the jobs

now_doing : (jobs : List Job) (j : ℕ) (job : Job) → length jobs ≡ 64 → j < 64 → states.IsNowDoing j (doing_of job) (doings_of jobs) (doings_of (set jobs j job))
now_doing jobs j job count lt = record {
  here = ap doing_of (get_or-set_same jobs j job Idle (omega (arith, count, lt)));
  there = λ i other. ap doing_of (get_or-set_other jobs j i job Idle other);
}

pub job_there : (jobs : List Job) (j : ℕ) (x y : Job) → length jobs ≡ 64 → j < 64 → x ≡ y → y ≡ get_or jobs j y → job_of j jobs ≡ x
job_there jobs j x y count lt is there = get_or_default jobs j Idle y (omega (arith, count, lt)) ∙ sym there ∙ sym is

-- a job that was taken out is put back
pub put_back : (w : world.World) (keeper : Keeper Traced) (b : Book) (jobs : List Job) (j : ℕ) (x job d : Job) → IsLifeOf w keeper b jobs → job ≡ get_or jobs j d → IsLifeOf w keeper b (set (set jobs j x) j job)
put_back w keeper b jobs j x job d a is = rw (set-set, is, set-get_or) a

-- ---- events that don't fit

unfit_with : (a b : Bool) → b ≡ false → (a && b) ≡ false
unfit_with true b never = never
unfit_with false b never = refl

no_worker : (a b : Bool) → a ≡ false → (a && b) ≡ false
no_worker true b never = absurd (let e : true ≡ false = never in cc)
no_worker false b never = refl

unfit : (j : ℕ) (b : Bool) → (j < 64 → b ≡ false) → (nat_lt j 64 && b) ≡ false
unfit j b never = elim (cases_lt j 64) [
  | inl lt ↦ unfit_with (nat_lt j 64) b (never lt)
  | inr ge ↦ no_worker (nat_lt j 64) b (le-ltb j 64 ge)
]

is_busy : (job : Job) → job ≢ Idle → doings.is_resting (doing_of job) ≡ false
is_busy Idle never = absurd (never refl)
is_busy (Calling walk) never = refl
is_busy (Waiting held) never = refl
is_busy (Releasing walk) never = refl

holds_none : (job : Job) → ((held : Held) → job ≡ Waiting held → ⊥) → doings.is_waiting (doing_of job) ≡ false
holds_none (Waiting held) never = absurd (never held refl)
holds_none Idle never = refl
holds_none (Calling walk) never = refl
holds_none (Releasing walk) never = refl

walks_none : (job : Job) → ((walk : Walk) → job ≡ Calling walk → ⊥) → ((walk : Walk) → job ≡ Releasing walk → ⊥) → doings.is_stepping (doing_of job) ≡ false
walks_none (Calling walk) never none_else = absurd (never walk refl)
walks_none (Releasing walk) never none_else = absurd (none_else walk refl)
walks_none Idle never none_else = refl
walks_none (Waiting held) never none_else = refl

pub change_skipped : ChangeFits → (w : world.World) (j : ℕ) (c : Command) (life : Life) → IsLife w life → (j < 64 → job_of j life.jobs.items ≢ Idle) → Did w (event.Change j c) outcome.Skipped life
change_skipped fits w j c life a busy =
    did_skip w (event.Change j c) life
    (fits life.words w (doings_of life.jobs.items) j c a.workers_stand ∙ unfit j (doings.is_resting (doings_of life.jobs.items j)) (λ lt. is_busy (job_of j life.jobs.items) (busy lt))) a

pub read_skipped : ReadFits → (w : world.World) (j : ℕ) (r : read_type.Read) (life : Life) → IsLife w life → (j < 64 → job_of j life.jobs.items ≢ Idle) → Did w (event.Read j r) outcome.Skipped life
read_skipped fits w j r life a busy =
    did_skip w (event.Read j r) life
    (fits life.words w (doings_of life.jobs.items) j r a.workers_stand ∙ unfit j (doings.is_resting (doings_of life.jobs.items j)) (λ lt. is_busy (job_of j life.jobs.items) (busy lt))) a

-- where the worker holds no reply
pub release_skipped : ReleaseFits → (w : world.World) (j : ℕ) (keeper : Keeper Traced) (b : Book) (jobs : List Job) (life : Life) → IsLifeOf w keeper b jobs
    → (j < 64 → (held : Held) → job_of j jobs ≡ Waiting held → ⊥) → IsLife w life → Did w (event.Release j) outcome.Skipped life
release_skipped fits w j keeper b jobs life a none same =
    did_skip w (event.Release j) life
    (fits b w (doings_of jobs) j a.workers_stand ∙ unfit j (doings.is_waiting (doings_of jobs j)) (λ lt. holds_none (job_of j jobs) (none lt))) same

-- where none of its walks is under way
pub step_skipped : StepFits → (w : world.World) (j : ℕ) (keeper : Keeper Traced) (b : Book) (jobs : List Job) (life : Life) → IsLifeOf w keeper b jobs
    → (j < 64 → (walk : Walk) → job_of j jobs ≡ Calling walk → ⊥) → (j < 64 → (walk : Walk) → job_of j jobs ≡ Releasing walk → ⊥) → IsLife w life → Did w (event.Step j) outcome.Skipped life
step_skipped fits w j keeper b jobs life a none none' same =
    did_skip w (event.Step j) life
    (fits b w (doings_of jobs) j a.workers_stand ∙ unfit j (doings.is_stepping (doings_of jobs j)) (λ lt. walks_none (job_of j jobs) (none lt) (none' lt))) same

-- ---- events that fit

-- what no opening found
abbrev none_found : Opened
none_found = record { checkpoint = record { generation = 0; low = 0; stripes = 0; sections = [] }; first = []; second = None }

has_keeper : (w : world.World) (l : world.Life) (found : Opened) (e : Event) (x : Outcome) (keeper : Keeper Traced) (p : Record) → w.life ≡ Some l → IsNoSkip x → HasKeeper traced_states keeper p (after_inside w l e x)
    → HasKeeper traced_states keeper p (after w found e x)
has_keeper w l found e x keeper p is other stands =
    subst (λ v. HasKeeper traced_states keeper p v) (sym (goes_on w found e x other ∙ ap (λ o. after_with w o found e x) is)) stands

life_after : (w v : world.World) (keeper : Keeper Traced) (b b' : Book) (jobs jobs' : List Job) → IsLifeOf w keeper b jobs → b'.stripes ≡ b.stripes → record_of 64 b' ≡ record_of 64 b → length jobs' ≡ 64
    → states.Stand b' v (doings_of jobs') → HasKeeper traced_states keeper (record_of 64 b) v → IsLifeOf v keeper b' jobs'
life_after w v keeper b b' jobs jobs' a stripes same count workers stands = record {
  done = a.done;
  fits = rw (stripes, same) a.fits;
  count = count;
  workers_stand = workers;
  keeper_stands = rw same stands;
}

-- What a worker does leaves the keeper and its pass as they were.
did_worker : (w : world.World) (l : world.Life) (e : Event) (x : Outcome) (keeper : Keeper Traced) (b b' : Book) (jobs jobs' : List Job) (life : Life) → w.life ≡ Some l → IsNoSkip x → IsLifeOf w keeper b jobs
    → b'.stripes ≡ b.stripes → record_of 64 b' ≡ record_of 64 b → length jobs' ≡ 64 → ((found : Opened) → KeepsStanding w found e x b' (doings_of jobs')) → HasKeeper traced_states keeper (record_of 64 b) (after_inside w l e x)
    → life.keeper ≡ keeper → life.words ≡ b' → life.jobs.items ≡ jobs' → Did w e x life
did_worker w l e x keeper b b' jobs jobs' life is other a stripes same count keeps stands same_keeper same_words same_jobs = record {
  meets = λ found. (keeps found).meets;
  answers = (keeps none_found).answers;
  stands = λ found.
      rw (same_keeper, same_words, same_jobs)
      (life_after w (after w found e x) keeper b b' jobs jobs' a stripes same count (keeps found).stand (has_keeper w l found e x keeper (record_of 64 b) is other stands));
}

-- ---- a walk begins

pub change_did : ChangeBegins → WorkersLeaveKeeper traced_states → (w : world.World) (keeper : Keeper Traced) (b : Book) (jobs : List Job) (j : ℕ) (c : Command) (walk : Walk) (life : Life) → IsLifeOf w keeper b jobs
    → (j < 64) × (job_of j jobs ≡ Idle) → IsWithin b.opening.key_limit c → ((n : ℕ) (p : Record) → p.holding ≡ None → IsWithin p.opening.key_limit c → Fits n p (ToChange c) walk p)
    → life.keeper ≡ keeper → life.words ≡ b → life.jobs.items ≡ set jobs j (Calling walk)
    → Did w (event.Change j c) outcome.Started life
change_did begins leaves w keeper b jobs j c walk life a idle within fits same_keeper same_words same_jobs =
    let there = life_there w keeper b jobs a in
    did_worker w there.0 (event.Change j c) outcome.Started keeper b b jobs (set jobs j (Calling walk)) life there.1.life tt a refl refl (length-set jobs j (Calling walk) ∙ a.count)
    (λ found. begins b w found (doings_of jobs) (doings_of (set jobs j (Calling walk))) j c walk a.workers_stand idle.0 (ap doing_of idle.1) within fits (now_doing jobs j (Calling walk) a.count idle.0))
    (leaves keeper (record_of 64 b) w there.0 j (world.Walks (Changing c) world.Begins) there.1.keeper_stands).0 same_keeper same_words same_jobs

-- a change whose key is too long begins no walk
pub change_refused : ChangeTurnedDown → (w : world.World) (j : ℕ) (c : Command) (life : Life) → IsLife w life → (j < 64) × (job_of j life.jobs.items ≡ Idle) → life.words.opening.key_limit < length c.key
    → Did w (event.Change j c) (outcome.Refused KeyTooLong) life
change_refused law w j c life a idle longer =
    let turned = λ (found : Opened). law life.words w found (doings_of life.jobs.items) j c a.workers_stand idle.0 (ap doing_of idle.1) longer in
    record {
      meets = λ found. (turned found).0.meets;
      answers = (turned none_found).0.answers;
      stands = λ found. subst (λ v. IsLife v life) (sym (turned found).1) a;
    }

pub read_did : ReadBegins → WorkersLeaveKeeper traced_states → (w : world.World) (keeper : Keeper Traced) (b : Book) (jobs : List Job) (j : ℕ) (r : read_type.Read) (walk : Walk) (life : Life) → IsLifeOf w keeper b jobs
    → (j < 64) × (job_of j jobs ≡ Idle) → ((n : ℕ) (p : Record) → p.holding ≡ None → Fits n p (ToRead r) walk p) → life.keeper ≡ keeper → life.words ≡ b → life.jobs.items ≡ set jobs j (Calling walk)
    → Did w (event.Read j r) outcome.Started life
read_did begins leaves w keeper b jobs j r walk life a idle fits same_keeper same_words same_jobs =
    let there = life_there w keeper b jobs a in
    did_worker w there.0 (event.Read j r) outcome.Started keeper b b jobs (set jobs j (Calling walk)) life there.1.life tt a refl refl (length-set jobs j (Calling walk) ∙ a.count)
    (λ found. begins b w found (doings_of jobs) (doings_of (set jobs j (Calling walk))) j r walk a.workers_stand idle.0 (ap doing_of idle.1) fits (now_doing jobs j (Calling walk) a.count idle.0))
    (leaves keeper (record_of 64 b) w there.0 j (world.Walks (Reading r) world.Begins) there.1.keeper_stands).0 same_keeper same_words same_jobs

pub release_did : ReleaseBegins → WorkersLeaveKeeper traced_states → (w : world.World) (keeper : Keeper Traced) (b : Book) (jobs : List Job) (j : ℕ) (held : Held) (walk : Walk) (life : Life) → IsLifeOf w keeper b jobs
    → j < 64 → job_of j jobs ≡ Waiting held → ((n : ℕ) (p : Record) → Fits n p (ToRelease held.position held.reply) walk p) → life.keeper ≡ keeper → life.words ≡ b → life.jobs.items ≡ set jobs j (Releasing walk)
    → Did w (event.Release j) outcome.Started life
release_did begins leaves w keeper b jobs j held walk life a lt waits fits same_keeper same_words same_jobs =
    let there = life_there w keeper b jobs a in
    did_worker w there.0 (event.Release j) outcome.Started keeper b b jobs (set jobs j (Releasing walk)) life there.1.life tt a refl refl (length-set jobs j (Releasing walk) ∙ a.count)
    (λ found. begins b w found (doings_of jobs) (doings_of (set jobs j (Releasing walk))) j held walk a.workers_stand lt (ap doing_of waits) fits (now_doing jobs j (Releasing walk) a.count lt))
    (leaves keeper (record_of 64 b) w there.0 j (job_releasing (world.job_of there.0 j)) there.1.keeper_stands).0 same_keeper same_words same_jobs

-- ---- a walk makes its next step

makes_one : (j : ℕ) (kind : Kind) (b b' : Book) (m : Made) → MakesStep j kind b b' m → IsOneHistory b' → HoldApart b' → states.MakesStep j b b' m
makes_one j kind b b' m s one apart = record {
  step = s.step;
  steps = s.steps;
  moved = s.moved;
  told = s.told_is;
  one = one;
  apart = apart;
}

-- the worker's pass is there, and the walk has a step to make
pub pass_there : (w : world.World) (keeper : Keeper Traced) (b : Book) (jobs : List Job) (j : ℕ) → IsLifeOf w keeper b jobs → j < 64 → j < length b.passes
pass_there w keeper b jobs j a lt = let e = (life_there w keeper b jobs a).1.workers_stand.passes in omega (arith, e, lt)

-- and has the limit of the book
pub limit_there : (w : world.World) (keeper : Keeper Traced) (b : Book) (jobs : List Job) (j : ℕ) → IsLifeOf w keeper b jobs → j < 64 → (record_of j b).opening.key_limit ≡ b.opening.key_limit
limit_there w keeper b jobs j a lt =
    let one = (life_there w keeper b jobs a).1.workers_stand.words.one in
    ap (λ (o : Opening). o.key_limit) (one.passes j (pass_there w keeper b jobs j a lt)).opening

pub call_under_way : WalksAreUnderWay → (w : world.World) (keeper : Keeper Traced) (b : Book) (jobs : List Job) (j : ℕ) (walk : Walk) → IsLifeOf w keeper b jobs → j < 64 → job_of j jobs ≡ Calling walk
    → IsUnderWay b.stripes walk (record_of j b)
call_under_way law w keeper b jobs j walk a lt calls = law b w (doings_of jobs) j walk a.workers_stand lt (inl (ap doing_of calls))

pub release_under_way : WalksAreUnderWay → (w : world.World) (keeper : Keeper Traced) (b : Book) (jobs : List Job) (j : ℕ) (walk : Walk) → IsLifeOf w keeper b jobs → j < 64 → job_of j jobs ≡ Releasing walk
    → IsUnderWay b.stripes walk (record_of j b)
release_under_way law w keeper b jobs j walk a lt releases = law b w (doings_of jobs) j walk a.workers_stand lt (inr (ap doing_of releases))

is_of_call : (s : Stepped) (doing : doings.Doing) (end : End) → doings.CallLeaves s doing end → IsOfCall s
is_of_call (stepped.More walk) doing end leaves = tt
is_of_call (stepped.Held held) doing end leaves = tt
is_of_call (stepped.Refused refusal) doing end leaves = tt
is_of_call (stepped.Released z) doing end leaves = leaves
is_of_call (stepped.Swept entries) doing end leaves = leaves
is_of_call (stepped.Captured z) doing end leaves = leaves

called_leaves : (s : Stepped) → IsOfCall s → doings.CallLeaves s (doing_of (called_of s).0) (called_of s).1
called_leaves (stepped.More walk) is = (refl, refl)
called_leaves (stepped.Held held) is = (refl, refl)
called_leaves (stepped.Refused refusal) is = (refl, refl)
called_leaves (stepped.Released z) is = is
called_leaves (stepped.Swept entries) is = is
called_leaves (stepped.Captured z) is = is

is_of_release : (s : Stepped) (doing : doings.Doing) (end : End) → doings.ReleaseLeaves s doing end → IsOfRelease s
is_of_release (stepped.More walk) doing end leaves = tt
is_of_release (stepped.Released z) doing end leaves = tt
is_of_release (stepped.Held held) doing end leaves = leaves
is_of_release (stepped.Refused refusal) doing end leaves = leaves
is_of_release (stepped.Swept entries) doing end leaves = leaves
is_of_release (stepped.Captured z) doing end leaves = leaves

released_leaves : (s : Stepped) → IsOfRelease s → doings.ReleaseLeaves s (doing_of (released_of s).0) (released_of s).1
released_leaves (stepped.More walk) is = (refl, refl)
released_leaves (stepped.Released (answer.Reply position reply)) is = (refl, refl)
released_leaves (stepped.Released (answer.NotYet held)) is = (refl, refl)
released_leaves (stepped.Released answer.Failed) is = (refl, refl)
released_leaves (stepped.Held held) is = is
released_leaves (stepped.Refused refusal) is = is
released_leaves (stepped.Swept entries) is = is
released_leaves (stepped.Captured z) is = is

pub call_leaves : CallsLeave → (w : world.World) (keeper : Keeper Traced) (b : Book) (jobs : List Job) (j : ℕ) (walk : Walk) (s : Stepped) (p : Record) → IsLifeOf w keeper b jobs → j < 64 → job_of j jobs ≡ Calling walk
    → states.StepsWalk b.stripes walk (record_of j b) s p → IsOfCall s
call_leaves law w keeper b jobs j walk s p a lt calls next =
    let left = law b w (doings_of jobs) j walk s p a.workers_stand lt (ap doing_of calls) next in is_of_call s left.0 left.1 left.2

pub release_leaves : ReleasesLeave → (w : world.World) (keeper : Keeper Traced) (b : Book) (jobs : List Job) (j : ℕ) (walk : Walk) (s : Stepped) (p : Record) → IsLifeOf w keeper b jobs → j < 64
    → job_of j jobs ≡ Releasing walk → states.StepsWalk b.stripes walk (record_of j b) s p → IsOfRelease s
release_leaves law w keeper b jobs j walk s p a lt releases next =
    let left = law b w (doings_of jobs) j walk s p a.workers_stand lt (ap doing_of releases) next in is_of_release s left.0 left.1 left.2

pub call_did : CallSteps → WorkersLeaveKeeper traced_states → (w : world.World) (keeper : Keeper Traced) (b b' : Book) (jobs : List Job) (j : ℕ) (kind : Kind) (m : Made) (walk : Walk) (s : Stepped) (life : Life) → IsLifeOf w keeper b jobs
    → j < 64 → job_of j jobs ≡ Calling walk → MakesStep j kind b b' m → IsOneHistory b' → HoldApart b' → states.StepsWalk b.stripes walk (record_of j b) s (record_of j b') → IsOfCall s → life.keeper ≡ keeper → life.words ≡ b'
    → life.jobs.items ≡ set jobs j (called_of s).0 → Did w (event.Step j) (outcome.Stepped m (called_of s).1) life
call_did steps leaves w keeper b b' jobs j kind m walk s life a lt calls made one apart next of_call same_keeper same_words same_jobs =
    let there = life_there w keeper b jobs a in
    did_worker w there.0 (event.Step j) (outcome.Stepped m (called_of s).1) keeper b b' jobs (set jobs j (called_of s).0) life there.1.life tt a made.moved.stripes (made.moved.others 64 (omega (arith, lt)))
    (length-set jobs j (called_of s).0 ∙ a.count)
    (λ found.
    steps b b' w found (doings_of jobs) (doings_of (set jobs j (called_of s).0)) j walk s m (doing_of (called_of s).0) (called_of s).1 a.workers_stand lt (ap doing_of calls) (makes_one j kind b b' m made one apart) next
    (called_leaves s of_call) (now_doing jobs j (called_of s).0 a.count lt))
    ((leaves keeper (record_of 64 b) w there.0 j (world.job_of there.0 j) there.1.keeper_stands).1 m (called_of s).1) same_keeper same_words same_jobs

pub freeing_did : ReleaseSteps → WorkersLeaveKeeper traced_states → (w : world.World) (keeper : Keeper Traced) (b b' : Book) (jobs : List Job) (j : ℕ) (kind : Kind) (m : Made) (walk : Walk) (s : Stepped) (life : Life)
    → IsLifeOf w keeper b jobs → j < 64 → job_of j jobs ≡ Releasing walk → MakesStep j kind b b' m → IsOneHistory b' → HoldApart b' → states.StepsWalk b.stripes walk (record_of j b) s (record_of j b') → IsOfRelease s
    → life.keeper ≡ keeper → life.words ≡ b' → life.jobs.items ≡ set jobs j (released_of s).0 → Did w (event.Step j) (outcome.Stepped m (released_of s).1) life
freeing_did steps leaves w keeper b b' jobs j kind m walk s life a lt releases made one apart next of_release same_keeper same_words same_jobs =
    let there = life_there w keeper b jobs a in
    did_worker w there.0 (event.Step j) (outcome.Stepped m (released_of s).1) keeper b b' jobs (set jobs j (released_of s).0) life there.1.life tt a made.moved.stripes (made.moved.others 64 (omega (arith, lt)))
    (length-set jobs j (released_of s).0 ∙ a.count)
    (λ found.
    steps b b' w found (doings_of jobs) (doings_of (set jobs j (released_of s).0)) j walk s m (doing_of (released_of s).0) (released_of s).1 a.workers_stand lt (ap doing_of releases)
    (makes_one j kind b b' m made one apart) next (released_leaves s of_release) (now_doing jobs j (released_of s).0 a.count lt))
    ((leaves keeper (record_of 64 b) w there.0 j (world.job_of there.0 j) there.1.keeper_stands).1 m (released_of s).1) same_keeper same_words same_jobs

-- ---- any event of a life

pub told_of_life : {E : Type 0} (r : Result Outcome E) (e e' : Event) (old new : Life) → e ≡ e' → IfOk r (λ x. (w : world.World) → IsLife w old → Did w e' x new)
    → IfOk r (λ x. (w : world.World) → IsLife w old → is_of_life e ≡ true → Did w e x new)
told_of_life (Ok x) e e' old new is does = λ w a of_life. rw is (does w a)
told_of_life (Err z) e e' old new is does = tt
