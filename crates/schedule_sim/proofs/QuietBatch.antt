-- A batch is staged, or is refused, and the workers stand as they stood.
use Rattle.std.proofs.Common.{◌≡◌, ℕ, ◌||◌, ◌==◌, Bool, true, false, List, None, Some, is_some, Result, Ok, Err, refl, sym, ◌∙◌, ap, subst, arith}
use Rattle.std.specs.List.{Contains}
use Rattle.map_types.specs.declared.commands.Command.{Command}
use Rattle.map_types.specs.declared.refusals.Refusal.{Refusal}
use Rattle.one_history.specs.declared.book.Book.{Book}
use Rattle.one_history.specs.OneHistory.{HasDone}
use Rattle.one_history.specs.Turns.{record_of}
use Rattle.flusher.specs.declared.keeper.Keeper.{Keeper}
use Rattle.flusher.specs.Fitting.{Fits}
use Rattle.flusher.specs.KeeperSteps.{is_walking}
use Rattle.checkpoint_walk.specs.Walking.{FitsWalking}
use Rattle.sim_rules.specs.declared.event.Event.TheVariants as event
use Rattle.sim_rules.specs.declared.outcome.Outcome.TheVariants as outcome
use Rattle.sim_rules.specs.World.{World, Life, rests}
use Rattle.sim_rules.specs.After.{staged_by, with_life}
use Rattle.sim_workers.specs.Laws.{KeeperRests}
use Rattle.sim_workers.specs.WordsInWorld.{IsOfLife, IsTaken}
use Rattle.sim_workers.specs.Workers.{ConcernsNone, WorkersStand}
use Rattle.sim_keeper.specs.Laws.{StageAnswers, WalkIsTold, staged_as}
use Rattle.sim_keeper.specs.Promises.{TriesStage}
use Rattle.sim_keeper.specs.KeeperInWorld.{Answers, TellsPlaces}
use Rattle.sim_workers.specs.Doings.{Doing}
use Rattle.schedule_sim.specs.declared.traced.Traced.{Traced}
use Rattle.schedule_sim.specs.declared.job.Job.{Job}
use Rattle.schedule_sim.specs.declared.life.Life as sim
use Rattle.schedule_sim.specs.Tracing.{traced_states, traced_honest}
use Rattle.schedule_sim.specs.Living.{Did, IsLife, IsLifeOf}
use Rattle.schedule_sim.specs.Workers.{doings_of}
use Rattle.schedule_sim.proofs.LivesParts.{fits_now, life_there}
use Rattle.schedule_sim.proofs.Doing.{did}
use Rattle.schedule_sim.proofs.Quiet.{fits_between, goes_quietly, none_held, rests_told, stays}

-- ---- the places of the tickets

-- what sweeps took is what the keeper's record says
pub taken_told : (b : Book) (w : World) (l : Life) (doings : ℕ → Doing) → WorkersStand b w l doings → (record_of 64 b).taken ≡ b.effects.taken
taken_told b w l doings k =
    let knows = k.words.one.passes 64 (omega (arith, k.passes)) in
    let by_keeper : (record_of 64 b).keeper ≡ true = knows.keeper ∙ ap (λ j. 64 == j) k.keeper in
    (subst (λ v. HasDone b.opening b.effects (record_of 64 b) v) by_keeper knows.done).0

pub tells_places : (b : Book) (w : World) (l : Life) (doings : ℕ → Doing) → WorkersStand b w l doings → TellsPlaces (record_of 64 b) l
tells_places b w l doings k =
    let same : (record_of 64 b).taken ≡ b.effects.taken = taken_told b w l doings k in
    record {
      taken = λ e has.
          let was : IsTaken b e.ticket = (e, subst (λ es. Contains es e) same has, refl) in
          (k.places.in_hand e.ticket (k.places.taken e.ticket was)).1 was;
      in_hand = λ t from below is.
          let ours : IsOfLife b t = (omega (arith, from, k.words.first), omega (arith, below, k.words.first, k.places.count)) in
          let was = (k.places.in_hand t ours).0 is in
          (was.0, subst (λ es. Contains es was.0) (sym same) was.1, was.2);
    }

-- ---- the life

stages_quietly : (w : World) (l : Life) (n : ℕ) → rests l.walk ≡ true
    → ConcernsNone w (with_life w (record l { log = staged_by n l.log })) l (record l { log = staged_by n l.log })
stages_quietly w l n resting = record {
  history = refl;
  stripes = refl;
  first = refl;
  key_limit = refl;
  jobs = refl;
  seen = refl;
  places = refl;
  durable = refl;
  has_failed = refl;
  held = λ i. none_held l (record l { log = staged_by n l.log }) l.walk i resting;
}

staged_life : (w : World) (l : Life) (most : ℕ) (keeper new : Keeper Traced) (b : Book) (jobs : List Job) (result : Result ℕ Refusal)
    → KeeperRests → (a : IsLifeOf w keeper b jobs)
    → WorkersStand b w l (doings_of jobs) → rests l.walk ≡ true → FitsWalking traced_states traced_honest b.stripes a.done new (record_of 64 b)
    → Answers traced_states new (record_of 64 b) w l (event.Stage most) (staged_as result) → w.life ≡ Some l → (life : sim.Life)
    → life.keeper ≡ new → life.words ≡ b → life.jobs.items ≡ jobs
    → Did w (event.Stage most) (staged_as result) life
staged_life w l most keeper new b jobs (Ok n) leaves a workers resting fits k is life e1 e2 e3 =
    did w l (event.Stage most) (outcome.Staged n) life is tt resting k.happens tt
    (rw (e1, e2, e3) (goes_quietly w l (record l { log = staged_by n l.log }) keeper new b jobs leaves a workers
    (stages_quietly w l n resting) fits k.stands))
staged_life w l most keeper new b jobs (Err e) leaves a workers resting fits k is life e1 e2 e3 =
    did w l (event.Stage most) (outcome.Refused e) life is tt resting k.happens tt
    (rw (e1, e2, e3) (stays w keeper new b jobs a fits k.stands))

pub stages : (w : World) (most : ℕ) (life new : sim.Life) (answer : Bool) (result shown : Result ℕ Refusal) → result ≡ shown
    → WalkIsTold traced_states → StageAnswers traced_states traced_honest → KeeperRests
    → answer ≡ (is_walking life.keeper.sweeper.walking || is_some life.keeper.capture) → answer ≡ false → life.keeper.capture ≡ None
    → TriesStage most life.keeper new.keeper result
    → ((n : ℕ) (done : List Command) → Fits traced_states traced_honest n done life.keeper (record_of 64 life.words)
    → Fits traced_states traced_honest n done new.keeper (record_of 64 life.words))
    → new.words ≡ life.words → new.jobs.items ≡ life.jobs.items → IsLife w life → Did w (event.Stage most) (staged_as shown) new
stages w most life new answer result shown shows told law leaves is rested none tries refits words jobs a =
    let there = life_there w life.keeper life.words life.jobs.items a in
    let l : Life = there.0 in
    let fit = fits_now w life.keeper life.words life.jobs.items a none in
    let none' : new.keeper.capture ≡ None = ap (λ k. k.capture) tries.same ∙ none in
    let resting : rests l.walk ≡ true = rests_told l life.keeper answer false (told life.keeper
    (record_of 64 life.words) w l there.1.keeper_stands) is rested in
    let places : TellsPlaces (record_of 64 life.words) l = tells_places life.words w l (doings_of life.jobs.items) there.1.workers_stand in
    subst (λ r. Did w (event.Stage most) (staged_as r) new) shows
    (staged_life w l most life.keeper new.keeper life.words life.jobs.items result leaves a there.1.workers_stand resting
    (fits_between life.words.stripes a.done new.keeper life.words none' (refits life.words.stripes a.done fit))
    (law life.words.stripes a.done most life.keeper new.keeper (record_of 64 life.words) w l result fit there.1.keeper_stands places resting tries)
    there.1.life new refl words jobs)
