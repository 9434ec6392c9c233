-- What the keeper does without a step on the words leaves the workers as they stood.
use Rattle.std.proofs.Common.{◌≡◌, ℕ, ◌||◌, not, Bool, true, false, List, None, Some, is_some, Result, Ok, Err, refl, sym, ◌∙◌, ap, subst}
use Rattle.map_types.specs.declared.commands.Command.{Command}
use Rattle.map_types.specs.declared.refusals.Refusal.{Refusal}
use Rattle.one_history.specs.declared.book.Book.{Book}
use Rattle.one_history.specs.Turns.{record_of}
use Rattle.flusher.specs.declared.keeper.Keeper.{Keeper}
use Rattle.flusher.specs.Fitting.{Fits}
use Rattle.flusher.specs.KeeperSteps.{is_walking}
use Rattle.checkpoint_walk.specs.Walking.{FitsBy, FitsWalking}
use Rattle.sim_rules.specs.declared.event.Event.{Event}
use Rattle.sim_rules.specs.declared.event.Event.TheVariants as event
use Rattle.sim_rules.specs.declared.outcome.Outcome.TheVariants as outcome
use Rattle.sim_rules.specs.World.{World, Life, KeeperWalk, Rests, SweepTakes, SweepGives, CaptureLooks, CaptureGives, keeper_holds, rests}
use Rattle.sim_rules.specs.After.{checkpoint_begun, seal_begun, with_life}
use Rattle.sim_rules.specs.Fitting.{fits, fits_inside, fits_with}
use Rattle.sim_workers.specs.Laws.{KeeperRests}
use Rattle.sim_workers.specs.Workers.{ConcernsNone, WorkersStand}
use Rattle.sim_keeper.specs.Laws.{BeginAnswers, SealAnswers, WalkIsTold, begun_as, sealing_as}
use Rattle.sim_keeper.specs.Promises.{TriesBegin, TriesSeal}
use Rattle.sim_keeper.specs.KeeperInWorld.{Answers, HasKeeper}
use Rattle.schedule_sim.specs.declared.traced.Traced.{Traced}
use Rattle.schedule_sim.specs.declared.job.Job.{Job}
use Rattle.schedule_sim.specs.declared.life.Life as sim
use Rattle.schedule_sim.specs.Tracing.{traced_states, traced_honest}
use Rattle.schedule_sim.specs.Living.{Did, IsLife, IsLifeOf}
use Rattle.schedule_sim.specs.Workers.{doings_of}
use Rattle.schedule_sim.proofs.LivesParts.{fits_now, life_there}
use Rattle.schedule_sim.proofs.Doing.{did, did_skip}

-- ---- whether the keeper walks

-- the world says of the keeper's walk what the keeper says
pub rests_told : (l : Life) (keeper : Keeper Traced) (answer said : Bool)
    → rests l.walk ≡ not (is_walking keeper.sweeper.walking || is_some keeper.capture)
    → answer ≡ (is_walking keeper.sweeper.walking || is_some keeper.capture) → answer ≡ said → rests l.walk ≡ not said
rests_told l keeper answer said told is e = told ∙ ap not (sym is ∙ e)

-- while it walks, an event that begins something else is skipped
pub walks_skip : (w : World) (e : Event) (life : sim.Life) (answer : Bool) → WalkIsTold traced_states → ((l : Life) → rests l.walk ≡ false
    → fits_inside l e ≡ false)
    → answer ≡ (is_walking life.keeper.sweeper.walking || is_some life.keeper.capture) → answer ≡ true → IsLife w life → Did w e outcome.Skipped life
walks_skip w e life answer told unfit is walks a =
    let there = life_there w life.keeper life.words life.jobs.items a in
    let l : Life = there.0 in
    let resting : rests l.walk ≡ false = rests_told l life.keeper answer true (told life.keeper
    (record_of 64 life.words) w l there.1.keeper_stands) is walks in
    did_skip w e life (ap (λ o. fits_with o e) there.1.life ∙ unfit l resting) a

-- the stripe that a keeper holds that doesn't walk
pub none_held : (l l' : Life) (walk : KeeperWalk) (i : ℕ) → rests walk ≡ true → keeper_holds l' i walk ≡ keeper_holds l i walk
none_held l l' Rests i is = refl
none_held l l' SweepTakes i is = absurd (let no : false ≡ true = is in cc)
none_held l l' SweepGives i is = absurd (let no : false ≡ true = is in cc)
none_held l l' CaptureLooks i is = absurd (let no : false ≡ true = is in cc)
none_held l l' (CaptureGives mark) i is = absurd (let no : false ≡ true = is in cc)

-- ---- the life

-- the keeper fits its pass also as one that captures nothing
pub fits_between : (n : ℕ) (done : List Command) (keeper : Keeper Traced) (b : Book) → keeper.capture ≡ None
    → Fits traced_states traced_honest n done keeper (record_of 64 b)
    → FitsWalking traced_states traced_honest n done keeper (record_of 64 b)
fits_between n done keeper b none fits = subst (λ o. FitsBy o traced_states traced_honest n done keeper (record_of 64 b)) (sym none) fits

-- the keeper is another, in the same world
pub stays : (w : World) (keeper new : Keeper Traced) (b : Book) (jobs : List Job) → (a : IsLifeOf w keeper b jobs)
    → FitsWalking traced_states traced_honest b.stripes a.done new (record_of 64 b)
    → HasKeeper traced_states new (record_of 64 b) w → IsLifeOf w new b jobs
stays w keeper new b jobs a fits stands = record { done = a.done; fits = fits; count = a.count; workers_stand = a.workers_stand; keeper_stands = stands }

-- and so is the world, in nothing that concerns the workers
pub goes_quietly : (w : World) (l l' : Life) (keeper new : Keeper Traced) (b : Book) (jobs : List Job) → KeeperRests
    → (a : IsLifeOf w keeper b jobs) → WorkersStand b w l (doings_of jobs)
    → ConcernsNone w (with_life w l') l l' → FitsWalking traced_states traced_honest b.stripes a.done new (record_of 64 b)
    → HasKeeper traced_states new (record_of 64 b) (with_life w l')
    → IsLifeOf (with_life w l') new b jobs
goes_quietly w l l' keeper new b jobs leaves a workers same fits stands = record {
  done = a.done;
  fits = fits;
  count = a.count;
  workers_stand = leaves b w (with_life w l') l l' (doings_of jobs) workers same;
  keeper_stands = stands;
}

-- ---- a checkpoint

begins_quietly : (w : World) (l : Life) → rests l.walk ≡ true → ConcernsNone w (with_life w (checkpoint_begun w l)) l (checkpoint_begun w l)
begins_quietly w l resting = record {
  history = refl;
  stripes = refl;
  first = refl;
  key_limit = refl;
  jobs = refl;
  seen = refl;
  places = refl;
  durable = refl;
  has_failed = refl;
  held = λ i. none_held l (checkpoint_begun w l) l.walk i resting;
}

begun_life : (w : World) (l : Life) (keeper new : Keeper Traced) (b : Book) (jobs : List Job) (result : Result (Unit {0}) Refusal) → KeeperRests
    → (a : IsLifeOf w keeper b jobs)
    → WorkersStand b w l (doings_of jobs) → rests l.walk ≡ true → FitsWalking traced_states traced_honest b.stripes a.done new (record_of 64 b)
    → Answers traced_states new (record_of 64 b) w l event.Begin (begun_as result) → w.life ≡ Some l → (life : sim.Life) → life.keeper ≡ new
    → life.words ≡ b → life.jobs.items ≡ jobs
    → Did w event.Begin (begun_as result) life
begun_life w l keeper new b jobs (Ok u) leaves a workers resting fits k is life e1 e2 e3 =
    did w l event.Begin outcome.Begun life is tt resting k.happens tt
    (rw (e1, e2, e3) (goes_quietly w l (checkpoint_begun w l) keeper new b jobs leaves a workers (begins_quietly w l resting) fits k.stands))
begun_life w l keeper new b jobs (Err e) leaves a workers resting fits k is life e1 e2 e3 =
    did w l event.Begin (outcome.Refused e) life is tt resting k.happens tt
    (rw (e1, e2, e3) (stays w keeper new b jobs a fits k.stands))

pub begins : (w : World) (life new : sim.Life) (answer : Bool) (result shown : Result (Unit {0}) Refusal) → result ≡ shown
    → WalkIsTold traced_states → BeginAnswers traced_states traced_honest → KeeperRests
    → answer ≡ (is_walking life.keeper.sweeper.walking || is_some life.keeper.capture) → answer ≡ false → life.keeper.capture ≡ None
    → TriesBegin traced_states traced_honest life.keeper new.keeper result
    → ((n : ℕ) (done : List Command) → Fits traced_states traced_honest n done life.keeper (record_of 64 life.words)
    → Fits traced_states traced_honest n done new.keeper (record_of 64 life.words))
    → new.words ≡ life.words → new.jobs.items ≡ life.jobs.items → IsLife w life → Did w event.Begin (begun_as shown) new
begins w life new answer result shown shows told law leaves is rested none tries refits words jobs a =
    let there = life_there w life.keeper life.words life.jobs.items a in
    let l : Life = there.0 in
    let fit = fits_now w life.keeper life.words life.jobs.items a none in
    let none' : new.keeper.capture ≡ None = ap (λ k. k.capture) tries.same ∙ none in
    let resting : rests l.walk ≡ true = rests_told l life.keeper answer false (told life.keeper
    (record_of 64 life.words) w l there.1.keeper_stands) is rested in
    subst (λ r. Did w event.Begin (begun_as r) new) shows
    (begun_life w l life.keeper new.keeper life.words life.jobs.items result leaves a there.1.workers_stand resting
    (fits_between life.words.stripes a.done new.keeper life.words none' (refits life.words.stripes a.done fit))
    (law life.words.stripes a.done life.keeper new.keeper (record_of 64 life.words) w l result fit tt there.1.keeper_stands tries)
    there.1.life new refl words jobs)

-- ---- a seal

seals_quietly : (w : World) (l : Life) → rests l.walk ≡ true
    → ConcernsNone w (with_life w (record l { checkpoint = seal_begun l.checkpoint })) l (record l { checkpoint = seal_begun l.checkpoint })
seals_quietly w l resting = record {
  history = refl;
  stripes = refl;
  first = refl;
  key_limit = refl;
  jobs = refl;
  seen = refl;
  places = refl;
  durable = refl;
  has_failed = refl;
  held = λ i. none_held l (record l { checkpoint = seal_begun l.checkpoint }) l.walk i resting;
}

sealing_life : (w : World) (l : Life) (keeper new : Keeper Traced) (b : Book) (jobs : List Job) (result : Result (Unit {0}) Refusal)
    → KeeperRests → (a : IsLifeOf w keeper b jobs)
    → WorkersStand b w l (doings_of jobs) → rests l.walk ≡ true → FitsWalking traced_states traced_honest b.stripes a.done new (record_of 64 b)
    → Answers traced_states new (record_of 64 b) w l event.Seal (sealing_as result) → w.life ≡ Some l → (life : sim.Life) → life.keeper ≡ new
    → life.words ≡ b → life.jobs.items ≡ jobs
    → Did w event.Seal (sealing_as result) life
sealing_life w l keeper new b jobs (Ok u) leaves a workers resting fits k is life e1 e2 e3 =
    did w l event.Seal outcome.Sealing life is tt resting k.happens tt
    (rw (e1, e2, e3) (goes_quietly w l (record l { checkpoint = seal_begun l.checkpoint }) keeper new b jobs leaves a workers
    (seals_quietly w l resting) fits k.stands))
sealing_life w l keeper new b jobs (Err e) leaves a workers resting fits k is life e1 e2 e3 =
    did w l event.Seal (outcome.Refused e) life is tt resting k.happens tt
    (rw (e1, e2, e3) (stays w keeper new b jobs a fits k.stands))

-- the seal captures nothing
none_sealing : (old new : Keeper Traced) (result : Result (Unit {0}) Refusal) → TriesSeal traced_states old new result → old.capture ≡ None
    → new.capture ≡ None
none_sealing old new (Ok u) tries none = ap (λ k. k.capture) tries.ok ∙ none
none_sealing old new (Err e) tries none = ap (λ k. k.capture) tries.err ∙ none

pub seals : (w : World) (life new : sim.Life) (answer : Bool) (result shown : Result (Unit {0}) Refusal) → result ≡ shown
    → WalkIsTold traced_states → SealAnswers traced_states traced_honest → KeeperRests
    → answer ≡ (is_walking life.keeper.sweeper.walking || is_some life.keeper.capture) → answer ≡ false → life.keeper.capture ≡ None
    → TriesSeal traced_states life.keeper new.keeper result
    → ((n : ℕ) (done : List Command) → Fits traced_states traced_honest n done life.keeper (record_of 64 life.words)
    → Fits traced_states traced_honest n done new.keeper (record_of 64 life.words))
    → new.words ≡ life.words → new.jobs.items ≡ life.jobs.items → IsLife w life → Did w event.Seal (sealing_as shown) new
seals w life new answer result shown shows told law leaves is rested none tries refits words jobs a =
    let there = life_there w life.keeper life.words life.jobs.items a in
    let l : Life = there.0 in
    let fit = fits_now w life.keeper life.words life.jobs.items a none in
    let none' : new.keeper.capture ≡ None = none_sealing life.keeper new.keeper result tries none in
    let resting : rests l.walk ≡ true = rests_told l life.keeper answer false (told life.keeper
    (record_of 64 life.words) w l there.1.keeper_stands) is rested in
    subst (λ r. Did w event.Seal (sealing_as r) new) shows
    (sealing_life w l life.keeper new.keeper life.words life.jobs.items result leaves a there.1.workers_stand resting
    (fits_between life.words.stripes a.done new.keeper life.words none' (refits life.words.stripes a.done fit))
    (law life.words.stripes a.done life.keeper new.keeper (record_of 64 life.words) w l result fit tt there.1.keeper_stands tries)
    there.1.life new refl words jobs)
