-- The end of a life, and a stop between lives.
use Rattle.std.proofs.Common.{◌≡◌, ℕ, ◌≤◌, List, ◌∷◌, length, Option, None, Some, MatchBool, Result, Ok, Err, IfOk, true, refl, sym, ◌∙◌, ap, subst, arith}
use Rattle.std.proofs.lemmas.List.{length-append}
use Rattle.disk_model.specs.Files.{Contents, Files, Leaves, MayLeave, now}
use Rattle.disk_model.specs.Fills.{after_stop, left_by}
use Rattle.disk_model.specs.declared.fill.Fill.{Fill}
use Rattle.ticket_order.specs.Legality.{history_of}
use Rattle.one_history.specs.declared.book.Book.{Book}
use Rattle.one_history.specs.Turns.{record_of}
use Rattle.disk_model.proofs.FileLemmas.{rest_leaves}
use Rattle.store_invariant.specs.StoreStates.{StopsStand}
use Rattle.flusher.specs.declared.keeper.Keeper.{Keeper}
use Rattle.flusher.specs.Fitting.{StopsFit}
use Rattle.sim_rules.specs.declared.event.Event.{Event}
use Rattle.sim_rules.specs.declared.event.Event.TheVariants as event
use Rattle.sim_rules.specs.declared.event.Side.{Side}
use Rattle.sim_rules.specs.declared.outcome.DeviceCall.{DeviceCall}
use Rattle.sim_rules.specs.declared.outcome.Outcome.{Outcome}
use Rattle.sim_rules.specs.declared.outcome.Outcome.TheVariants as outcome
use Rattle.sim_rules.specs.Machine.{whole}
use Rattle.sim_rules.specs.World.{World, Life}
use Rattle.sim_rules.specs.After.{after, after_with, entered, without_life}
use Rattle.sim_rules.specs.Cases.{HappensWith, Meets}
use Rattle.sim_rules.specs.Fitting.{fits, fits_with}
use Rattle.sim_rules.specs.Laws.{KnownStands}
use Rattle.sim_rules.specs.Runs.{OpensWell}
use Rattle.sim_rules.specs.Sound.{AnswersLegally, AreAbove, OpensFront}
use Rattle.sim_workers.specs.Workers.{WorkersStand}
use Rattle.schedule_sim.specs.declared.job.Job.{Job}
use Rattle.schedule_sim.specs.declared.life.Life as sim
use Rattle.schedule_sim.specs.declared.store.Store.{Store}
use Rattle.schedule_sim.specs.declared.store.Store.TheVariants.{Closed}
use Rattle.schedule_sim.specs.declared.traced.Traced.{Traced}
use Rattle.schedule_sim.specs.Tracing.{traced_states}
use Rattle.schedule_sim.specs.Workers.{doings_of}
use Rattle.schedule_sim.specs.Living.{IsLife, IsLifeOf}
use Rattle.schedule_sim.specs.Storing.{DidStore, IsClosed, IsDurable, IsInterrupted, IsNext, IsStore, LiesOn, StopsWithin}
use Rattle.schedule_sim.proofs.Doing.{goes_on, meets_inside}
use Rattle.schedule_sim.proofs.LivesParts.{life_there}
use Rattle.schedule_sim.proofs.Stopping.{above_stands, life_stops}
use Rattle.schedule_sim.proofs.Stores.{nothing}

-- ---- what lies on the disk

-- the durable count of a life is one of its history
durable_within : (w : World) (l : Life) (b : Book) (jobs : List Job) → WorkersStand b w l (doings_of jobs) → l.durable ≤ length w.history
durable_within w l b jobs stands =
    omega (arith, stands.words.durable, stands.words.one.reached, stands.words.count, ap length stands.words.history, length-append stands.words.before b.history)

durable_is : (w : World) (least : ℕ) (l : Life) → w.life ≡ Some l → IsDurable least w.life → least ≡ l.durable
durable_is w least l is durable = subst (λ o. IsDurable least o) is durable

-- the durable count, of a life in this world
durable_reached : (w : World) (least : ℕ) (keeper : Keeper Traced) (b : Book) (jobs : List Job) → IsLifeOf w keeper b jobs → IsDurable least w.life → least ≤ length w.history
durable_reached w least keeper b jobs life durable =
    let there = life_there w keeper b jobs life in
    omega (arith, durable_is w least there.0 there.1.life durable, durable_within w there.0 b jobs there.1.workers_stand)

pub life_lies : KnownStands → (w : World) (least : ℕ) (keeper : Keeper Traced) (b : Book) (jobs : List Job) (disk : Traced) → disk ≡ keeper.disk → IsLifeOf w keeper b jobs → IsDurable least w.life
    → StopsFit (history_of (record_of 64 b)) keeper (now (traced_states keeper.disk)) → LiesOn w least disk
life_lies law w least keeper b jobs disk same life durable stops =
    let there = life_there w keeper b jobs life in
    let files = there.1.keeper_stands.files in
    record {
      files = subst (λ d. w.files ≡ now (traced_states d)) (sym same) files;
      reached = durable_reached w least keeper b jobs life durable;
      stops = subst (λ n. StopsStand (whole w.history) n (length w.history) w.files) (sym (durable_is w least there.0 there.1.life durable))
          (life_stops law w there.0 keeper b jobs life there.1.life w.files (subst (λ f. StopsFit (history_of (record_of 64 b)) keeper f) (sym files) stops));
    }

pub closed_lies : (w : World) (least : ℕ) (disk : Traced) → IsClosed w least disk → LiesOn w least disk
closed_lies w least disk stands = record { files = stands.files; reached = stands.reached; stops = stands.stops }

-- no life goes on with what lies there
pub left_closed : (w : World) (least : ℕ) (disk : Traced) → LiesOn w least disk → IsClosed (without_life w w.files) least disk
left_closed w least disk lies = record { life = refl; files = lies.files; reached = lies.reached; stops = lies.stops }

-- within a call the disk is as the call leaves it
pub interrupted_lies : (w : World) (least : ℕ) (s : Side) (old : sim.Life) (call : DeviceCall) (disk disk' : Traced) → disk' ≡ disk → IsLife w old → IsDurable least w.life → IsInterrupted w s call disk
    → LiesOn (without_life w (entered call w.files)) least disk'
interrupted_lies w least s old call disk disk' same life durable stopped =
    let there = life_there w old.keeper old.words old.jobs.items life in
    let above : (contents : Contents) → Leaves (now (traced_states disk)) contents → AreAbove w least contents =
    subst (λ n. (contents : Contents) → Leaves (now (traced_states disk)) contents → AreAbove w n contents) (sym (durable_is w least there.0 there.1.life durable)) (stopped.stops there.0 there.1.life) in
    record {
      files = sym (ap (λ d. now (traced_states d)) same ∙ stopped.state);
      reached = durable_reached w least old.keeper old.words old.jobs.items life durable;
      stops = λ contents leaves. above_stands w least contents (above contents (subst (λ files. Leaves files contents) (sym stopped.state) leaves));
    }

-- within the call itself, too
pub interrupted_within : (w : World) (least : ℕ) (s : Side) (old : sim.Life) (call : DeviceCall) (disk : Traced) → IsLife w old → IsDurable least w.life → IsInterrupted w s call disk
    → (contents : Contents) → Leaves (entered call w.files) contents → AreAbove w least contents
interrupted_within w least s old call disk life durable stopped contents leaves =
    let there = life_there w old.keeper old.words old.jobs.items life in
    subst (λ n. AreAbove w n contents) (sym (durable_is w least there.0 there.1.life durable))
    (stopped.stops there.0 there.1.life contents (subst (λ files. Leaves files contents) (sym stopped.state) leaves))

-- ---- a stop

-- what a stop leaves of the files that a stop left could be left before
stops_again : (w : World) (least : ℕ) (fill : Fill) (files : Files) → Leaves files (left_by fill files) → StopsStand (whole w.history) least (length w.history) files
    → StopsStand (whole w.history) least (length w.history) (after_stop fill files)
stops_again w least fill files allowed stops = λ contents leaves.
    stops contents (λ n below. subst (λ content. MayLeave (files n) content) (sym (rest_leaves (left_by fill files n) (contents n) (leaves n below))) (allowed n below))

pub stop_closes : (w : World) (least : ℕ) (fill : Fill) (files : Files) (old disk : Traced) → LiesOn w least old → now (traced_states old) ≡ files → traced_states disk ≡ after_stop fill files ∷ traced_states old
    → Leaves files (left_by fill files) → IsClosed (without_life w (after_stop fill w.files)) least disk
stop_closes w least fill files old disk lies is after allowed =
    let same : w.files ≡ files = lies.files ∙ is in
    record {
      life = refl;
      files = ap (after_stop fill) same ∙ sym (ap now after);
      reached = lies.reached;
      stops = subst (λ f. StopsStand (whole w.history) least (length w.history) (after_stop fill f)) (sym same)
          (stops_again w least fill files allowed (subst (λ f. StopsStand (whole w.history) least (length w.history) f) same lies.stops));
    }

-- ---- what such an event did

-- no life is there after it
ended : (w : World) (least : ℕ) (e : Event) (x : Outcome) (files : Files) (store : Store) → Meets w nothing e x → AnswersLegally w e x → OpensFront w least nothing x → OpensWell (e, x)
    → StopsWithin w least e x → after w nothing e x ≡ without_life w files → IsStore (without_life w files) least store → DidStore w least e x store
ended w least e x files store meets answers front opens within is stands = record {
  found = nothing;
  meets = meets;
  answers = answers;
  front = front;
  opens = opens;
  within = within;
  next = least;
  next_is = subst (λ (v : World). IsNext least least v.life) (sym is) refl;
  stands = subst (λ v. IsStore v least store) (sym is) stands;
}

pub left_did : (w : World) (least : ℕ) (old : sim.Life) (disk : Traced) → IsLife w old → LiesOn w least disk → DidStore w least event.Leave outcome.Left (Closed disk)
left_did w least old disk life lies =
    let there = life_there w old.keeper old.words old.jobs.items life in
    ended w least event.Leave outcome.Left w.files (Closed disk) (meets_inside w there.0 event.Leave outcome.Left there.1.life refl refl nothing) tt tt tt tt
    (goes_on w nothing event.Leave outcome.Left tt ∙ ap (λ o. after_with w o nothing event.Leave outcome.Left) there.1.life) (left_closed w least disk lies)

meets_stop : (w : World) (fill : Fill) (o : Option Life)
    → MatchBool (fits_with o (event.Stop None fill)) (HappensWith w o nothing (event.Stop None fill) (outcome.Stopped None)) (outcome.Stopped None ≡ outcome.Skipped)
meets_stop w fill None = tt
meets_stop w fill (Some l) = tt

after_stopped : (w : World) (fill : Fill) (o : Option Life) → after_with w o nothing (event.Stop None fill) (outcome.Stopped None) ≡ without_life w (after_stop fill w.files)
after_stopped w fill None = refl
after_stopped w fill (Some l) = refl

stopped_none : (w : World) (least : ℕ) (fill : Fill) (store : Store) → IsStore (without_life w (after_stop fill w.files)) least store → DidStore w least (event.Stop None fill) (outcome.Stopped None) store
stopped_none w least fill store stands =
    ended w least (event.Stop None fill) (outcome.Stopped None) (after_stop fill w.files) store (meets_stop w fill w.life) tt tt tt tt
    (goes_on w nothing (event.Stop None fill) (outcome.Stopped None) tt ∙ after_stopped w fill w.life) stands

pub stopped_did : (w : World) (least : ℕ) (fill : Fill) (x : Outcome) (store : Store) → x ≡ outcome.Stopped None → IsStore (without_life w (after_stop fill w.files)) least store
    → DidStore w least (event.Stop None fill) x store
stopped_did w least fill x store is stands = rw is (stopped_none w least fill store stands)

stopped_some : (w : World) (least : ℕ) (s : Side) (fill : Fill) (old : sim.Life) (call : DeviceCall) (disk : Traced) (store : Store) → IsLife w old → fits w (event.Stop (Some s) fill) ≡ true
    → IsDurable least w.life → IsInterrupted w s call disk → IsStore (without_life w (after_stop fill (entered call w.files))) least store
    → DidStore w least (event.Stop (Some s) fill) (outcome.Stopped (Some call)) store
stopped_some w least s fill old call disk store life fit durable stopped stands =
    let there = life_there w old.keeper old.words old.jobs.items life in
    let e : Event = event.Stop (Some s) fill in
    let x : Outcome = outcome.Stopped (Some call) in
    ended w least e x (after_stop fill (entered call w.files)) store
    (meets_inside w there.0 e x there.1.life (sym (ap (λ o. fits_with o e) there.1.life) ∙ fit) (stopped.due there.0 there.1.life) nothing) tt tt tt
    (interrupted_within w least s old call disk life durable stopped)
    (goes_on w nothing e x tt ∙ ap (λ o. after_with w o nothing e x) there.1.life) stands

pub stopped_within_did : (w : World) (least : ℕ) (s : Side) (fill : Fill) (old : sim.Life) (call : DeviceCall) (disk : Traced) (x : Outcome) (store : Store) → x ≡ outcome.Stopped (Some call) → IsLife w old
    → fits w (event.Stop (Some s) fill) ≡ true → IsDurable least w.life → IsInterrupted w s call disk → IsStore (without_life w (after_stop fill (entered call w.files))) least store
    → DidStore w least (event.Stop (Some s) fill) x store
stopped_within_did w least s fill old call disk x store is life fit durable stopped stands = rw is (stopped_some w least s fill old call disk store life fit durable stopped stands)

-- what holds of a value that is there, from two things that do
pub both_ok : {A E : Type 0} (P Q R : A → Type 0) (r : Result A E) → ((x : A) → P x → Q x → R x) → IfOk r P → IfOk r Q → IfOk r R
both_ok P Q R (Ok x) f p q = f x p q
both_ok P Q R (Err e) f p q = tt

-- where memory was not missing for the stop
pub stopped_if : {E : Type 0} (result : Result (Store × Outcome) E) (e : Event) (fill : Fill) (within : Option Side) (old : Store) (disk : Traced) → e ≡ event.Stop within fill → within ≡ None
    → ((w : World) (least : ℕ) → IsStore w least old → LiesOn w least disk)
    → IfOk result (λ x. (w : World) (least : ℕ) → LiesOn w least disk → IsStore (without_life w (after_stop fill w.files)) least x.0) → IfOk result (λ x. x.1 ≡ outcome.Stopped None)
    → IfOk result (λ x. (w : World) (least : ℕ) → IsStore w least old → DidStore w least e x.1 x.0)
stopped_if (Ok x) e fill within old disk is none lies stands told =
    λ w least was. rw (is, none) (stopped_did w least fill x.1 x.0 told (stands w least (lies w least was)))
stopped_if (Err error) e fill within old disk is none lies stands told = tt
