-- What the loop of a run keeps.
use Rattle.std.proofs.Common.{◌≡◌, ◌⊎◌, inl, inr, ℕ, suc, ◌+◌, ◌<◌, ◌≤◌, get_or, take, List, [], ◌∷◌, ◌++◌, length, Option, None, Some, refl, sym, ◌∙◌, ap, subst, arith}
use Rattle.std.specs.List.{AllByRecursion, insert}
use Rattle.std.proofs.Math.Seq.{take-suc}
use Rattle.std.proofs.lemmas.List.{length-append}
use Rattle.ticket_order.specs.declared.record.Call.{Call}
use Rattle.disk_model.specs.Files.{Contents, Leaves}
use Rattle.sim_rules.specs.declared.event.Event.{Event}
use Rattle.sim_rules.specs.declared.event.Event.TheVariants as event
use Rattle.sim_rules.specs.declared.outcome.Outcome.{Outcome}
use Rattle.sim_rules.specs.declared.outcome.Outcome.TheVariants as outcome
use Rattle.sim_rules.specs.World.{World, Life}
use Rattle.sim_rules.specs.After.{after}
use Rattle.sim_rules.specs.Laws.{LifeGoesOn, NextLifeBegins, RowsGoOn, SoundBetweenIsRun, SoundIsRun}
use Rattle.sim_rules.specs.Runs.{Row, Happens, IsRunFrom, OpensWell, rows_of, rows_onto, stopped_in}
use Rattle.sim_rules.specs.Sound.{AreAbove, IsSound, IsSoundWith, Stays, durable_or, released_by}
use Rattle.schedule_sim.specs.declared.store.Store.{Store}
use Rattle.schedule_sim.specs.declared.store.Store.TheVariants.{Closed, Open}
use Rattle.schedule_sim.specs.Storing.{DidStore, IsBeginning, IsDurable, IsNext, IsStore, StandsNow, StopsWithin}
use Rattle.schedule_sim.specs.Living.{IsLifeOf}
use Rattle.schedule_sim.proofs.Fronts.{now_at_start}
use Rattle.schedule_sim.specs.Workers.{doings_of}
use Rattle.schedule_sim.specs.declared.traced.Traced.{Traced}
use Rattle.schedule_sim.specs.declared.job.Job.{Job}
use Rattle.flusher.specs.declared.keeper.Keeper.{Keeper}
use Rattle.one_history.specs.declared.book.Book.{Book}
use Rattle.sim_workers.specs.Workers.{StandWith, WorkersStand}

-- After these events and outcomes the store stands against some world, and they lead there soundly from this one.
pub record IsKept (from : World) (events : List Event) (outcomes : List Outcome) (store : Store) : Type 0 where
  pub world : World
  pub least : ℕ
  pub released : List Call
  pub one_each : length outcomes ≡ length events
  pub stands : IsStore world least store
  pub now : StandsNow world least
  pub sound : IsSound from (rows_of events outcomes) world least released
  pub opens : AllByRecursion OpensWell (rows_of events outcomes)

-- The laws by which one event more keeps it.
pub record AreLaws : Type 0 where
  pub life : LifeGoesOn
  pub next : NextLifeBegins
  pub rows : RowsGoOn

-- the durable count of a life is one of its history
durable_within : (w : World) (keeper : Keeper Traced) (b : Book) (jobs : List Job) → IsLifeOf w keeper b jobs → (l : Life) → w.life ≡ Some l → l.durable ≤ length w.history
durable_within w keeper b jobs a l is =
    let stands : WorkersStand b w l (doings_of jobs) = subst (λ o. StandWith b w o (doings_of jobs)) is a.workers_stand in
    omega (arith, stands.words.durable, stands.words.one.reached, stands.words.count, ap length stands.words.history, length-append stands.words.before b.history)

-- Between lives, or in a life of which so many commands are durable.
data Where (w : World) (least : ℕ) : Type 0 where
  Between : w.life ≡ None → Where w least
  Within : (l : Life) → w.life ≡ Some l → least ≡ l.durable → l.durable ≤ length w.history → Where w least

within : (w : World) (least : ℕ) (o : Option Life) → w.life ≡ o → IsDurable least o → ((l : Life) → w.life ≡ Some l → l.durable ≤ length w.history) → Where w least
within w least None is durable reached = absurd durable
within w least (Some l) is durable reached = Within l is durable (reached l is)

where_it_is : (w : World) (least : ℕ) (store : Store) → IsStore w least store → Where w least
where_it_is w least (Closed disk) stands = Between stands.life
where_it_is w least (Open life) stands = within w least w.life refl stands.1 (durable_within w life.keeper life.words life.jobs.items stands.0)

-- the count that a store between lives keeps
with_next : (o : Option Life) (from : World) (rows : List Row) (w : World) (least next : ℕ) (released : List Call) → IsNext least next o → IsSoundWith o from rows w least released
    → IsSoundWith o from rows w next released
with_next None from rows w least next released is sound = rw is sound
with_next (Some l) from rows w least next released is sound = sound

-- what is durable in the life that is there, or between lives the count that is kept
by_life : (o : Option Life) (least next : ℕ) → IsNext least next o → (IsDurable next o) ⊎ (o ≡ None) → next ≡ durable_or o least
by_life None least next is there = is
by_life (Some l) least next is (inl durable) = durable
by_life (Some l) least next is (inr none) = absurd cc

counted : (w : World) (least : ℕ) (store : Store) → IsStore w least store → (IsDurable least w.life) ⊎ (w.life ≡ None)
counted w least (Closed disk) stands = inr stands.life
counted w least (Open life) stands = inl stands.1

-- what a stop may leave at the event
stops_in : (w : World) (least : ℕ) (e : Event) (x : Outcome) → StandsNow w least → StopsWithin w least e x → (contents : Contents) → Leaves (stopped_in (e, x) w.files) contents → AreAbove w least contents
stops_in w least (event.Stop within fill) (outcome.Stopped (Some call)) now stops = stops
stops_in w least e x now stops = now.left

stays : (w : World) (least : ℕ) (e : Event) (x : Outcome) (store : Store) → StandsNow w least → (did : DidStore w least e x store) → StandsNow (after w did.found e x) did.next
    → Stays w least (e, x) (after w did.found e x) (durable_or (after w did.found e x).life least)
stays w least e x store now did next =
    let w' : World = after w did.found e x in
    subst (λ n. Stays w least (e, x) w' n) (by_life w'.life least did.next did.next_is (counted w' did.next store did.stands))
    (record { within = stops_in w least e x now did.within; left = next.left; read = next.read })

-- what one event more keeps
abbrev GoesOn : World → List Row → World → ℕ → Row → World → ℕ → Type 0
GoesOn from rows w least row w' next = (released : List Call) × IsSound from (row ∷ rows) w' next released

goes_on : LifeGoesOn → NextLifeBegins → (from : World) (rows : List Row) (w : World) (least : ℕ) (released : List Call) (e : Event) (x : Outcome) (store : Store) → Where w least → IsSound from rows w least released
    → StandsNow w least → (did : DidStore w least e x store) → StandsNow (after w did.found e x) did.next → GoesOn from rows w least (e, x) (after w did.found e x) did.next
goes_on life next from rows w least released e x store (Between none) sound now did then =
    let stay = stays w least e x store now did then in
    let w' : World = after w did.found e x in
    let happens : Happens w (e, x) w' = record { found = did.found; meets = did.meets; world = refl } in (
      released,
      with_next w'.life from ((e, x) ∷ rows) w' least did.next released did.next_is
          (next from rows w released least e x w' none (subst (λ o. IsSoundWith o from rows w least released) none sound) happens stay did.front),
    )
goes_on life next from rows w least released e x store (Within l is durable reached) sound now did then =
    let stay = stays w least e x store now did then in
    let w' : World = after w did.found e x in
    let happens : Happens w (e, x) w' = record { found = did.found; meets = did.meets; world = refl } in
    let low : l.durable ≤ least = rw durable (omega arith) in
    let high : least ≤ length w.history = rw durable reached in (
      released_by w e x released,
      with_next w'.life from ((e, x) ∷ rows) w' least did.next (released_by w e x released) did.next_is
          (life from rows w l released least e x w' is (subst (λ o. IsSoundWith o from rows w least released) is sound) happens
          (subst (λ n. Stays w n (e, x) w' (durable_or w'.life least)) durable stay) did.answers low high),
    )

pub kept_at_start : (from : World) (store : Store) → IsBeginning from store → IsKept from [] [] store
unfolding rows_onto
kept_at_start from store begins = record {
  world = from;
  least = 0;
  released = [];
  one_each = refl;
  stands = begins.stands;
  now = now_at_start from store begins.life begins.stands;
  sound = subst (λ o. IsSoundWith o from [] from 0 []) (sym begins.life) begins.sound;
  opens = tt;
}

pub kept_on : AreLaws → (from : World) (events : List Event) (outcomes : List Outcome) (store store' : Store) (e : Event) (x : Outcome) → (kept : IsKept from events outcomes store)
    → DidStore kept.world kept.least e x store' → ((w : World) (least : ℕ) → IsStore w least store' → StandsNow w least) → IsKept from (events ++ e ∷ []) (outcomes ++ x ∷ []) store'
kept_on laws from events outcomes store store' e x kept did fronts =
    let then = fronts (after kept.world did.found e x) did.next did.stands in
    let more = goes_on laws.life laws.next from (rows_of events outcomes) kept.world kept.least kept.released e x store' (where_it_is kept.world kept.least store kept.stands) kept.sound kept.now did then in
    let rows_are = laws.rows events outcomes e x kept.one_each in
    record {
      world = after kept.world did.found e x;
      least = did.next;
      released = more.0;
      one_each = omega (arith, length-append outcomes (x ∷ []), length-append events (e ∷ []), kept.one_each);
      stands = did.stands;
      now = then;
      sound = subst (λ rs. IsSound from rs (after kept.world did.found e x) did.next more.0) (sym rows_are) more.1;
      opens = subst (λ rs. AllByRecursion OpensWell rs) (sym rows_are) (did.opens, kept.opens);
    }

run_by : SoundIsRun → SoundBetweenIsRun → (from : World) (events : List Event) (outcomes : List Outcome) (w : World) (least : ℕ) (released : List Call) (o : Option Life) → length outcomes ≡ length events
    → IsSoundWith o from (rows_of events outcomes) w least released → AllByRecursion OpensWell (rows_of events outcomes) → IsRunFrom from events outcomes
run_by inside outside from events outcomes w least released None one_each sound opens = outside from events outcomes w least released one_each sound opens
run_by inside outside from events outcomes w least released (Some l) one_each sound opens = inside from events outcomes w l.durable released one_each sound opens

pub kept_is_run : SoundIsRun → SoundBetweenIsRun → (from : World) (events : List Event) (outcomes : List Outcome) (store : Store) → IsKept from events outcomes store → IsRunFrom from events outcomes
kept_is_run inside outside from events outcomes store kept =
    run_by inside outside from events outcomes kept.world kept.least kept.released kept.world.life kept.one_each kept.sound kept.opens

-- with the next event of the schedule
pub kept_after : AreLaws → (from : World) (events : List Event) (i : ℕ) (outcomes outcomes' : List Outcome) (store store' : Store) (e : Event) (x : Outcome) → i < length events → e ≡ get_or events i e
    → outcomes' ≡ outcomes ++ x ∷ [] → (kept : IsKept from (take i events) outcomes store) → DidStore kept.world kept.least e x store'
    → ((w : World) (least : ℕ) → IsStore w least store' → StandsNow w least) → IsKept from (take (i + 1) events) outcomes' store'
kept_after laws from events i outcomes outcomes' store store' e x below at more kept did fronts =
    let next : i + 1 ≡ suc i = omega arith in
    let last : take (i + 1) events ≡ take i events ++ e ∷ [] =
    ap (λ n. take n events) next ∙ take-suc events i e below ∙ ap (λ v. take i events ++ v ∷ []) (sym at) in
    rw (more, last) (kept_on laws from (take i events) outcomes store store' e x kept did fronts)

pub kept_to_end : SoundIsRun → SoundBetweenIsRun → (from : World) (events : List Event) (i : ℕ) (outcomes : List Outcome) (store : Store) → take i events ≡ events → IsKept from (take i events) outcomes store
    → IsRunFrom from events outcomes
kept_to_end inside outside from events i outcomes store all kept = kept_is_run inside outside from events outcomes store (subst (λ es. IsKept from es outcomes store) all kept)

-- ---- an Old before them

pub inserted_first : (outcomes : List Outcome) (x : Outcome) → insert outcomes 0 x ≡ x ∷ outcomes
inserted_first [] x = refl
inserted_first (y ∷ outcomes) x = refl
