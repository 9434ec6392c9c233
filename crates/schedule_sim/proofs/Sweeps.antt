-- A step of a sweep, in a life.
use Rattle.std.proofs.Common.{◌≡◌, ℕ, ◌||◌, not, true, false, Option, None, Some, is_some, List, ◌++◌, Result, Ok, Err, refl, sym, ◌∙◌, ap, subst}
use Rattle.map_types.specs.declared.commands.Command.{Command}
use Rattle.map_types.specs.declared.refusals.Refusal.{Refusal}
use Rattle.ticket_order.specs.declared.walk.Walk.{Walk}
use Rattle.ticket_order.specs.Walks.{MakesOne}
use Rattle.one_history.specs.declared.book.Book.{Book}
use Rattle.one_history.specs.OneHistory.{HoldApart, IsOneHistory}
use Rattle.one_history.specs.Turns.{record_of}
use Rattle.flusher.specs.declared.keeper.Keeper.{Keeper}
use Rattle.flusher.specs.declared.sweeper.Sweep as sweeper
use Rattle.flusher.specs.declared.sweeper.Swept.{Swept}
use Rattle.flusher.specs.declared.sweeper.Swept.TheVariants.{More, Held, Done}
use Rattle.flusher.specs.declared.sweeper.Walking.{Walking}
use Rattle.flusher.specs.declared.sweeper.Walking.TheVariants as walking
use Rattle.flusher.specs.Fitting.{Fits}
use Rattle.flusher.specs.KeeperSteps.{is_walking}
use Rattle.flusher.specs.Sweeping.{AfterGive, DrainsStripe, IsHolding, StandsBy, StepsOn, next_kind}
use Rattle.gate_log.specs.States.{commands_of}
use Rattle.checkpoint_walk.specs.Walking.{FitsBy, FitsWalking}
use Rattle.sim_rules.specs.declared.event.Event.TheVariants as event
use Rattle.sim_rules.specs.declared.outcome.End.{End}
use Rattle.sim_rules.specs.declared.outcome.End.TheVariants as ends
use Rattle.sim_rules.specs.declared.outcome.Made.{Made}
use Rattle.sim_rules.specs.declared.outcome.Outcome.TheVariants as outcome
use Rattle.sim_rules.specs.World.{World, Life, Sweep, rests, sweep_or}
use Rattle.sim_rules.specs.After.{keeper_stepped, places_swept, sweep_begins, sweep_gives, sweep_takes, with_life}
use Rattle.sim_workers.specs.Laws.{FreeIsTold, HeldIsTold, KeeperSteps}
use Rattle.sim_workers.specs.Workers as workers
use Rattle.sim_keeper.specs.Laws.{CountsAreTold, FrontIsSeen, NoneTaken, PassHolds, StripeIsTold, SweepAnswers, SweepStepAnswers, SweepTakesNone, SweepTakesOutbox, WalkIsTold}
use Rattle.sim_keeper.specs.Promises.{StepsSweep}
use Rattle.sim_keeper.specs.Showing.{sweep_shown, walk_by, walking_shown}
use Rattle.sim_keeper.specs.KeeperInWorld.{Answers, KeeperStands}
use Rattle.sim_keeper.specs.Telling as telling
use Rattle.sim_keeper.specs.Telling.{sweep_end}
use Rattle.schedule_sim.specs.declared.life.Life as sim
use Rattle.schedule_sim.specs.declared.traced.Traced.{Traced}
use Rattle.schedule_sim.specs.Living.{Did, IsLifeOf}
use Rattle.schedule_sim.specs.Tracing.{traced_states, traced_honest}
use Rattle.schedule_sim.specs.declared.watched.Watched.{Watched}
use Rattle.schedule_sim.specs.Watching.{MakesStep}
use Rattle.schedule_sim.specs.WatchedWords.{watched_moves, watched_place, watched_record, watched_stripes}
use Rattle.schedule_sim.specs.Workers.{doings_of}
use Rattle.schedule_sim.proofs.Doing.{did}
use Rattle.schedule_sim.proofs.LivesParts.{Parts, fits_now}
use Rattle.schedule_sim.proofs.Telling.{second_same, step_made}
use Rattle.schedule_sim.proofs.KeeperTold.{DrawsNoTicket, SameWorkers, keeper_moves, step_told}

-- the laws that are cited
pub record Laws : Type 0 where
  pub begins : SweepAnswers traced_states traced_honest
  pub steps : SweepStepAnswers traced_states traced_honest
  pub none : SweepTakesNone traced_states traced_honest
  pub outbox : SweepTakesOutbox traced_states traced_honest
  pub walk : WalkIsTold traced_states
  pub stripe : StripeIsTold traced_states traced_honest
  pub counts : CountsAreTold traced_states traced_honest
  pub sees : FrontIsSeen
  pub moves : KeeperSteps
  pub free : FreeIsTold
  pub held : HeldIsTold

-- The keeper made a step of its sweep, which was told so.
pub record Sweeps (old new : Keeper Traced) (b b' : Book) (result : Result Swept Refusal) (m : Made) : Type 0 where
  pub made : MakesStep 64 (next_kind old.sweeper.sweep old.sweeper.walking) b b' m
  pub steps : StepsSweep b.stripes old new (record_of 64 b) (record_of 64 b') result
  pub fits : (done : List Command) → Fits traced_states traced_honest b.stripes done old (record_of 64 b)
      → Fits traced_states traced_honest b'.stripes done new (record_of 64 b')
  pub one : IsOneHistory b'
  pub apart : HoldApart b'
  pub free : old.capture ≡ None

-- the step that the watched words were lent for
pub sweeps : (old new : Keeper Traced) (before after : Watched) (result : Result Swept Refusal) (m : Made) → before.pass ≡ 64 → old.capture ≡ None
    → MakesOne watched_record watched_moves (next_kind old.sweeper.sweep old.sweeper.walking) before after
    → StepsOn (watched_stripes before) old.sweeper.sweep old.sweeper.walking old.sweeper.in_hand new.sweeper (watched_record before) (watched_record after) result
    → ((done : List Command) → Fits traced_states traced_honest (watched_stripes before) done old (watched_record before) → Fits traced_states traced_honest (watched_stripes after) done new (watched_record after))
    → new ≡ record old { sweeper = new.sweeper } → watched_place after ≡ watched_place before → after.made ≡ Some m → IsOneHistory after.words.now → HoldApart after.words.now
    → Sweeps old new before.words.now after.words.now result m
sweeps old new before after result m pass free one steps fits same place made history apart =
    let stays : after.pass ≡ before.pass = second_same place in
    let now : after.pass ≡ 64 = stays ∙ pass in
    record {
      made = subst (λ j. MakesStep j (next_kind old.sweeper.sweep old.sweeper.walking) before.words.now after.words.now m) pass (step_made before after after.words.now (next_kind old.sweeper.sweep old.sweeper.walking) m one stays refl made);
      steps = record {
        steps_on = subst (λ j. StepsOn before.words.now.stripes old.sweeper.sweep old.sweeper.walking old.sweeper.in_hand new.sweeper (record_of 64 before.words.now) (record_of j after.words.now) result) now
            (subst (λ j. StepsOn before.words.now.stripes old.sweeper.sweep old.sweeper.walking old.sweeper.in_hand new.sweeper (record_of j before.words.now) (record_of after.pass after.words.now) result) pass steps);
        same = same;
      };
      fits = λ done is. subst (λ j. Fits traced_states traced_honest after.words.now.stripes done new (record_of j after.words.now)) now
          (fits done (subst (λ j. Fits traced_states traced_honest before.words.now.stripes done old (record_of j before.words.now)) (sym pass) is));
      one = history;
      apart = apart;
      free = free;
    }

-- ---- what the world keeps

undrawn_kind : (o : Option sweeper.Sweep) (v : Walking) → DrawsNoTicket (next_kind o v)
undrawn_kind None v = tt
undrawn_kind (Some sweep) walking.Rests = tt
undrawn_kind (Some sweep) walking.SweepTakes = tt
undrawn_kind (Some sweep) (walking.SweepGives walk) = tt

-- the life has the same workers and places, or but other places
record Same (l l' : Life) : Type 0 where
  workers : SameWorkers l l'
  places : l'.places ≡ l.places

same_takes : (l : Life) (end : End) → Same l (sweep_takes l end)
same_takes l ends.Goes = record { workers = record { stripes = refl; first = refl; key_limit = refl; jobs = refl; seen = refl }; places = refl }
same_takes l end = record { workers = record { stripes = refl; first = refl; key_limit = refl; jobs = refl; seen = refl }; places = refl }

same_begins : (l : Life) (o : Option Sweep) (m : Made) (end : End) → Same l (sweep_begins l o m end)
same_begins l None m end = record { workers = record { stripes = refl; first = refl; key_limit = refl; jobs = refl; seen = refl }; places = refl }
same_begins l (Some sweep) m end = same_takes l end

same_gives : (w : World) (l : Life) (sweep : Sweep) (end : End) → SameWorkers l (sweep_gives w l sweep end)
same_gives w l sweep ends.Goes = record { stripes = refl; first = refl; key_limit = refl; jobs = refl; seen = refl }
same_gives w l sweep (ends.Swept n) = record { stripes = refl; first = refl; key_limit = refl; jobs = refl; seen = refl }
same_gives w l sweep end = record { stripes = refl; first = refl; key_limit = refl; jobs = refl; seen = refl }

-- ---- what a step leaves, where the world's next life is told

module _ (laws : Laws) (w : World) (l : Life) (life : sim.Life) (old : Keeper Traced) (b : Book) (result : Result Swept Refusal) (m : Made)
    (a : IsLifeOf w old b life.jobs.items) (parts : Parts w l old b life.jobs.items) (s : Sweeps old life.keeper b life.words result m) where
  fits_old : Fits traced_states traced_honest b.stripes a.done old (record_of 64 b)
  fits_old = fits_now w old b life.jobs.items a s.free

  fits_new : FitsWalking traced_states traced_honest life.words.stripes a.done life.keeper (record_of 64 life.words)
  fits_new = subst (λ o. FitsBy o traced_states traced_honest life.words.stripes a.done life.keeper (record_of 64 life.words))
      (sym (ap (λ k. k.capture) s.steps.same ∙ s.free)) (s.fits a.done fits_old)

  told : telling.MakesStep w l (record_of 64 b) (record_of 64 life.words) (next_kind old.sweeper.sweep old.sweeper.walking) m
  told = step_told laws.free laws.held laws.sees b life.words w l (doings_of life.jobs.items) (next_kind old.sweeper.sweep old.sweeper.walking) m parts.workers_stand s.made
      (undrawn_kind old.sweeper.sweep old.sweeper.walking) s.one

  lives : (l' : Life) (swept : Option ℕ) → KeeperStands traced_states life.keeper (record_of 64 life.words) (with_life w l') l' → SameWorkers l l'
      → workers.Gathers b life.words w l l' swept → IsLifeOf (with_life w l') life.keeper life.words life.jobs.items
  lives l' swept stands same gathers = record {
    done = a.done;
    fits = fits_new;
    count = a.count;
    workers_stand = laws.moves b life.words w (with_life w l') l l' (doings_of life.jobs.items) swept parts.workers_stand
        (keeper_moves laws.stripe laws.counts b life.words w (with_life w l') l l' (doings_of life.jobs.items) (next_kind old.sweeper.sweep old.sweeper.walking) m a.done life.keeper
        parts.workers_stand s.made (undrawn_kind old.sweeper.sweep old.sweeper.walking) s.one s.apart fits_new stands refl same) gathers;
    keeper_stands = stands;
  }

  -- nothing came into hand
  none_taken : NoneTaken old.sweeper.walking result → (record_of 64 life.words).taken ≡ (record_of 64 b).taken
  none_taken = laws.none b.stripes a.done old life.keeper (record_of 64 b) (record_of 64 life.words) result fits_old s.steps

  -- ---- its first step

  none_at_rest : (v : Walking) → is_walking v ≡ false → NoneTaken v result
  none_at_rest walking.Rests is = tt
  none_at_rest walking.SweepTakes is = absurd cc
  none_at_rest (walking.SweepGives walk) is = absurd cc

  at_rest : is_walking old.sweeper.walking ≡ false → rests l.walk ≡ true
  at_rest is = laws.walk old (record_of 64 b) w l parts.keeper_stands ∙ ap (λ c. not (c || is_some old.capture)) is ∙ ap (λ o. not (is_some o)) s.free

  pub begins_did : is_walking old.sweeper.walking ≡ false → Did w event.Sweep (outcome.Stepped m (sweep_end result)) life
  begins_did is =
      let k : Answers traced_states life.keeper (record_of 64 life.words) w l event.Sweep (outcome.Stepped m (sweep_end result)) =
      laws.begins b.stripes a.done old life.keeper (record_of 64 b) (record_of 64 life.words) w l result m fits_old parts.keeper_stands (at_rest is) s.steps told in
      let same : Same l (sweep_begins l l.sweep m (sweep_end result)) = same_begins l l.sweep m (sweep_end result) in
      did w l event.Sweep (outcome.Stepped m (sweep_end result)) life parts.life tt (at_rest is) k.happens tt
      (lives (sweep_begins l l.sweep m (sweep_end result)) None k.stands same.workers (none_taken (none_at_rest old.sweeper.walking is), same.places))

  -- ---- and each that follows

  walks : is_walking old.sweeper.walking ≡ true → not (rests l.walk) ≡ true
  walks is = ap not (laws.walk old (record_of 64 b) w l parts.keeper_stands ∙ ap (λ c. not (c || is_some old.capture)) is)

  walk_is : (v : Walking) → old.sweeper.walking ≡ v → l.walk ≡ walking_shown v
  walk_is v is = parts.keeper_stands.walk ∙ ap (λ o. walk_by old.stripes.count old.sweeper.walking o (record_of 64 b)) s.free ∙ ap walking_shown is

  -- the life stands, whichever walk the step was of
  stepped : (l' : Life) (swept : Option ℕ) → is_walking old.sweeper.walking ≡ true → keeper_stepped w l l.walk m (sweep_end result) ≡ l' → SameWorkers l l'
      → workers.Gathers b life.words w l l' swept → Did w event.KeeperStep (outcome.Stepped m (sweep_end result)) life
  stepped l' swept is next same gathers =
      let k : Answers traced_states life.keeper (record_of 64 life.words) w l event.KeeperStep (outcome.Stepped m (sweep_end result)) =
      laws.steps b.stripes a.done old life.keeper (record_of 64 b) (record_of 64 life.words) w l result m fits_old parts.keeper_stands s.free is s.steps told in
      let stands : KeeperStands traced_states life.keeper (record_of 64 life.words) (with_life w l') l' =
      subst (λ v. KeeperStands traced_states life.keeper (record_of 64 life.words) (with_life w v) v) next k.stands in
      did w l event.KeeperStep (outcome.Stepped m (sweep_end result)) life parts.life tt (walks is) k.happens tt
      (subst (λ v. IsLifeOf (with_life w v) life.keeper life.words life.jobs.items) (sym next) (lives l' swept stands same gathers))

  takes_did : old.sweeper.walking ≡ walking.SweepTakes → is_walking old.sweeper.walking ≡ true → Did w event.KeeperStep (outcome.Stepped m (sweep_end result)) life
  takes_did at is =
      let same : Same l (sweep_takes l (sweep_end result)) = same_takes l (sweep_end result) in
      stepped (sweep_takes l (sweep_end result)) None is (ap (λ v. keeper_stepped w l v m (sweep_end result)) (walk_is walking.SweepTakes at)) same.workers
      (none_taken (subst (λ v. NoneTaken v result) (sym at) tt), same.places)

  -- ---- a GIVE

  -- where it stood, and what it did
  holding_at : (sweep : sweeper.Sweep) (walk : Walk) → old.sweeper.sweep ≡ Some sweep → old.sweeper.walking ≡ walking.SweepGives walk
      → IsHolding b.stripes sweep walk old.sweeper.in_hand (a.done ++ commands_of old.staged.items) (record_of 64 b)
  holding_at sweep walk at gives = subst (λ v. StandsBy b.stripes (Some sweep) v old.sweeper.in_hand (a.done ++ commands_of old.staged.items) (record_of 64 b)) gives
      (subst (λ o. StandsBy b.stripes o old.sweeper.walking old.sweeper.in_hand (a.done ++ commands_of old.staged.items) (record_of 64 b)) at fits_old.stands)

  gave : (sweep : sweeper.Sweep) (walk : Walk) (r : Result Swept Refusal) → result ≡ r → old.sweeper.sweep ≡ Some sweep → old.sweeper.walking ≡ walking.SweepGives walk
      → AfterGive b.stripes sweep walk old.sweeper.in_hand life.keeper.sweeper (record_of 64 b) (record_of 64 life.words) r
  gave sweep walk r is at gives =
      subst (λ r. AfterGive b.stripes sweep walk old.sweeper.in_hand life.keeper.sweeper (record_of 64 b) (record_of 64 life.words) r) is
      (subst (λ v. StepsOn b.stripes (Some sweep) v old.sweeper.in_hand life.keeper.sweeper (record_of 64 b) (record_of 64 life.words) result) gives
      (subst (λ o. StepsOn b.stripes o old.sweeper.walking old.sweeper.in_hand life.keeper.sweeper (record_of 64 b) (record_of 64 life.words) result) at s.steps.steps_on))

  -- the outbox of the stripe came into hand
  outbox_swept : (sweep : sweeper.Sweep) (walk : Walk) (r : Swept) (l' : Life) → result ≡ Ok r → old.sweeper.sweep ≡ Some sweep → old.sweeper.walking ≡ walking.SweepGives walk
      → DrainsStripe b.stripes sweep walk old.sweeper.in_hand life.keeper.sweeper (record_of 64 b) (record_of 64 life.words) → l'.places ≡ places_swept w l sweep.stripe
      → workers.Swept b life.words w l l' sweep.stripe
  outbox_swept sweep walk r l' is at gives drains places =
      let h = holding_at sweep walk at gives in
      let k : (holds : PassHolds (record_of 64 b) sweep.stripe) × ((record_of 64 life.words).taken ≡ (record_of 64 b).taken ++ holds.held.outbox) =
      laws.outbox b.stripes a.done old life.keeper (record_of 64 b) (record_of 64 life.words) sweep walk r fits_old
      (subst (λ r. StepsSweep b.stripes old life.keeper (record_of 64 b) (record_of 64 life.words) r) is s.steps) at gives (drains.outbox h.begun h.taken) in
      record { held = k.0.held; holding = k.0.holding; stripe_is = k.0.stripe_is; taken = k.1; places = places }

  gathered : (sweep : sweeper.Sweep) (walk : Walk) (r : Result Swept Refusal) → result ≡ r → old.sweeper.sweep ≡ Some sweep → old.sweeper.walking ≡ walking.SweepGives walk
      → (swept : Option ℕ) × workers.Gathers b life.words w l (sweep_gives w l (record { count = sweep.count; stripe = sweep.stripe }) (sweep_end r)) swept
  gathered sweep walk (Ok More) is at gives = (Some sweep.stripe, outbox_swept sweep walk More _ is at gives (gave sweep walk (Ok More) is at gives).drains refl)
  gathered sweep walk (Ok (Held i)) is at gives = absurd (gave sweep walk (Ok (Held i)) is at gives)
  gathered sweep walk (Ok (Done count)) is at gives =
      (Some sweep.stripe, outbox_swept sweep walk (Done count) _ is at gives (gave sweep walk (Ok (Done count)) is at gives).drains refl)
  gathered sweep walk (Err e) is at gives = (None, (none_taken (subst (λ v. NoneTaken v result) (sym gives) (subst (NoneTaken (walking.SweepGives walk)) (sym is) tt)), refl))

  gives_did : (o : Option sweeper.Sweep) (walk : Walk) → old.sweeper.sweep ≡ o → old.sweeper.walking ≡ walking.SweepGives walk → is_walking old.sweeper.walking ≡ true
      → Did w event.KeeperStep (outcome.Stepped m (sweep_end result)) life
  gives_did None walk at gives is =
      absurd (subst (λ v. StandsBy b.stripes None v old.sweeper.in_hand (a.done ++ commands_of old.staged.items) (record_of 64 b)) gives
      (subst (λ o. StandsBy b.stripes o old.sweeper.walking old.sweeper.in_hand (a.done ++ commands_of old.staged.items) (record_of 64 b)) at fits_old.stands))
  gives_did (Some sweep) walk at gives is =
      let v : Sweep = record { count = sweep.count; stripe = sweep.stripe } in
      let k = gathered sweep walk result refl at gives in
      stepped (sweep_gives w l v (sweep_end result)) k.0 is
      (ap (λ v. keeper_stepped w l v m (sweep_end result)) (walk_is (walking.SweepGives walk) gives)
      ∙ ap (λ o. sweep_gives w l (sweep_or o) (sweep_end result)) (parts.keeper_stands.sweep ∙ ap sweep_shown at))
      (same_gives w l v (sweep_end result)) k.1

  by_walk : (v : Walking) → old.sweeper.walking ≡ v → is_walking old.sweeper.walking ≡ true → Did w event.KeeperStep (outcome.Stepped m (sweep_end result)) life
  by_walk walking.Rests at is = absurd (let no : false ≡ true = sym (ap is_walking at) ∙ is in cc)
  by_walk walking.SweepTakes at is = takes_did at is
  by_walk (walking.SweepGives walk) at is = gives_did old.sweeper.sweep walk refl at is

  pub goes_on_did : is_walking old.sweeper.walking ≡ true → Did w event.KeeperStep (outcome.Stepped m (sweep_end result)) life
  goes_on_did is = by_walk old.sweeper.walking refl is
