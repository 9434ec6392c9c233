-- A DURABLE and a FAIL: the keeper's pass makes one step, which leaves the workers as they stood.
use Rattle.std.proofs.Common.{◌≡◌, ℕ, ◌||◌, ◌&&◌, not, max, Bool, true, false, List, None, is_some, refl, sym, ◌∙◌, ap, subst}
use Rattle.map_types.specs.declared.commands.Command.{Command}
use Rattle.ticket_order.specs.declared.record.Record.{Record}
use Rattle.ticket_order.specs.declared.record.StepMade.{StepMade}
use Rattle.ticket_order.specs.Records.{failing, publishing}
use Rattle.ticket_order.specs.Walks.{Durable, Fail, kind_of}
use Rattle.one_history.specs.declared.book.Book.{Book}
use Rattle.one_history.specs.Moves.{BookMoves}
use Rattle.one_history.specs.OneHistory.{HoldApart, HoldsStripe, IsOneHistory}
use Rattle.one_history.specs.Turns.{record_of}
use Rattle.flusher.specs.declared.keeper.Keeper.{Keeper}
use Rattle.flusher.specs.Fitting.{Fits}
use Rattle.flusher.specs.KeeperSteps.{is_walking}
use Rattle.checkpoint_walk.specs.Walking.{FitsWalking}
use Rattle.sim_rules.specs.declared.event.Event.TheVariants as event
use Rattle.sim_rules.specs.declared.outcome.Outcome.TheVariants as outcome
use Rattle.sim_rules.specs.World.{World, Life, keeper_holds, rests}
use Rattle.sim_rules.specs.After.{with_life}
use Rattle.sim_rules.specs.Fitting.{fits_inside, fits_with}
use Rattle.sim_workers.specs.Laws.{KeeperSteps}
use Rattle.sim_workers.specs.Workers.{DrawsNone, WorkersStand}
use Rattle.sim_keeper.specs.Laws.{CountsAreTold, FailAnswers, PublishAnswers, WalkIsTold}
use Rattle.sim_keeper.specs.KeeperInWorld.{HasKeeper}
use Rattle.schedule_sim.specs.declared.traced.Traced.{Traced}
use Rattle.schedule_sim.specs.declared.job.Job.{Job}
use Rattle.schedule_sim.specs.declared.life.Life as sim
use Rattle.schedule_sim.specs.Tracing.{traced_states, traced_honest}
use Rattle.schedule_sim.specs.Living.{Did, IsLife, IsLifeOf}
use Rattle.schedule_sim.specs.Workers.{doings_of}
use Rattle.schedule_sim.proofs.LivesParts.{fits_now, life_there}
use Rattle.schedule_sim.proofs.Doing.{did, did_skip}
use Rattle.schedule_sim.proofs.KeeperTold.{undrawn}
use Rattle.schedule_sim.proofs.Quiet.{fits_between, none_held, rests_told}

-- ---- the step

pub undrawn_durable : (made : StepMade) → kind_of made ≡ Durable → DrawsNone made
undrawn_durable made is = undrawn made Durable is tt

pub undrawn_fail : (made : StepMade) → kind_of made ≡ Fail → DrawsNone made
undrawn_fail made is = undrawn made Fail is tt

-- What the step of the keeper's pass was, and that the words still have one history. It took no entry, and holds what it held.
pub record CountsOn (b b' : Book) : Type 0 where
  pub step : StepMade
  pub undrawn : DrawsNone step
  pub moved : BookMoves 64 step b b'
  pub one : IsOneHistory b'
  pub apart : HoldApart b'
  pub holding : (record_of 64 b').holding ≡ (record_of 64 b).holding
  pub taken : (record_of 64 b').taken ≡ (record_of 64 b).taken

-- The words were lent to the keeper's pass, which is the one after the 64 workers'.
pub lent_record : (f : Record → Record) (pass pass' : ℕ) (lent b b' : Book) → lent ≡ b → pass ≡ 64 → pass' ≡ pass
    → record_of pass' b' ≡ f (record_of pass lent) → record_of 64 b' ≡ f (record_of 64 b)
lent_record f pass pass' lent b b' same is stays e =
    ap (λ j. record_of j b') (sym (stays ∙ is)) ∙ e ∙ ap (λ j. f (record_of j lent)) is ∙ ap (λ x. f (record_of 64 x)) same

pub lent_moves : (pass : ℕ) (made : StepMade) (lent b b' : Book) → lent ≡ b → pass ≡ 64 → BookMoves pass made lent b' → BookMoves 64 made b b'
lent_moves pass made lent b b' same is moved = subst (λ x. BookMoves 64 made x b') same (subst (λ j. BookMoves j made lent b') is moved)

pub lent_fits : (pass pass' : ℕ) (lent b b' : Book) (keeper new : Keeper Traced) (done : List Command) → lent ≡ b → pass ≡ 64 → pass' ≡ pass
    → (Fits traced_states traced_honest lent.stripes done keeper (record_of pass lent)
    → Fits traced_states traced_honest b'.stripes done new (record_of pass' b'))
    → Fits traced_states traced_honest b.stripes done keeper (record_of 64 b) → Fits traced_states traced_honest b'.stripes done new (record_of 64 b')
lent_fits pass pass' lent b b' keeper new done same is stays goes fit =
    subst (λ j. Fits traced_states traced_honest b'.stripes done new (record_of j b')) (stays ∙ is)
    (goes (subst (λ j. Fits traced_states traced_honest lent.stripes done keeper (record_of j lent)) (sym is) (subst
    (λ x. Fits traced_states traced_honest x.stripes done keeper (record_of 64 x)) (sym same) fit)))

-- the pass holds the same stripe as before
holds_still : (b b' : Book) (i : ℕ) → CountsOn b b' → HoldsStripe b 64 i → HoldsStripe b' 64 i
holds_still b b' i k h = record { within = rw k.moved.passes h.within; has = rw k.holding h.has }

held_still : (b b' : Book) (i : ℕ) → CountsOn b b' → HoldsStripe b' 64 i → HoldsStripe b 64 i
held_still b b' i k h = record { within = rw (sym k.moved.passes) h.within; has = rw (sym k.holding) h.has }

-- ---- the life

pub counts_on : (w : World) (l l' : Life) (keeper new : Keeper Traced) (b b' : Book) (jobs : List Job) → KeeperSteps
    → CountsAreTold traced_states traced_honest
    → (a : IsLifeOf w keeper b jobs) → WorkersStand b w l (doings_of jobs) → CountsOn b b' → rests l.walk ≡ true
    → l'.stripes ≡ l.stripes → l'.first ≡ l.first → l'.key_limit ≡ l.key_limit → l'.jobs ≡ l.jobs → l'.seen ≡ l.seen → l'.places ≡ l.places → l'.walk ≡ l.walk
    → FitsWalking traced_states traced_honest b'.stripes a.done new (record_of 64 b') → HasKeeper traced_states new (record_of 64 b') (with_life w l')
    → IsLifeOf (with_life w l') new b' jobs
counts_on w l l' keeper new b b' jobs steps told a workers k resting stripes first limit same_jobs same_seen places walk fits stands =
    let counts = told b'.stripes a.done new (record_of 64 b') (with_life w l') l' fits stands in
    record {
      done = a.done;
      fits = fits;
      count = a.count;
      workers_stand = steps b b' w (with_life w l') l l' (doings_of jobs) None workers
          (record {
            step = k.step;
            undrawn = k.undrawn;
            moved = k.moved;
            one = k.one;
            apart = k.apart;
            history = refl;
            stripes = stripes;
            first = first;
            key_limit = limit;
            jobs = same_jobs;
            seen = same_seen;
            durable = counts.0;
            has_failed = counts.1;
            held = λ i. (
              λ is. holds_still b b' i k ((workers.held i).0 (sym (none_held l l' l.walk i resting) ∙ ap (λ v. keeper_holds l' i v) (sym walk) ∙ is)),
              λ has. ap (λ v. keeper_holds l' i v) walk ∙ none_held l l' l.walk i resting ∙ (workers.held i).1 (held_still b b' i k has),
            );
          })
          (k.taken, places);
      keeper_stands = stands;
    }

-- ---- a FAIL

pub fails : (w : World) (life new : sim.Life) (answer : Bool) → WalkIsTold traced_states → CountsAreTold traced_states traced_honest
    → FailAnswers traced_states → KeeperSteps
    → answer ≡ (is_walking life.keeper.sweeper.walking || is_some life.keeper.capture) → answer ≡ false → life.keeper.capture ≡ None
    → CountsOn life.words new.words → record_of 64 new.words ≡ failing (record_of 64 life.words) → new.keeper ≡ record life.keeper { has_failed = true }
    → ((done : List Command) → Fits traced_states traced_honest life.words.stripes done life.keeper (record_of 64 life.words)
    → Fits traced_states traced_honest new.words.stripes done new.keeper (record_of 64 new.words))
    → new.jobs.items ≡ life.jobs.items → IsLife w life → Did w event.Fail outcome.FailMade new
fails w life new answer told counts law steps is rested none k record_is keeper_is refits jobs a =
    let there = life_there w life.keeper life.words life.jobs.items a in
    let l : Life = there.0 in
    let fit = fits_now w life.keeper life.words life.jobs.items a none in
    let none' : new.keeper.capture ≡ None = ap (λ keeper. keeper.capture) keeper_is ∙ none in
    let resting : rests l.walk ≡ true = rests_told l life.keeper answer false (told life.keeper
    (record_of 64 life.words) w l there.1.keeper_stands) is rested in
    let answers = law life.keeper new.keeper (record_of 64 life.words) w l there.1.keeper_stands keeper_is in
    did w l event.Fail outcome.FailMade new there.1.life tt resting answers.happens tt
    (rw jobs (counts_on w l (record l { has_failed = true }) life.keeper new.keeper life.words new.words life.jobs.items steps counts a
    there.1.workers_stand k resting refl refl refl refl refl refl refl
    (fits_between new.words.stripes a.done new.keeper new.words none' (refits a.done fit))
    (subst (λ p. HasKeeper traced_states new.keeper p (with_life w (record l { has_failed = true }))) (sym record_is) answers.stands)))

-- ---- a DURABLE

not_true : (a b : Bool) → b ≡ true → (a && not b) ≡ false
not_true true true is = refl
not_true false true is = refl
not_true a false is = absurd (let no : false ≡ true = is in cc)

and_false : (a b : Bool) → a ≡ false → (a && b) ≡ false
and_false false b is = refl
and_false true b is = absurd (let no : true ≡ false = is in cc)

and_true : (a b : Bool) → a ≡ true → b ≡ false → (a && not b) ≡ true
and_true true false is e = refl
and_true true true is e = absurd (let no : true ≡ false = e in cc)
and_true false b is e = absurd (let no : false ≡ true = is in cc)

-- while the keeper walks none fits
pub unfit_walking : (l : Life) → rests l.walk ≡ false → fits_inside l event.Publish ≡ false
unfit_walking l is = and_false (rests l.walk) (not l.has_failed) is

-- and after a FAIL none
pub failed_skip : (w : World) (life : sim.Life) → life.keeper.has_failed ≡ true → IsLife w life → Did w event.Publish outcome.Skipped life
failed_skip w life failed a =
    let there = life_there w life.keeper life.words life.jobs.items a in
    let l : Life = there.0 in
    did_skip w event.Publish life (ap (λ o. fits_with o event.Publish) there.1.life ∙ not_true (rests l.walk) l.has_failed
    (there.1.keeper_stands.has_failed ∙ failed)) a

pub publishes : (w : World) (life new : sim.Life) (answer : Bool) (count : ℕ) → WalkIsTold traced_states → CountsAreTold traced_states traced_honest
    → PublishAnswers traced_states traced_honest → KeeperSteps
    → answer ≡ (is_walking life.keeper.sweeper.walking || is_some life.keeper.capture) → answer ≡ false → life.keeper.capture ≡ None
    → life.keeper.has_failed ≡ false
    → CountsOn life.words new.words → record_of 64 new.words ≡ publishing (record_of 64 life.words) life.keeper.log.committed
    → new.keeper ≡ record life.keeper { published = life.keeper.log.committed }
    → ((done : List Command) → Fits traced_states traced_honest life.words.stripes done life.keeper (record_of 64 life.words)
    → Fits traced_states traced_honest new.words.stripes done new.keeper (record_of 64 new.words))
    → count ≡ new.keeper.log.committed → new.jobs.items ≡ life.jobs.items → IsLife w life → Did w event.Publish (outcome.Published count) new
publishes w life new answer count told counts law steps is rested none works k record_is keeper_is refits count_is jobs a =
    let there = life_there w life.keeper life.words life.jobs.items a in
    let l : Life = there.0 in
    let n : ℕ = life.keeper.log.committed in
    let fit = fits_now w life.keeper life.words life.jobs.items a none in
    let none' : new.keeper.capture ≡ None = ap (λ keeper. keeper.capture) keeper_is ∙ none in
    let same : count ≡ n = count_is ∙ ap (λ keeper. keeper.log.committed) keeper_is in
    let resting : rests l.walk ≡ true = rests_told l life.keeper answer false (told life.keeper
    (record_of 64 life.words) w l there.1.keeper_stands) is rested in
    let answers = law life.words.stripes a.done life.keeper new.keeper (record_of 64 life.words) w l fit there.1.keeper_stands keeper_is in
    subst (λ x. Did w event.Publish (outcome.Published x) new) (sym same)
    (did w l event.Publish (outcome.Published n) new there.1.life tt (and_true (rests l.walk) l.has_failed resting
    (there.1.keeper_stands.has_failed ∙ works)) answers.happens tt
    (rw jobs (counts_on w l (record l { durable = max l.durable n }) life.keeper new.keeper life.words new.words life.jobs.items steps counts a
    there.1.workers_stand k resting refl refl refl refl refl refl refl
    (fits_between new.words.stripes a.done new.keeper new.words none' (refits a.done fit))
    (subst (λ p. HasKeeper traced_states new.keeper p (with_life w (record l { durable = max l.durable n }))) (sym record_is) answers.stands))))
