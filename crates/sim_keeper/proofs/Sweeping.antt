-- A step of a sweep.
use Rattle.std.proofs.Common.{◌≡◌, ℕ, ◌+◌, List, [], ◌∷◌, ◌++◌, Option, Some, None, true, false, Result, Ok, Err, refl, sym, ◌∙◌, ap, subst, arith}
use Rattle.std.proofs.lemmas.List.{same_from_push}
use Rattle.map_types.specs.declared.commands.Command.{Command}
use Rattle.map_types.specs.declared.refusals.Refusal.{Refusal}
use Rattle.map_types.specs.declared.refusals.Refusal.TheVariants as refusal
use Rattle.ticket_order.specs.declared.record.Record.{Record}
use Rattle.ticket_order.specs.declared.record.StepMade.{StepMade}
use Rattle.ticket_order.specs.declared.record.StepMade.TheVariants.{Looked}
use Rattle.ticket_order.specs.declared.walk.Walk.{Walk}
use Rattle.ticket_order.specs.Records.{looking, reach}
use Rattle.ticket_order.specs.Walks.{Take, Give, Look}
use Rattle.disk_model.specs.Files.{Files}
use Rattle.gate_log.specs.States.{commands_of}
use Rattle.flusher.specs.declared.keeper.Keeper.{Keeper}
use Rattle.flusher.specs.declared.sweeper.Sweep as sweeper
use Rattle.flusher.specs.declared.sweeper.Swept.{Swept}
use Rattle.flusher.specs.declared.sweeper.Swept.TheVariants.{More, Held, Done}
use Rattle.flusher.specs.declared.sweeper.Walking.{Walking}
use Rattle.flusher.specs.declared.sweeper.Walking.TheVariants as walking
use Rattle.flusher.specs.Fitting.{Fits}
use Rattle.flusher.specs.KeeperSteps.{is_walking}
use Rattle.flusher.specs.Sweeping.{AfterGive, AfterTake, BeginsSweep as Begins, StandsBy, StepsOn, next_kind}
use Rattle.sim_rules.specs.declared.outcome.End.TheVariants as ends
use Rattle.sim_rules.specs.declared.outcome.Made.{Made}
use Rattle.sim_rules.specs.declared.outcome.Made.TheVariants as told
use Rattle.sim_rules.specs.World.{World, Life, KeeperWalk, Place, Rests, Sweep, SweepTakes, SweepGives, rests, sweep_or}
use Rattle.sim_rules.specs.After.{keeper_stepped, sweep_begins, sweep_gives, sweep_takes, with_life}
use Rattle.sim_rules.specs.Cases.{BeginsSweep, GivesSwept, StepsKeeper, TakesForSweep}
use Rattle.sim_keeper.specs.Laws.{SweepAnswers, SweepStepAnswers}
use Rattle.sim_keeper.specs.Showing.{sweep_shown, walk_by, walking_shown}
use Rattle.sim_keeper.specs.KeeperInWorld.{HasKeeper, KeeperStands, SeesHistory}
use Rattle.sim_keeper.specs.Telling.{AgreesWith, MakesStep, sweep_end}
use Rattle.sim_keeper.proofs.Moved.{same_history}
use Rattle.sim_keeper.proofs.Staging.{no_walk}
use Rattle.sim_keeper.proofs.WalkSteps.{give_told, look_told, missed, swept_took, take_told, took}

module _ {D : Type 0} (states : D → List Files) (honest : D → Type 0) (n : ℕ) (done : List Command) (old new : Keeper D) (p q : Record) (w : World) (l : Life)
    (f : Fits states honest n done old p) (s : KeeperStands states old p w l) (free : old.capture ≡ None) (seen : SeesHistory q w l) (same : new ≡ record old { sweeper = new.sweeper }) where
  -- how the keeper stands with another sweep
  swept : (places : List Place) (sweep : Option Sweep) (walk : KeeperWalk) → sweep ≡ sweep_shown new.sweeper.sweep → walk ≡ walking_shown new.sweeper.walking
      → HasKeeper states new q (with_life w (record l { places = places; sweep = sweep; walk = walk }))
  swept places sweep walk sweep_is walk_is =
      let m : Life = record l { places = places; sweep = sweep; walk = walk } in
      subst (λ k. HasKeeper states k q (with_life w m)) (sym same) (record {
        life = refl;
        files = s.files;
        history = same_history q q w (with_life w m) l m refl refl refl refl seen;
        stripes = s.stripes;
        sweep = sweep_is;
        walk = walk_is ∙ sym (ap (λ o. walk_by old.stripes.count new.sweeper.walking o q) free);
        committed = s.committed;
        durable = s.durable;
        has_failed = s.has_failed;
        is_broken = s.is_broken;
        store = λ works. let k = s.store works in record { log = k.log; newest = k.newest; layout = k.layout; gate = k.gate; sealed = k.sealed; checkpoint = k.checkpoint; both = k.both };
        staged = s.staged;
      })

  -- ---- its LOOK

  looks : (result : Result Swept Refusal) (m : Made) → Begins old.sweeper.in_hand new.sweeper p q result → MakesStep w l p q Look m → (o : Option Sweep) → o ≡ None → l.sweep ≡ o
      → BeginsSweep w l o m (sweep_end result) × HasKeeper states new q (with_life w (sweep_begins l o m (sweep_end result)))
  looks result m b t None e is =
      let k = look_told t.step m t.kind_is t.told_is in
      let count : b.count ≡ k.0 = b.looks.count_is ∙ looked (same_from_push p.steps p.steps (Looked (reach q)) t.step (sym (steps_are b.looks.between b.looks.is) ∙ t.steps)).1 k.1 in
      let agrees : AgreesWith w l (told.Looked k.0) = subst (AgreesWith w l) k.2 t.agrees in
      subst (λ r. BeginsSweep w l None m (sweep_end r) × HasKeeper states new q (with_life w (sweep_begins l None m (sweep_end r)))) (sym b.answer)
      (subst (λ m. BeginsSweep w l None m ends.Goes × HasKeeper states new q (with_life w (sweep_begins l None m ends.Goes))) (sym k.2) (
        agrees,
        swept l.places (Some (record { count = k.0; stripe = 0 })) SweepTakes
            (sym (ap sweep_shown b.sweep_is ∙ ap (λ c. let v : Sweep = record { count = c; stripe = 0 } in Some v) count)) (sym (ap walking_shown b.walking)),
      ))
    where
      looked : {a b : ℕ} {step : StepMade} → Looked a ≡ step → step ≡ Looked b → a ≡ b
      looked e g = cc

      steps_are : (between : List Command) → q ≡ looking p between → q.steps ≡ p.steps ++ Looked (reach q) ∷ []
      steps_are between is = subst (λ (x : Record). x.steps ≡ p.steps ++ Looked (reach x) ∷ []) (sym is) refl
  looks result m b t (Some sweep) e is = absurd cc

  -- ---- a TAKE

  takes : (sweep : sweeper.Sweep) (result : Result Swept Refusal) (m : Made) → AfterTake n sweep old.sweeper.in_hand new.sweeper p q result → MakesStep w l p q (Take sweep.stripe) m
      → l.sweep ≡ Some (record { count = sweep.count; stripe = sweep.stripe }) → TakesForSweep l sweep.stripe m (sweep_end result) × HasKeeper states new q (with_life w (sweep_takes l (sweep_end result)))
  takes sweep (Ok More) m a t is =
      let k = take_told t.step sweep.stripe m t.kind_is t.told_is in
      let es = swept_took n p sweep.stripe a.walk q a.taken in
      let found : m ≡ told.Took sweep.stripe = took p q.steps t.step sweep.stripe m k t.steps es.0 es.1 es.2 in (
        subst (λ m. TakesForSweep l sweep.stripe m ends.Goes) (sym found) (refl, subst (AgreesWith w l) found t.agrees),
        swept l.places l.sweep SweepGives (is ∙ sym (ap sweep_shown a.sweep_is)) (sym (ap walking_shown a.walking)),
      )
  takes sweep (Ok (Held i)) m a t is =
      let k = take_told t.step sweep.stripe m t.kind_is t.told_is in
      let found : m ≡ told.FoundHeld sweep.stripe = missed p q.steps t.step sweep.stripe m k t.steps (ap (λ (x : Record). x.steps) a.is) in (
        subst (λ m. TakesForSweep l sweep.stripe m (ends.SweepHeld i)) (sym found) (refl, a.stripe, subst (AgreesWith w l) found t.agrees),
        swept l.places l.sweep Rests (is ∙ sym (ap sweep_shown a.sweep_is)) (sym (ap walking_shown a.walking)),
      )
  takes sweep (Ok (Done count)) m a t is = absurd a
  takes sweep (Err e) m a t is = absurd a

  -- ---- a GIVE

  gives : (sweep : sweeper.Sweep) (walk : Walk) (result : Result Swept Refusal) (m : Made) → AfterGive n sweep walk old.sweeper.in_hand new.sweeper p q result → MakesStep w l p q (Give sweep.stripe) m
      → (v : Sweep) → v ≡ record { count = sweep.count; stripe = sweep.stripe } → l.sweep ≡ Some v → GivesSwept l v m (sweep_end result) × HasKeeper states new q (with_life w (sweep_gives w l v (sweep_end result)))
  gives sweep walk (Ok More) m a t v v_is is =
      let gave : m ≡ told.Gave sweep.stripe = give_told t.step sweep.stripe m t.kind_is t.told_is in
      let stripe : sweep.stripe ≡ v.stripe = ap (λ (x : Sweep). x.stripe) (sym v_is) in (
        subst (λ m. GivesSwept l v m ends.Goes) (sym gave) (stripe, omega (arith, a.more, stripe, s.stripes, f.stripes.count)),
        swept _ _ SweepTakes (ap (λ (x : Sweep). let y : Sweep = record { count = x.count; stripe = x.stripe + 1 } in Some y) v_is ∙ sym (ap sweep_shown a.sweep_is)) (sym (ap walking_shown a.walking)),
      )
  gives sweep walk (Ok (Held i)) m a t v v_is is = absurd a
  gives sweep walk (Ok (Done count)) m a t v v_is is =
      let gave : m ≡ told.Gave sweep.stripe = give_told t.step sweep.stripe m t.kind_is t.told_is in
      let stripe : sweep.stripe ≡ v.stripe = ap (λ (x : Sweep). x.stripe) (sym v_is) in (
        subst (λ m. GivesSwept l v m (ends.Swept count)) (sym gave) (stripe, (let last : sweep.stripe + 1 ≡ n = a.last in omega (arith, last, stripe, s.stripes, f.stripes.count)), a.count_is ∙ ap (λ (x : Sweep). x.count) (sym v_is)),
        swept _ None Rests (sym (ap sweep_shown a.sweep_is)) (sym (ap walking_shown a.walking)),
      )
  gives sweep walk (Err e) m a t v v_is is =
      let gave : m ≡ told.Gave sweep.stripe = give_told t.step sweep.stripe m t.kind_is t.told_is in
      let stripe : sweep.stripe ≡ v.stripe = ap (λ (x : Sweep). x.stripe) (sym v_is) in
      subst (λ e. GivesSwept l v m (ends.Refused e) × HasKeeper states new q (with_life w (sweep_gives w l v (ends.Refused e)))) (sym a.refused) (
        subst (λ m. GivesSwept l v m (ends.Refused refusal.NoMemory)) (sym gave) stripe,
        swept l.places l.sweep Rests (is ∙ ap Some v_is ∙ sym (ap sweep_shown a.sweep_is)) (sym (ap walking_shown a.walking)),
      )

  -- ---- the first step of a sweep

  begins : (o : Option sweeper.Sweep) (v : Walking) (result : Result Swept Refusal) (m : Made) → is_walking v ≡ false → StepsOn n o v old.sweeper.in_hand new.sweeper p q result → MakesStep w l p q (next_kind o v) m
      → l.sweep ≡ sweep_shown o → BeginsSweep w l l.sweep m (sweep_end result) × HasKeeper states new q (with_life w (sweep_begins l l.sweep m (sweep_end result)))
  begins None v result m rest on t is = looks result m on t l.sweep is refl
  begins (Some sweep) walking.Rests result m rest on t is =
      subst (λ o. BeginsSweep w l o m (sweep_end result) × HasKeeper states new q (with_life w (sweep_begins l o m (sweep_end result)))) (sym is) (takes sweep result m on t is)
  begins (Some sweep) walking.SweepTakes result m rest on t is = absurd cc
  begins (Some sweep) (walking.SweepGives walk) result m rest on t is = absurd cc

  -- ---- and each that follows

  steps : (o : Option sweeper.Sweep) (v : Walking) (gone : List Command) (result : Result Swept Refusal) (m : Made) → is_walking v ≡ true → StandsBy n o v old.sweeper.in_hand gone p
      → StepsOn n o v old.sweeper.in_hand new.sweeper p q result → MakesStep w l p q (next_kind o v) m → l.sweep ≡ sweep_shown o
      → StepsKeeper w l (walking_shown v) m (sweep_end result) × HasKeeper states new q (with_life w (keeper_stepped w l (walking_shown v) m (sweep_end result)))
  steps None walking.Rests gone result m walks stands on t is = absurd cc
  steps None walking.SweepTakes gone result m walks stands on t is = absurd stands
  steps None (walking.SweepGives walk) gone result m walks stands on t is = absurd stands
  steps (Some sweep) walking.Rests gone result m walks stands on t is = absurd cc
  steps (Some sweep) walking.SweepTakes gone result m walks stands on t is =
      let k = takes sweep result m on t is in
      (subst (λ i. TakesForSweep l i m (sweep_end result)) (sym (ap (λ o. (sweep_or o).stripe) is)) k.0, k.1)
  steps (Some sweep) (walking.SweepGives walk) gone result m walks stands on t is = gives sweep walk result m on t (sweep_or l.sweep) (ap sweep_or is) (is ∙ sym (ap (λ o. Some (sweep_or o)) is))

pub sweep_answers : {D : Type 0} (states : D → List Files) (honest : D → Type 0) → SweepAnswers states honest
sweep_answers {D} states honest n done old new p q w l result m f s rests_ on t =
    let still = no_walk old.stripes.count old.sweeper.walking old.capture p (sym (ap rests s.walk) ∙ rests_) in
    let k = begins states honest n done old new p q w l f s still.1 t.history on.same old.sweeper.sweep old.sweeper.walking result m still.0 on.steps_on t s.sweep in
    record { happens = k.0; stands = k.1 }

pub sweep_step_answers : {D : Type 0} (states : D → List Files) (honest : D → Type 0) → SweepStepAnswers states honest
sweep_step_answers {D} states honest n done old new p q w l result m f s free walks on t =
    let k = steps states honest n done old new p q w l f s free t.history on.same old.sweeper.sweep old.sweeper.walking (done ++ commands_of old.staged.items) result m walks f.stands on.steps_on t s.sweep in
    let is : l.walk ≡ walking_shown old.sweeper.walking = s.walk ∙ ap (λ o. walk_by old.stripes.count old.sweeper.walking o p) free in
    record {
      happens = subst (λ v. StepsKeeper w l v m (sweep_end result)) (sym is) k.0;
      stands = subst (λ v. HasKeeper states new q (with_life w (keeper_stepped w l v m (sweep_end result)))) (sym is) k.1;
    }
