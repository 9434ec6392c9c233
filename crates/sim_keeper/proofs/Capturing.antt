-- The TAKE of a capture, and its refusal.
use Rattle.std.proofs.Common.{◌≡◌, ◌≢◌, ◌⊎◌, inl, inr, ℕ, ◌+◌, List, Option, Some, None, true, false, Result, Ok, Err, refl, sym, ◌∙◌, ap, subst}
use Rattle.std.proofs.lemmas.Bool.{false_from_ne_true, true_from_ne_false}
use Rattle.map_types.specs.declared.commands.Command.{Command}
use Rattle.map_types.specs.declared.refusals.Refusal.{Refusal}
use Rattle.map_types.specs.declared.refusals.Refusal.TheVariants as refusal
use Rattle.ticket_order.specs.declared.record.Record.{Record}
use Rattle.ticket_order.specs.declared.walk.Walk.{Walk}
use Rattle.ticket_order.specs.Records.{reach}
use Rattle.ticket_order.specs.Walks.{Look, Take, next_kind}
use Rattle.disk_model.specs.Files.{Files, now}
use Rattle.store_layout.specs.Checkpoints.{checkpoint_file}
use Rattle.flusher.specs.declared.keeper.Keeper.{Keeper}
use Rattle.flusher.specs.Fitting.{Fits, store_of}
use Rattle.checkpoint_walk.specs.Checkpointing.{IsNextStripe}
use Rattle.checkpoint_walk.specs.Walking.{AfterStep, AfterTake, StaysAt}
use Rattle.sim_rules.specs.declared.event.Event.TheVariants as event
use Rattle.sim_rules.specs.declared.outcome.End.TheVariants as ends
use Rattle.sim_rules.specs.declared.outcome.Made.{Made}
use Rattle.sim_rules.specs.declared.outcome.Made.TheVariants as told
use Rattle.sim_rules.specs.declared.outcome.Outcome.TheVariants as outcome
use Rattle.sim_rules.specs.World.{World, Life, CaptureLooks, rests}
use Rattle.sim_rules.specs.After.{capture_takes, with_life}
use Rattle.sim_rules.specs.Cases.{BeginsCapture, TakesForCall, may_capture}
use Rattle.sim_keeper.specs.Laws.{CaptureAnswers, CaptureRefuses}
use Rattle.sim_keeper.specs.Promises.{StepsCapture}
use Rattle.sim_keeper.specs.Showing.{capture_shown}
use Rattle.sim_keeper.specs.KeeperInWorld.{Answers, HasKeeper, KeeperStands, SeesHistory}
use Rattle.sim_keeper.specs.Telling.{AgreesWith, MakesStep, capture_end}
use Rattle.sim_keeper.proofs.Deciding.{two_ways}
use Rattle.sim_keeper.proofs.Moved.{inside, same_history, same_walk}
use Rattle.sim_keeper.proofs.NextStripe.{may_by, next_by}
use Rattle.sim_keeper.proofs.Sealing.{stripes_by, under_way}
use Rattle.sim_keeper.proofs.Staging.{no_walk}
use Rattle.sim_keeper.proofs.WalkSteps.{capture_took, missed, take_told, took}

module _ {D : Type 0} (states : D → List Files) (honest : D → Type 0) (n : ℕ) (done : List Command) (stripe : ℕ) (old new : Keeper D) (p q : Record) (w : World) (l : Life)
    (f : Fits states honest n done old p) (h : honest old.disk) (s : KeeperStands states old p w l) (free : old.capture ≡ None) where
  may_next : old.is_broken ≡ false → IsNextStripe stripe old.next old.checkpoint → may_capture l l.checkpoint stripe ≡ true
  may_next works k = may_by l (now (states old.disk)) n (s.stripes ∙ f.stripes.count) stripe old.checkpoint l.checkpoint old.next (s.store works).checkpoint (stripes_by n old f.stripes) k

  next_may : old.is_broken ≡ false → may_capture l l.checkpoint stripe ≡ true → IsNextStripe stripe old.next old.checkpoint
  next_may works e =
      let holds = f.stores.works works h in
      next_by l (now (states old.disk)) n (s.stripes ∙ f.stripes.count) stripe old.checkpoint l.checkpoint old.next old.must_close (s.store works).checkpoint (stripes_by n old f.stripes)
      (λ v is. under_way old.checkpoint (store_of old) holds.held (now (states old.disk) (checkpoint_file (old.sealed + 1))) v is holds.stands.kept.writer) (s.store works).both e

  -- ---- its TAKE

  after_taken : (walk : Walk) → next_kind n walk ≡ Look → SeesHistory q w l → new ≡ record old { capture = Some walk } → HasKeeper states new q (with_life w (record l { walk = CaptureLooks }))
  after_taken walk looks seen is =
      let m : Life = record l { walk = CaptureLooks } in
      subst (λ k. HasKeeper states k q (with_life w m)) (sym is) (record {
        life = refl;
        files = s.files;
        history = same_history q q w (with_life w m) l m refl refl refl refl seen;
        stripes = s.stripes;
        sweep = s.sweep;
        walk = sym (ap (λ k. capture_shown (next_kind k walk) (reach q)) f.stripes.count ∙ ap (λ k. capture_shown k (reach q)) looks);
        committed = s.committed;
        durable = s.durable;
        has_failed = s.has_failed;
        is_broken = s.is_broken;
        store = λ works. let k = s.store works in record { log = k.log; newest = k.newest; layout = k.layout; gate = k.gate; sealed = k.sealed; checkpoint = k.checkpoint; both = k.both };
        staged = s.staged;
      })

  after_missed : SeesHistory q w l → reach q ≡ reach p → new ≡ old → HasKeeper states new q (with_life w l)
  after_missed seen same is = subst (λ k. HasKeeper states k q (with_life w l)) (sym is) (record {
    life = refl;
    files = s.files;
    history = same_history q q w (with_life w l) l l refl refl refl refl seen;
    stripes = s.stripes;
    sweep = s.sweep;
    walk = s.walk ∙ same_walk old.stripes.count old.sweeper.walking old.capture p q (sym same);
    committed = s.committed;
    durable = s.durable;
    has_failed = s.has_failed;
    is_broken = s.is_broken;
    store = s.store;
    staged = s.staged;
  })

  takes : (result : Result (Option ℕ) Refusal) (m : Made) → AfterTake n stripe old new p q result → MakesStep w l p q (Take stripe) m → result ≢ Err refusal.Failed → result ≢ Err refusal.WrongPhase
      → TakesForCall l stripe m (capture_end result) × HasKeeper states new q (with_life w (capture_takes l (capture_end result)))
  takes (Ok None) m a t works right =
      let k = take_told t.step stripe m t.kind_is t.told_is in
      let es = capture_took n p stripe a.walk q a.taken in
      let found : m ≡ told.Took stripe = took p q.steps t.step stripe m k t.steps es.0 es.1 es.2 in
      (subst (λ m. TakesForCall l stripe m ends.Goes) (sym found) (refl, subst (AgreesWith w l) found t.agrees), after_taken a.walk a.taken.next t.history a.is)
  takes (Ok (Some mark)) m a t works right = absurd a
  takes (Err (refusal.Busy i)) m a t works right =
      let k = take_told t.step stripe m t.kind_is t.told_is in
      let found : m ≡ told.FoundHeld stripe = missed p q.steps t.step stripe m k t.steps (ap (λ (x : Record). x.steps) a.missed) in
      (subst (λ m. TakesForCall l stripe m (ends.Refused (refusal.Busy i))) (sym found) (refl, a.stripe_is, subst (AgreesWith w l) found t.agrees), after_missed t.history (ap reach a.missed) a.is)
  takes (Err refusal.Failed) m a t works right = absurd (works refl)
  takes (Err refusal.WrongPhase) m a t works right = absurd (right refl)
  takes (Err e) m a t works right = absurd a

  begins : (result : Result (Option ℕ) Refusal) (m : Made) → AfterTake n stripe old new p q result → StepsCapture states honest n stripe old new p q result → MakesStep w l p q (Take stripe) m → result ≢ Err refusal.Failed → result ≢ Err refusal.WrongPhase
      → Answers states new q w l (event.Capture stripe) (outcome.Stepped m (capture_end result))
  begins result m a on t no_failure right =
      let works : old.is_broken ≡ false = false_from_ne_true old.is_broken (λ broken. no_failure (on.failed.1 (free, broken))) in
      let may : may_capture l l.checkpoint stripe ≡ true = true_from_ne_false (may_capture l l.checkpoint stripe) (λ not_. right (on.wrong_phase.1 (free, works, λ k. two_ways (may_capture l l.checkpoint stripe) (may_next works k) not_))) in
      let k = takes result m a t no_failure right in
      record { happens = (s.is_broken ∙ works, may, k.0); stands = k.1 }

  -- ---- its refusal

  stays : StaysAt old new p q → HasKeeper states new q w
  stays k = subst (λ x. HasKeeper states x q w) (sym k.keeper) (subst (λ r. HasKeeper states old r w) (sym k.record_is) (inside states old p w l s))

  refuses : (e : Refusal) → (e ≡ refusal.Failed) ⊎ (e ≡ refusal.WrongPhase) → AfterTake n stripe old new p q (Err e) → StepsCapture states honest n stripe old new p q (Err e) → Answers states new q w l (event.Capture stripe) (outcome.Refused e)
  refuses e (inl is) a on =
      record { happens = subst (λ x. BeginsCapture l stripe (outcome.Refused x)) (sym is) (s.is_broken ∙ (on.failed.0 (ap Err is)).1); stands = stays (subst (λ x. AfterTake n stripe old new p q (Err x)) is a) }
  refuses e (inr is) a on =
      let wrong = on.wrong_phase.0 (ap Err is) in
      record {
        happens = subst (λ x. BeginsCapture l stripe (outcome.Refused x)) (sym is) (s.is_broken ∙ wrong.1, false_from_ne_true (may_capture l l.checkpoint stripe) (λ may. wrong.2 (next_may wrong.1 may)));
        stands = stays (subst (λ x. AfterTake n stripe old new p q (Err x)) is a);
      }

pub capture_answers : {D : Type 0} (states : D → List Files) (honest : D → Type 0) → CaptureAnswers states honest
capture_answers {D} states honest n done stripe old new p q w l result m f h s rests_ on no_failure right t =
    let still = no_walk old.stripes.count old.sweeper.walking old.capture p (sym (ap rests s.walk) ∙ rests_) in
    begins states honest n done stripe old new p q w l f h s still.1 result m (subst (λ o. AfterStep n stripe o old new p q result) still.1 on.after) on t no_failure right

pub capture_refuses : {D : Type 0} (states : D → List Files) (honest : D → Type 0) → CaptureRefuses states honest
capture_refuses {D} states honest n done stripe old new p q w l e f h s rests_ on is =
    let still = no_walk old.stripes.count old.sweeper.walking old.capture p (sym (ap rests s.walk) ∙ rests_) in
    refuses states honest n done stripe old new p q w l f h s still.1 e is (subst (λ o. AfterStep n stripe o old new p q (Err e)) still.1 on.after) on
