-- A DURABLE and a FAIL.
use Rattle.std.proofs.Common.{◌≤◌, List, refl, sym, ◌∙◌, subst, arith}
use Rattle.ticket_order.specs.Records.{failing, publishing}
use Rattle.disk_model.specs.Files.{Files}
use Rattle.flusher.specs.declared.keeper.Keeper.{Keeper}
use Rattle.sim_rules.specs.declared.event.Event.TheVariants as event
use Rattle.sim_rules.specs.declared.outcome.Outcome.TheVariants as outcome
use Rattle.sim_keeper.specs.Laws.{FailAnswers, PublishAnswers}
use Rattle.sim_keeper.specs.KeeperInWorld.{Answers}
use Rattle.sim_keeper.proofs.Moved.{same_walk}

pub publish_answers : {D : Type 0} (states : D → List Files) (honest : D → Type 0) → PublishAnswers states honest
publish_answers {D} states honest n done old new p w l f s is =
    subst (λ (k : Keeper D). Answers states k (publishing p old.log.committed) w l event.Publish (outcome.Published old.log.committed)) (sym is) (record {
      happens = sym s.committed;
      stands = record {
        life = refl;
        files = s.files;
        history = record { first = s.history.first; within = s.history.within; opening = s.history.opening; unseen = s.history.unseen; added = s.history.added };
        stripes = s.stripes;
        sweep = s.sweep;
        walk = s.walk ∙ same_walk old.stripes.count old.sweeper.walking old.capture p (publishing p old.log.committed) refl;
        committed = s.committed;
        durable = let most : old.published ≤ old.log.committed = f.tells.durable in omega (arith, s.durable, most);
        has_failed = s.has_failed;
        is_broken = s.is_broken;
        store = λ works. let k = s.store works in record { log = k.log; newest = k.newest; layout = k.layout; gate = k.gate; sealed = k.sealed; checkpoint = k.checkpoint; both = k.both };
        staged = s.staged;
      };
    })

pub fail_answers : {D : Type 0} (states : D → List Files) → FailAnswers states
fail_answers {D} states old new p w l s is =
    subst (λ (k : Keeper D). Answers states k (failing p) w l event.Fail outcome.FailMade) (sym is) (record {
      happens = refl;
      stands = record {
        life = refl;
        files = s.files;
        history = record { first = s.history.first; within = s.history.within; opening = s.history.opening; unseen = s.history.unseen; added = s.history.added };
        stripes = s.stripes;
        sweep = s.sweep;
        walk = s.walk ∙ same_walk old.stripes.count old.sweeper.walking old.capture p (failing p) refl;
        committed = s.committed;
        durable = s.durable;
        has_failed = refl;
        is_broken = s.is_broken;
        store = λ works. let k = s.store works in record { log = k.log; newest = k.newest; layout = k.layout; gate = k.gate; sealed = k.sealed; checkpoint = k.checkpoint; both = k.both };
        staged = s.staged;
      };
    })
