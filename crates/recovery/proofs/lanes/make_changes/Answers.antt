use Rattle.std.proofs.Common.{take, ap, sym, ◌∙◌}
use Rattle.map_model.specs.Maps.{Map}
use Rattle.map_model.specs.Steps.{map_after, step}
use Rattle.atomic_methods.specs.Prepared.{acted}
use Rattle.recovery.specs.declared.due.Due.{Due}
use Rattle.recovery.specs.Lanes.{commands_due}
use Rattle.recovery.proofs.CountingLemmas.{take_next}
use Rattle.recovery.proofs.LaneLemmas.{made_next}
use Rattle.recovery.proofs.lanes.make_changes.Goals as goal

pub loop-change-preserved : goal.loop-change-preserved
loop-change-preserved c =
    let inv = c.loop-change.invariant in
    let changes = c.args.changes.now in
    let change : Due = c.change-item.result in
    let more = take_next changes c.loop-change.change-index change c.loop-change-test.true c.change-item.is in
    let made = c.act.ensures.map ∙ ap (λ (x : Map). acted x c.in_ok-prepared.prepared.change) c.prepare_hashed.ensures.content ∙ c.in_ok-prepared.ensures.ok.map in
    record {
      map = made ∙ ap (λ (x : Map). (step x change.command).map) inv.map
          ∙ sym (ap (λ l. map_after c.args.part.now.map (commands_due l)) more ∙ made_next c.args.part.now.map (take c.loop-change.change-index changes) change);
      stripes = ap (λ growth. growth.stripes) c.act.ensures.growth ∙ c.prepare_hashed.ensures.stripes ∙ inv.stripes;
    }
