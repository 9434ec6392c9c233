use Rattle.std.proofs.Common.{◌∙◌, ap, sym}
use Rattle.sim_script.specs.Spans.{stray_steps}
use Rattle.sim_script.proofs.Taking.{all_taken}
use Rattle.sim_script.proofs.script.Script.take_back_steps.Goals as goal

pub returns-clause-events : goal.returns-clause-events
returns-clause-events c =
    let found = ap (λ spans. stray_steps 0 spans c.args.outcomes.now) (sym c.as_slice.ensures.value) ∙ (sym c.stray_steps.ensures ∙ c.in-Some.is) in
    all_taken c.args.self.now.spans.items c.args.outcomes.now c.in-Some.first c.in-Some.behind c.places.place _ _ found c.places-test.false c.places.auto.place-end c.places.invariant.0
