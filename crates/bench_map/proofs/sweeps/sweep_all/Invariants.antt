use Rattle.std.proofs.Common.{◌≡◌, None, true}
use Rattle.ticket_order.specs.StepRules.{IsOfSamePass}
use Rattle.bench_map.proofs.sweeps.sweep_all.Given as goal

abbrev pub invariant-loop-stripe : goal.invariant-loop-stripe
invariant-loop-stripe g l = record {
  idle : (g.S.Steps.recorded l.steps).holding ≡ None;
  keeper : (g.S.Steps.recorded l.steps).keeper ≡ true;
  pass : IsOfSamePass g.S.Steps.place g.S.Steps.stripe_count l.initial.steps l.steps;
}
