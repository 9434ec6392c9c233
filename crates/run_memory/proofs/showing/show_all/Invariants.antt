use Rattle.std.proofs.Common.{◌≡◌, None}
use Rattle.run_memory.proofs.showing.show_all.Given as goal

abbrev pub invariant-loop-stripe : goal.invariant-loop-stripe
invariant-loop-stripe g l = record {
  idle : (g.S.Steps.recorded l.steps).holding ≡ None;
  count : g.S.Steps.stripe_count l.initial.steps ≡ g.S.Steps.stripe_count l.steps;
}
