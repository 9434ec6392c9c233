use Rattle.std.proofs.Common.{◌≡◌}
use Rattle.flusher.specs.Fitting.{FitsOn, HasSeenMore, IsQuiet}
use Rattle.flusher.proofs.Counting.{IsUnderWay}
use Rattle.ticket_order.specs.StepRules.{IsOfSamePass}
use Rattle.flusher.proofs.keeper.Keeper.sweep.Given as goal

abbrev pub invariant-loop-step : goal.invariant-loop-step
invariant-loop-step g l = record {
  next : (goal.iterator-loop-step g).can_next l._step-iterator;
  finite : (goal.iterator-loop-step g).is_finite l._step-iterator;
  fits : FitsOn g.D.Disk.states g.D.Disk.honest g.S.Steps.stripe_count g.S.Steps.recorded l.initial.self l.initial.steps l.self l.steps;
  quiet : IsQuiet (g.S.Steps.recorded l.initial.steps) (g.S.Steps.recorded l.steps);
  under_way : IsUnderWay l.initial.self.sweeper.sweep l.self.sweeper.sweep (g.S.Steps.recorded l.initial.steps) (g.S.Steps.recorded l.steps);
  seen : HasSeenMore (g.S.Steps.recorded l.initial.steps) (g.S.Steps.recorded l.steps);
  same : l.self ≡ record l.initial.self { sweeper = l.self.sweeper };
  pass : IsOfSamePass g.S.Steps.place g.S.Steps.stripe_count l.initial.steps l.steps;
}
