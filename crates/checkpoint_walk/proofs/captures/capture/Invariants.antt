use Rattle.std.proofs.Common.{◌≡◌, ◌⊎◌}
use Rattle.flusher.specs.Fitting.{FitsOn}
use Rattle.checkpoint_walk.specs.Walking.{HasWaited, MayCapture}
use Rattle.ticket_order.specs.StepRules.{IsOfSamePass}
use Rattle.checkpoint_walk.proofs.captures.capture.Given as goal

abbrev pub invariant-loop-try : goal.invariant-loop-try
invariant-loop-try g l = record {
  next : (goal.iterator-loop-try g).can_next l._try-iterator;
  finite : (goal.iterator-loop-try g).is_finite l._try-iterator;
  keeper : l.keeper ≡ l.initial.keeper;
  waited : HasWaited l.stripe (g.S.Steps.recorded l.initial.steps) (g.S.Steps.recorded l.steps);
  first : (l.steps ≡ l.initial.steps) ⊎ MayCapture l.stripe l.initial.keeper;
  fits : FitsOn g.D.Disk.states g.D.Disk.honest g.S.Steps.stripe_count g.S.Steps.recorded l.initial.keeper l.initial.steps l.keeper l.steps;
  pass : IsOfSamePass g.S.Steps.place g.S.Steps.stripe_count l.initial.steps l.steps;
}
