use Rattle.flusher.specs.Fitting.{HasSeenMore, IsQuiet}
use Rattle.cmd_mem.specs.Served.{IsIdle}
use Rattle.ticket_order.specs.StepRules.{IsOfSamePass}
use Rattle.cmd_mem.proofs.committing.commit_in_time.Given as goal

abbrev pub invariant-loop-turn : goal.invariant-loop-turn
invariant-loop-turn g l = record {
  next : (goal.iterator-loop-turn g).can_next l._turn-iterator;
  finite : (goal.iterator-loop-turn g).is_finite l._turn-iterator;
  idle : IsIdle l.journal.keeper;
  quiet : IsQuiet (g.S.Steps.recorded l.initial.journal.steps) (g.S.Steps.recorded l.journal.steps);
  seen : HasSeenMore (g.S.Steps.recorded l.initial.journal.steps) (g.S.Steps.recorded l.journal.steps);
  pass : IsOfSamePass g.S.Steps.place g.S.Steps.stripe_count l.initial.journal.steps l.journal.steps;
}
