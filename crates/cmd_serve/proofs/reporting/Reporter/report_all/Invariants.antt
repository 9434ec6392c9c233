use Rattle.durable_map.specs.Maps.{IsReady}
use Rattle.cmd_serve.proofs.reporting.Reporter.report_all.Given as goal

abbrev pub invariant-loop-turn : goal.invariant-loop-turn
invariant-loop-turn g l = record {
  next : (goal.iterator-loop-turn g).can_next l._turn-iterator;
  finite : (goal.iterator-loop-turn g).is_finite l._turn-iterator;
  ready : IsReady l.map l.pass;
}
