use Rattle.durable_map.specs.Maps.{IsReady}
use Rattle.test_store.proofs.views.the_threshold_changes_no_answer.Given as goal

abbrev pub invariant-loop-wanted : goal.invariant-loop-wanted
invariant-loop-wanted g l = IsReady l.map l.pass
