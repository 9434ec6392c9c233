use Rattle.durable_map.specs.Maps.{IsReady}
use Rattle.test_store.proofs.views.put_in_twos.Given as goal

abbrev pub invariant-loop-place : goal.invariant-loop-place
invariant-loop-place l = IsReady l.map l.pass
