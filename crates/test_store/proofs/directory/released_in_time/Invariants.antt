use Rattle.durable_map.specs.Maps.{IsHeldOf, IsPassOf}
use Rattle.test_store.proofs.directory.released_in_time.Given as goal

abbrev pub invariant-loop-turn : goal.invariant-loop-turn
invariant-loop-turn g l = IsPassOf l.map l.pass × IsHeldOf l.map l.waiting
