use Rattle.std.specs.Prelude.{IfOk}
use Rattle.std.specs.List.{All}
use Rattle.std.specs.Vec.Iter.{into_iter_items}
use Rattle.stripe_locks.specs.Holding.{IsHeldOf}
use Rattle.stripe_locks.specs.Passes.{IsPassOf}
use Rattle.test_maps.proofs.threads.greatest_of.Given as goal

abbrev pub invariant-loop-held : goal.invariant-loop-held
invariant-loop-held l = IsPassOf l.stripes l.pass × All (λ answer. IfOk answer (IsHeldOf l.stripes)) (into_iter_items l.held-iterator)
