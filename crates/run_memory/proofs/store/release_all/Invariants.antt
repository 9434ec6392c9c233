use Rattle.std.specs.List.{All}
use Rattle.std.specs.Vec.Iter.{into_iter_items}
use Rattle.stripe_locks.specs.Holding.{IsHeldOf}
use Rattle.stripe_locks.specs.Passes.{IsPassOf}
use Rattle.run_memory.proofs.store.release_all.Given as goal

abbrev pub invariant-loop-held : goal.invariant-loop-held
invariant-loop-held l = IsPassOf l.stripes l.pass × All (IsHeldOf l.stripes) (into_iter_items l.held-iterator) × All (IsHeldOf l.stripes) l.waiting.items
