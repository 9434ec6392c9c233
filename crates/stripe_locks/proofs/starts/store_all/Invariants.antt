use Rattle.stripe_locks.specs.Placed.{AreStored}
use Rattle.stripe_locks.proofs.starts.store_all.Given as goal

abbrev pub invariant-loop-part : goal.invariant-loop-part
invariant-loop-part l = AreStored l.first l.yielded l.slots.items
