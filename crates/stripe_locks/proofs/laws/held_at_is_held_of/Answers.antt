use Rattle.stripe_locks.proofs.Naming.{held_of}
use Rattle.stripe_locks.proofs.laws.held_at_is_held_of.Goals as goal

pub returns : goal.returns
returns c = λ stripes held k. held_of stripes held k
