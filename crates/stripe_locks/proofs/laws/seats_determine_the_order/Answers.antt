use Rattle.stripe_locks.proofs.LastSteps.{determined}
use Rattle.stripe_locks.proofs.laws.seats_determine_the_order.Goals as goal

pub returns : goal.returns
returns c = determined
