use Rattle.stripe_locks.proofs.LastSteps.{stand_last}
use Rattle.stripe_locks.proofs.laws.new_steps_stand_last.Goals as goal

pub returns : goal.returns
returns c = stand_last
