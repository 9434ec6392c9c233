use Rattle.std.proofs.Common.{arith}
use Rattle.stripe_locks.proofs.Comparing.{allows_attest}
use Rattle.stripe_locks.proofs.stripes.Stripes.stands_in_one_history.Goals as goal

pub load-requires : goal.load-requires
load-requires c = (c.requires.own, omega (arith, c.args.self.now.words), allows_attest _ _ _ _ c.args.pass.now.enrolled)
