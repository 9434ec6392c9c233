use Rattle.std.proofs.Common.{arith}
use Rattle.stripe_locks.proofs.Stepping.{allows_see}
use Rattle.stripe_locks.proofs.stripes.Stripes.see.Goals as goal

pub load-count-requires : goal.load-count-requires
load-count-requires c = (c.requires.own, omega (arith, c.args.self.now.words), allows_see _ _ _ _ c.args.pass.now.enrolled)
