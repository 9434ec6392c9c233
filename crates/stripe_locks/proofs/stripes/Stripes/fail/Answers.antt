use Rattle.std.proofs.Common.{arith}
use Rattle.stripe_locks.proofs.Stepping.{allows_fail}
use Rattle.stripe_locks.proofs.stripes.Stripes.fail.Goals as goal

pub store-requires : goal.store-requires
store-requires c = (c.requires.own, omega (arith, c.args.self.now.words), allows_fail _ _ _ _ c.args.pass.now.enrolled c.requires.by_keeper)
