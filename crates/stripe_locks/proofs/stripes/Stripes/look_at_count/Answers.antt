use Rattle.std.proofs.Common.{arith}
use Rattle.stripe_locks.proofs.Stepping.{allows_look}
use Rattle.stripe_locks.proofs.stripes.Stripes.look_at_count.Goals as goal

pub load-count-requires : goal.load-count-requires
load-count-requires c = (c.requires.own, omega (arith, c.args.self.now.words), allows_look _ _ _ _ c.args.pass.now.enrolled)
