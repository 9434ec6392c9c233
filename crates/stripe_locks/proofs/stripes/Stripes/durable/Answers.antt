use Rattle.std.proofs.Common.{arith}
use Rattle.stripe_locks.proofs.Stepping.{allows_publish}
use Rattle.stripe_locks.proofs.stripes.Stripes.durable.Goals as goal

pub fetch_max-requires : goal.fetch_max-requires
fetch_max-requires c = (c.requires.own, omega (arith, c.args.self.now.words), allows_publish _ _ _ _ _ c.args.pass.now.enrolled c.requires.fits)
