use Rattle.std.proofs.Common.{arith, ap, refl}
use Rattle.stripe_locks.proofs.Seats.{enters, enrolls}
use Rattle.stripe_locks.proofs.Turning.{M}
use Rattle.stripe_locks.proofs.stripes.Stripes.pass.Goals as goal

pub load_new_seat-found-requires : goal.load_new_seat-found-requires
load_new_seat-found-requires c = (omega (arith, c.args.self.now.words), enters _ _)

pub compare_exchange-now-requires : goal.compare_exchange-now-requires
compare_exchange-now-requires c = (c.loop-turn.invariant.0, omega (arith, c.args.self.now.words), enrolls _ _ _ _ _ _ c.if-passes-ge-MOST_PASSES.false refl (ap (λ (m : M). m.0) c.loop-turn.invariant.1))
