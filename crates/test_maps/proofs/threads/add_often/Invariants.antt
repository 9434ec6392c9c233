use Rattle.std.proofs.Common.{◌≡◌, None}
use Rattle.stripe_locks.specs.Passes.{recorded, IsPassOf}
use Rattle.test_maps.proofs.threads.add_often.Given as goal

abbrev pub invariant-loop-turn : goal.invariant-loop-turn
invariant-loop-turn g l = IsPassOf l.stripes l.pass × ((recorded l.pass).holding ≡ None)
