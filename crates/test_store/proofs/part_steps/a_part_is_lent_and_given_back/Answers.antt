use Rattle.std.proofs.Common.{[]}
use Rattle.stripe_locks.specs.Passes.{recorded}
use Rattle.durable_map.proofs.Viewing.{some_stripes}
use Rattle.test_store.proofs.part_steps.a_part_is_lent_and_given_back.Goals as goal

pub stepped-requires-clause-fits : goal.stepped-requires-clause-fits
stepped-requires-clause-fits g c = (recorded c.in_ok-pass.pass, [], c.new.ensures.fits _ _ (some_stripes c.in_ok-map.map) c.in_ok-pass.ensures.ready.free)

pub parts_step-ended-requires-clause-fits : goal.parts_step-ended-requires-clause-fits
parts_step-ended-requires-clause-fits g c =
    let k = c.in_ok-walk-5.ensures.fits in
    (k.0, k.1, c.give_back-walk.ensures.fits _ _ _ _ k.2)
