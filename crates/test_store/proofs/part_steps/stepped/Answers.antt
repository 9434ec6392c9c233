use Rattle.std.proofs.Common.{◌++◌}
use Rattle.view_walk.specs.Walking.{lent_sections}
use Rattle.test_store.proofs.part_steps.stepped.Goals as goal

pub returns-in-More-clause-fits : goal.returns-in-More-clause-fits
returns-in-More-clause-fits c =
    let k = c.requires.fits in
    (k.0, k.1 ++ lent_sections c.args.walk, rw c.in-More.is at (c.in_ok-next.ensures.next k.0 k.1 k.2))
