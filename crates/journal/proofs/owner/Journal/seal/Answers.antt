use Rattle.journal.proofs.Resting.{of_rests, rests, sealed}
use Rattle.journal.proofs.owner.Journal.seal.Goals as goal

pub invariant_of-self : goal.invariant_of-self
invariant_of-self g c =
    let old = c.self.inside in
    let t = c.seal in
    let k = c.self.invariant.kept in
    let s = of_rests g.D.Disk.states g.D.Disk.honest g.S.Steps.stripe_count g.S.Steps.recorded old.keeper old.steps c.self.invariant in
    rests g.D.Disk.states g.D.Disk.honest g.S.Steps.stripe_count g.S.Steps.recorded t.new.keeper old.steps (k.0, t.ensures.fits _ k.0 _ k.1)
    (sealed old.keeper t.new.keeper s t.result t.ensures.ok t.ensures.err)
