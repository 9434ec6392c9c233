use Rattle.journal.proofs.Resting.{of_rests, rests, set_ahead}
use Rattle.journal.proofs.owner.Journal.set_ahead.Goals as goal

pub invariant_of-self : goal.invariant_of-self
invariant_of-self g c =
    let old = c.self.inside in
    let t = c.set_ahead in
    let k = c.self.invariant.kept in
    let s = of_rests g.D.Disk.states g.D.Disk.honest g.S.Steps.stripe_count g.S.Steps.recorded old.keeper old.steps c.self.invariant in
    rests g.D.Disk.states g.D.Disk.honest g.S.Steps.stripe_count g.S.Steps.recorded t.new.self old.steps (k.0, t.ensures.fits _ k.0 _ k.1)
    (set_ahead old.keeper t.new.self s c.args.count t.result t.ensures.ok t.ensures.err)
