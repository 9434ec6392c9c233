use Rattle.journal.proofs.Resting.{of_rests, rests, captured}
use Rattle.journal.proofs.owner.Journal.try_capture.Goals as goal

pub invariant_of-self : goal.invariant_of-self
invariant_of-self g c =
    let old = c.self.inside in
    let t = c.try_capture in
    let k = c.self.invariant.kept in
    let s = of_rests g.D.Disk.states g.D.Disk.honest g.S.Steps.stripe_count g.S.Steps.recorded old.keeper old.steps c.self.invariant in
    rests g.D.Disk.states g.D.Disk.honest g.S.Steps.stripe_count g.S.Steps.recorded t.new.keeper t.new.steps (k.0, t.ensures.fits k.0 k.1)
    (captured old.keeper t.new.keeper s _ c.args.stripe _ _ t.result t.ensures.ok t.ensures.err)

pub returns-clause-given : goal.returns-clause-given
returns-clause-given g c =
    let k = c.self.invariant.kept in
    rw (← c.self.view_is) (λ sections honest given. c.try_capture.ensures.given k.0 sections k.1 honest given)
