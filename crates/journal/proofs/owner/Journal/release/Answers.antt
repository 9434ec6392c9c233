use Rattle.std.proofs.Common.{ℕ, sym, subst, ◌∙◌}
use Rattle.flusher.specs.Fitting.{IsKept}
use Rattle.journal.proofs.Releasing.{released}
use Rattle.journal.proofs.Resting.{of_rests, rests}
use Rattle.journal.proofs.owner.Journal.release.Goals as goal

pub invariant_of-self : goal.invariant_of-self
invariant_of-self g c =
    let old = c.self.inside in
    let t = c.release in
    let k = c.self.invariant.kept in
    let p = g.S.Steps.recorded old.steps in
    let w = g.S.Steps.recorded t.new.steps in
    let on = released _ _ p w t.result t.ensures.released in
    let free = on.holding ∙ c.pass_goes_on.ensures.free _ k.0 p k.1 c.self.invariant.still in
    rests g.D.Disk.states g.D.Disk.honest g.S.Steps.stripe_count g.S.Steps.recorded old.keeper t.new.steps
    (subst (λ (m : ℕ). IsKept g.D.Disk.states g.D.Disk.honest m old.keeper w) (sym t.ensures.pass.1)
    (k.0, c.pass_goes_on.ensures.fits _ k.0 p k.1 c.self.invariant.still w on.on.beside free))
    (of_rests g.D.Disk.states g.D.Disk.honest g.S.Steps.stripe_count g.S.Steps.recorded old.keeper old.steps c.self.invariant)
