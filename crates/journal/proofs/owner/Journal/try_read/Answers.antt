use Rattle.std.proofs.Common.{ℕ, sym, subst}
use Rattle.flusher.specs.Fitting.{IsKept}
use Rattle.journal.proofs.Resting.{of_rests, rests}
use Rattle.journal.proofs.owner.Journal.try_read.Goals as goal

pub look_up-requires : goal.look_up-requires
look_up-requires g c =
    let k = c.self.invariant.kept in
    record { free = c.pass_goes_on.ensures.free _ k.0 _ k.1 c.self.invariant.still }

pub invariant_of-self : goal.invariant_of-self
invariant_of-self g c =
    let old = c.self.inside in
    let t = c.look_up in
    let k = c.self.invariant.kept in
    let w = g.S.Steps.recorded t.new.steps in
    rests g.D.Disk.states g.D.Disk.honest g.S.Steps.stripe_count g.S.Steps.recorded old.keeper t.new.steps
    (subst (λ (m : ℕ). IsKept g.D.Disk.states g.D.Disk.honest m old.keeper w) (sym t.ensures.pass.1)
    (k.0, c.pass_goes_on.ensures.fits _ k.0 _ k.1 c.self.invariant.still w t.ensures.beside t.ensures.free))
    (of_rests g.D.Disk.states g.D.Disk.honest g.S.Steps.stripe_count g.S.Steps.recorded old.keeper old.steps c.self.invariant)
