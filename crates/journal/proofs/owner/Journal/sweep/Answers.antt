use Rattle.std.proofs.Common.{ap, ◌∙◌}
use Rattle.flusher.specs.declared.keeper.Keeper.{Keeper}
use Rattle.journal.proofs.Resting.{of_rests, rests}
use Rattle.journal.proofs.owner.Journal.sweep.Goals as goal

pub invariant_of-self : goal.invariant_of-self
invariant_of-self g c =
    let old = c.self.inside in
    let t = c.sweep in
    let k = c.self.invariant.kept in
    let s = of_rests g.D.Disk.states g.D.Disk.honest g.S.Steps.stripe_count g.S.Steps.recorded old.keeper old.steps c.self.invariant in
    rests g.D.Disk.states g.D.Disk.honest g.S.Steps.stripe_count g.S.Steps.recorded t.new.self t.new.steps (k.0, t.ensures.fits k.0 k.1)
    (record { still = t.ensures.rests; over = ap (λ (x : Keeper g.row.D.Denot). x.capture) t.ensures.same ∙ s.over })
