use Rattle.std.proofs.Common.{ap}
use Rattle.flusher.specs.declared.keeper.Keeper.{Keeper}
use Rattle.journal.proofs.Resting.{of_rests, rests, unmoved}
use Rattle.journal.proofs.owner.Journal.write_ahead.Goals as goal

pub invariant_of-self : goal.invariant_of-self
invariant_of-self g c =
    let old = c.self.inside in
    let t = c.write_ahead in
    let k = c.self.invariant.kept in
    let s = of_rests g.D.Disk.states g.D.Disk.honest g.S.Steps.stripe_count g.S.Steps.recorded old.keeper old.steps c.self.invariant in
    rests g.D.Disk.states g.D.Disk.honest g.S.Steps.stripe_count g.S.Steps.recorded t.new.self old.steps (k.0, t.ensures.fits _ k.0 _ k.1)
    (unmoved old.keeper t.new.self s (ap (λ (x : Keeper g.row.D.Denot). x.sweeper.walking) t.ensures.same) (ap (λ (x : Keeper g.row.D.Denot). x.capture) t.ensures.same))
