use Rattle.std.proofs.Common.{ap, ◌∙◌}
use Rattle.flusher.specs.declared.keeper.Keeper.{Keeper}
use Rattle.flusher.specs.Fitting.{done_after}
use Rattle.journal.proofs.Resting.{of_rests, rests, past}
use Rattle.journal.proofs.owner.Journal.advance.Goals as goal

pub invariant_of-self : goal.invariant_of-self
invariant_of-self g c =
    let old = c.self.inside in
    let t = c.advance in
    let k = c.self.invariant.kept in
    let s = of_rests g.D.Disk.states g.D.Disk.honest g.S.Steps.stripe_count g.S.Steps.recorded old.keeper old.steps c.self.invariant in
    rests g.D.Disk.states g.D.Disk.honest g.S.Steps.stripe_count g.S.Steps.recorded t.new.self old.steps (done_after t.result old.keeper.log.phase k.0 old.keeper.staged.items, t.ensures.fits _ k.0 _ k.1)
    (record { still = past old.keeper t.new.self t.result t.ensures.hand t.ensures.kept s.still; over = ap (λ (x : Keeper g.row.D.Denot). x.capture) t.ensures.same ∙ s.over })
