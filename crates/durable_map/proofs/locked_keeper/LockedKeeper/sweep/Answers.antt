use Rattle.std.proofs.Common.{ℕ, sym, ap, subst, ◌∙◌}
use Rattle.stripe_locks.specs.Passes.{recorded}
use Rattle.durable_map.specs.LockedKeepers.{OnlyCaptures}
use Rattle.flusher.specs.declared.keeper.Keeper.{Keeper}
use Rattle.durable_map.proofs.Causes.{kept}
use Rattle.durable_map.proofs.Between.{of_kept, swept}
use Rattle.durable_map.proofs.locked_keeper.LockedKeeper.sweep.Goals as goal

pub invariant_of-self : goal.invariant_of-self
invariant_of-self g c =
    let old = c.self.inside in
    let k = c.self.invariant.0 in
    let t = c.try_sweep-swept in
    let s = t.ensures.same in
    let w = recorded t.new.self.steps.pass in
    let b = swept g.D.Disk.states g.D.Disk.honest _ _ old.journal.keeper t.new.self.keeper (recorded old.journal.steps.pass) w (of_kept g.D.Disk.states g.D.Disk.honest _ _ _ k) t.result t.ensures.ok t.ensures.err s in
    let legal = subst (λ (m : ℕ). OnlyCaptures m w) (sym t.ensures.pass.1) b.captured in (
      c.what_is_kept.ensures legal (λ broken. b.sealed),
      kept old.journal.keeper t.new.self.keeper old.is_full (ap (λ (x : Keeper g.row.D.Denot). x.has_failed) s) (λ broken. ap (λ (x : Keeper g.row.D.Denot). x.is_broken) s ∙ broken) c.self.invariant.1,
    )
