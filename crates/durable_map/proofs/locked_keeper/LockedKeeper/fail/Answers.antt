use Rattle.std.proofs.Common.{inl, inr, ℕ, ap, sym, subst, ◌∙◌}
use Rattle.flusher.specs.declared.keeper.Keeper.{Keeper}
use Rattle.stripe_locks.specs.Passes.{recorded}
use Rattle.durable_map.specs.LockedKeepers.{OnlyCaptures}
use Rattle.durable_map.proofs.Causes.{fails}
use Rattle.durable_map.proofs.Between.{of_kept, failed}
use Rattle.durable_map.proofs.locked_keeper.LockedKeeper.fail.Goals as goal
use Rattle.durable_map.proofs.locked_keeper.LockedKeeper.fail.Goals.{then-keeper-via-else-keeper+then-self, then-keeper-via-then-keeper}

pub invariant_of-self : goal.invariant_of-self
invariant_of-self g c =
    let old = c.self.inside in
    let k = c.self.invariant.0 in
    let t = c.fail in
    let w = recorded t.new.self.steps.pass in
    let b = failed g.D.Disk.states g.D.Disk.honest _ old.journal.keeper t.new.self.keeper (recorded old.journal.steps.pass) w (of_kept g.D.Disk.states g.D.Disk.honest _ _ _ k) t.ensures.failed.0 t.ensures.failed.1 in
    let legal = subst (λ (m : ℕ). OnlyCaptures m w) (sym t.ensures.pass.1) b.captured in (
      c.what_is_kept.ensures legal (λ broken. b.sealed),
      fails old.journal.keeper t.new.self.keeper old.is_full t.ensures.failed.1
          (elim c.then-keeper.branch [ then-keeper-via-then-keeper w ↦ inl (sym (ap (λ (x : Keeper g.row.D.Denot). x.is_broken) c.keeper.ensures) ∙ w.if-keeper.true) | then-keeper-via-else-keeper+then-self w ↦ inr w.if-self.true ]),
    )
