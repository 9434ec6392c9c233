use Rattle.std.proofs.Common.{ℕ, refl, ap, sym, subst}
use Rattle.stripe_locks.specs.Passes.{recorded}
use Rattle.durable_map.specs.LockedKeepers.{OnlyCaptures}
use Rattle.journal.specs.declared.own_steps.OwnSteps.{OwnSteps}
use Rattle.durable_map.proofs.Causes.{published as published_on}
use Rattle.durable_map.proofs.Between.{of_kept, published}
use Rattle.durable_map.proofs.locked_keeper.LockedKeeper.publish.Goals as goal

pub invariant_of-self : goal.invariant_of-self
invariant_of-self g c =
    let old = c.self.inside in
    let k = c.self.invariant.0 in
    let t = c.publish in
    let w = recorded t.new.self.steps.pass in
    let b = published g.D.Disk.states g.D.Disk.honest _ old.journal.keeper t.new.self.keeper (recorded old.journal.steps.pass) w (of_kept g.D.Disk.states g.D.Disk.honest _ _ _ k) _ refl t.ensures.published (λ over. let stays = t.ensures.failed over in (ap (λ (x : OwnSteps). recorded x.pass) stays.0, stays.1)) in
    let legal = subst (λ (m : ℕ). OnlyCaptures m w) (sym t.ensures.pass.1) b.captured in (
      c.what_is_kept.ensures legal (λ broken. b.sealed),
      published_on old.journal.keeper t.new.self.keeper old.is_full _ refl (λ works. (t.ensures.published works).1) (λ over. (t.ensures.failed over).1) c.self.invariant.1,
    )
