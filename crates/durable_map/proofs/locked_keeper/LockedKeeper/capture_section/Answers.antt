use Rattle.std.proofs.Common.{ℕ, sym, subst}
use Rattle.stripe_locks.specs.Passes.{recorded}
use Rattle.durable_map.specs.LockedKeepers.{OnlyCaptures}
use Rattle.durable_map.proofs.Causes.{captured as captured_on}
use Rattle.durable_map.proofs.Between.{captured, of_kept}
use Rattle.durable_map.proofs.locked_keeper.LockedKeeper.capture_section.Goals as goal

pub invariant_of-self : goal.invariant_of-self
invariant_of-self g c =
    let old = c.self.inside in
    let k = c.self.invariant.0 in
    let t = c.try_capture-captured in
    let w = recorded t.new.self.steps.pass in
    let b = captured g.D.Disk.states g.D.Disk.honest _ _ old.journal.keeper t.new.self.keeper (recorded old.journal.steps.pass) w (of_kept g.D.Disk.states g.D.Disk.honest _ _ _ k) t.result t.ensures.ok t.ensures.err in
    let legal = subst (λ (m : ℕ). OnlyCaptures m w) (sym t.ensures.pass.1) b.captured in (
      c.what_is_kept.ensures legal (λ broken. b.sealed),
      captured_on _ _ old.journal.keeper t.new.self.keeper _ _ old.is_full c.self.invariant.1 t.result t.ensures.ok t.ensures.err,
    )
