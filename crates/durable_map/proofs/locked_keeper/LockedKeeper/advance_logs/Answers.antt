use Rattle.std.proofs.Common.{refl, ap, ◌∙◌}
use Rattle.flusher.specs.declared.keeper.Keeper.{Keeper}
use Rattle.durable_map.proofs.Causes.{kept}
use Rattle.durable_map.proofs.Sections.{of_same_steps}
use Rattle.durable_map.proofs.Sealed.{logs_stepped}
use Rattle.durable_map.proofs.locked_keeper.LockedKeeper.advance_logs.Goals as goal

pub invariant_of-self : goal.invariant_of-self
invariant_of-self g c =
    let old = c.self.inside in
    let k = c.self.invariant.0 in
    let t = c.advance-stepped in
    let s = t.ensures.same in
    let legal = of_same_steps old.journal.steps t.new.self.steps t.ensures.pass k.captured in (
      c.what_is_kept.ensures legal
          (logs_stepped g.D.Disk.states g.D.Disk.failures g.D.Disk.honest old.journal.keeper t.new.self.keeper t.result _ refl t.ensures.failed t.ensures.rests t.ensures.steps t.ensures.committed t.ensures.works (ap (λ (x : Keeper g.row.D.Denot). x.sealed) s) k.sealed),
      kept old.journal.keeper t.new.self.keeper old.is_full (ap (λ (x : Keeper g.row.D.Denot). x.has_failed) s) (λ broken. ap (λ (x : Keeper g.row.D.Denot). x.is_broken) (t.ensures.failed broken).1 ∙ broken) c.self.invariant.1,
    )
