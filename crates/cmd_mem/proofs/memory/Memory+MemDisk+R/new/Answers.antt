use Rattle.std.proofs.Common.{◌≡◌, ◌∙◌, ℕ, sym, ap, subst}
use Rattle.std.specs.Arc.{arc_value}
use Rattle.ticket_order.specs.declared.record.Opening.{Opening}
use Rattle.stripe_locks.specs.Passes.{begun_with, stripe_count}
use Rattle.flusher.specs.Fitting.{IsKept, IsUnused}
use Rattle.disk_model.specs.declared.memory.MemDisk.{MemDisk}
use Rattle.disk_model.specs.Memory.{memory_states}
use Rattle.cmd_mem.proofs.memory.Memory+MemDisk+R.new.Goals as goal

pub over-requires-clause-fits : goal.over-requires-clause-fits
over-requires-clause-fits g c = λ p opening unused.
    let shared = arc_value c.in-Ok.stripes in
    let stripes = c.in_ok-keeper.stripes in
    let same : shared ≡ stripes = c.in-Ok.ensures.ok in
    let at : begun_with shared ≡ begun_with stripes = ap begun_with same in
    let count : stripe_count shared ≡ 16 = ap stripe_count same ∙ c.in_ok-keeper.ensures.stripes in
    subst (λ (n : ℕ). IsKept memory_states (λ (disk : MemDisk). Unit {0}) n c.in_ok-keeper.keeper p) (sym count)
    (c.in_ok-keeper.ensures.kept p (opening ∙ at) (subst (λ (o : Opening). IsUnused o.first o.key_limit p) at unused))
