use Rattle.std.proofs.Common.{◌≡◌, ◌∙◌, ℕ, [], sym, ap, subst}
use Rattle.std.specs.Arc.{arc_value}
use Rattle.one_history.specs.Turns as turns
use Rattle.ticket_order.specs.declared.record.Opening.{Opening}
use Rattle.stripe_locks.specs.Passes.{begun_with, stripe_count}
use Rattle.flusher.specs.Fitting.{IsKept, IsUnused}
use Rattle.durable_map.proofs.map.DurableMap.new.Goals as goal

pub over-requires-clause-fits : goal.over-requires-clause-fits
over-requires-clause-fits g c = λ p opening unused.
    let shared = arc_value c.in-Ok-try_clone.shared in
    let same : shared ≡ c.in-Ok.stripes = c.in-Ok-try_clone.ensures ∙ c.in-Ok-new.ensures.ok in
    let at : begun_with shared ≡ turns.opening_of c.args.first c.args.parts.items c.args.key_limit = ap begun_with same ∙ c.in-Ok.ensures.opening in
    let count : stripe_count shared ≡ c.args.keeper.stripes.count = ap stripe_count same ∙ c.in-Ok.ensures.count in
    subst (λ (n : ℕ). IsKept g.D.Disk.states g.D.Disk.honest n c.args.keeper p) (sym count)
    ([], c.requires.fits p (opening ∙ at) (subst (λ (o : Opening). IsUnused o.first o.key_limit p) at unused))
