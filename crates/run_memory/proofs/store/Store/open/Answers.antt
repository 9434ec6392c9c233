use Rattle.std.proofs.Common.{rules, ◌≡◌, ◌∙◌, ℕ, [], ap, subst, sym}
use Rattle.std.proofs.lemmas.List.Elements.{All-nil, All-same}
use Rattle.std.specs.Arc.{arc_value}
use Rattle.ticket_order.specs.declared.record.Record.{Record}
use Rattle.stripe_locks.specs.declared.stripes.Stripes.{Stripes}
use Rattle.stripe_locks.specs.Holding.{IsHeldOf, name_of_words}
use Rattle.stripe_locks.specs.Passes.{begun_with, stripe_count, IsPassOf}
use Rattle.ticket_order.specs.declared.record.Opening.{Opening}
use Rattle.disk_model.specs.declared.memory.MemDisk.{MemDisk}
use Rattle.disk_model.specs.Memory.{memory_states}
use Rattle.flusher.specs.Fitting.{IsKept, IsUnused}
use Rattle.run_memory.proofs.store.Store.open.Goals as goal

pub invariant_of-result : goal.invariant_of-result
invariant_of-result c =
    let stripes = arc_value c.in_ok-stripes.stripes in
    let shared : arc_value c.in_ok-shared.shared ≡ stripes = search rules in
    let same : c.deref.result.now ≡ stripes = search rules in (
      ap name_of_words (ap arc_value c.in-Ok-over.ensures.owned.1 ∙ shared),
      subst (λ (s : Stripes). IsPassOf s c.in_ok-worker.worker) same c.in_ok-worker.ensures.own,
      ap (λ (r : Record). r.holding) c.in_ok-worker.ensures.joins.is,
      All-same (IsHeldOf stripes) _ _ c.in_ok-held.ensures.items (All-nil (IsHeldOf stripes)),
    )

pub over-requires-clause-fits : goal.over-requires-clause-fits
over-requires-clause-fits c = λ p opening unused.
    let keeper = c.in-Ok.opened.0 in
    let stripes = c.in-Ok.opened.1 in
    let shared = arc_value c.in_ok-shared.shared in
    let same : shared ≡ stripes = search rules in
    let at : begun_with shared ≡ begun_with stripes = ap begun_with same in
    let count = ap stripe_count same ∙ c.in-Ok.ensures.stripes in
    subst (λ (n : ℕ). IsKept memory_states (λ (disk : MemDisk). Unit {0}) n keeper p) (sym count)
    ([], c.in-Ok.ensures.fits p (opening ∙ at) (subst (λ (o : Opening). IsUnused o.first o.key_limit p) at unused))
