use Rattle.std.proofs.Common.{ℕ, ◌+◌, inl, inr, refl, sym, ap, subst, ◌∙◌}
use Rattle.std.proofs.lemmas.Result.{err_from_is_err_and}
use Rattle.java_hash.specs.declared.stripe_count.StripeCount.{StripeCount}
use Rattle.java_hash.proofs.StripeLaws.{some_stripe}
use Rattle.one_history.specs.Turns.{opening_of}
use Rattle.store_layout.specs.Opening.{map_of, prefix_of}
use Rattle.recovery.specs.LogReading.{contents_of}
use Rattle.recovery.specs.Upgrading.{IsNewest, IsUpgradeRefused, StaysStanding}
use Rattle.recovery.proofs.RefusedBehind.{counted_behind, listed_behind}
use Rattle.recovery.proofs.SyncingLemmas.{none_failed, read_is_left}
use Rattle.recovery.proofs.Upgraded.{newest_before, newest_found, opened_stripes, refuses_behind, seals_none, seals_one, standing, stripes_before, stripes_kept, unchanged, upgraded_kept, upgraded_before}
use Rattle.recovery.proofs.upgrading.upgrade.Goals as goal

pub returns-then-is_newest-clause-ok : goal.returns-then-is_newest-clause-ok
returns-then-is_newest-clause-ok g c =
    let states = g.D.Disk.states in
    let failures = g.D.Disk.failures in
    let honest = g.D.Disk.honest in
    let law = c.laws_of_parts.ensures.union in
    let n = c.args.stripes.count in
    let some = some_stripe n c.args.stripes.allowed in
    let disk = c.args.disk in
    let k = c.in_ok-keeper.keeper in
    let parts = c.in_ok-keeper.parts.items in
    let first = c.in_ok-keeper.first in
    let limit = c.in_ok-keeper.limit in
    let ok = c.in_ok-keeper.ensures.ok in
    standing states failures honest law n some disk k parts first limit ok c.into_disk.result c.in_ok-keeper.ensures.calls
    (unchanged states failures honest law n some disk k parts first limit ok c.into_disk.result c.into_disk.ensures c.in_ok-keeper.ensures.stops)

pub returns-then-is_newest-clause-upgraded : goal.returns-then-is_newest-clause-upgraded
returns-then-is_newest-clause-upgraded g c =
    let states = g.D.Disk.states in
    let failures = g.D.Disk.failures in
    let honest = g.D.Disk.honest in
    let law = c.laws_of_parts.ensures.union in
    let n = c.args.stripes.count in
    let some = some_stripe n c.args.stripes.allowed in
    let disk = c.args.disk in
    let k = c.in_ok-keeper.keeper in
    let parts = c.in_ok-keeper.parts.items in
    let first = c.in_ok-keeper.first in
    let limit = c.in_ok-keeper.limit in
    let ok = c.in_ok-keeper.ensures.ok in
    λ h found holds. upgraded_before states failures honest law n some disk k parts first limit ok c.into_disk.result c.into_disk.ensures c.in_ok-keeper.ensures.stops c.laws_of_opening.ensures.one_way (sym c.version.ensures ∙ c.is_newest.ensures.newest c.if-is_newest.true) h found holds

pub returns-then-is_newest-clause-reads : goal.returns-then-is_newest-clause-reads
returns-then-is_newest-clause-reads g c =
    let states = g.D.Disk.states in
    let failures = g.D.Disk.failures in
    let honest = g.D.Disk.honest in
    let law = c.laws_of_parts.ensures.union in
    let n = c.args.stripes.count in
    let some = some_stripe n c.args.stripes.allowed in
    let disk = c.args.disk in
    let k = c.in_ok-keeper.keeper in
    let parts = c.in_ok-keeper.parts.items in
    let first = c.in_ok-keeper.first in
    let limit = c.in_ok-keeper.limit in
    let ok = c.in_ok-keeper.ensures.ok in
    λ h found holds. upgraded_before states failures honest law n some disk k parts first limit ok c.into_disk.result c.into_disk.ensures c.in_ok-keeper.ensures.stops c.laws_of_opening.ensures.one_way (sym c.version.ensures ∙ c.is_newest.ensures.newest c.if-is_newest.true) h found holds (contents_of states c.into_disk.result) (read_is_left (states c.into_disk.result) (g.met.D.Disk.are_coherent c.into_disk.result))

pub returns-in-Ok-clause-ok : goal.returns-in-Ok-clause-ok
returns-in-Ok-clause-ok g c =
    let states = g.D.Disk.states in
    let failures = g.D.Disk.failures in
    let honest = g.D.Disk.honest in
    let law = c.laws_of_parts.ensures.union in
    let n = c.args.stripes.count in
    let some = some_stripe n c.args.stripes.allowed in
    let disk = c.args.disk in
    let k = c.in_ok-keeper.keeper in
    let parts = c.in_ok-keeper.parts.items in
    let first = c.in_ok-keeper.first in
    let limit = c.in_ok-keeper.limit in
    let ok = c.in_ok-keeper.ensures.ok in
    subst (λ d. StaysStanding states failures honest disk d) (sym c.into_disk-in-Ok.ensures)
    (standing states failures honest law n some disk k parts first limit ok c.upgrade_keeper.new.keeper.disk c.in_ok-keeper.ensures.calls c.upgrade_keeper.ensures.stands)

pub returns-in-Ok-clause-upgraded : goal.returns-in-Ok-clause-upgraded
returns-in-Ok-clause-upgraded g c =
    let states = g.D.Disk.states in
    let failures = g.D.Disk.failures in
    let honest = g.D.Disk.honest in
    let law = c.laws_of_parts.ensures.union in
    let n = c.args.stripes.count in
    let some = some_stripe n c.args.stripes.allowed in
    let disk = c.args.disk in
    let k = c.in_ok-keeper.keeper in
    let parts = c.in_ok-keeper.parts.items in
    let first = c.in_ok-keeper.first in
    let limit = c.in_ok-keeper.limit in
    let ok = c.in_ok-keeper.ensures.ok in
    upgraded_kept states failures honest law n some disk k parts first limit ok c.in_ok-keeper.ensures.calls c.upgrade_keeper.new.keeper c.into_disk-in-Ok.result c.into_disk-in-Ok.ensures c.upgrade_keeper.ensures.stands (opening_of first parts limit)
    c.in-Ok.ensures.rotated c.stops_of_a_store.ensures.checkpoint c.laws_of_opening.ensures.one_way refl refl

pub returns-in-Ok-clause-reads : goal.returns-in-Ok-clause-reads
returns-in-Ok-clause-reads g c =
    let states = g.D.Disk.states in
    let failures = g.D.Disk.failures in
    let honest = g.D.Disk.honest in
    let law = c.laws_of_parts.ensures.union in
    let n = c.args.stripes.count in
    let some = some_stripe n c.args.stripes.allowed in
    let disk = c.args.disk in
    let k = c.in_ok-keeper.keeper in
    let parts = c.in_ok-keeper.parts.items in
    let first = c.in_ok-keeper.first in
    let limit = c.in_ok-keeper.limit in
    let ok = c.in_ok-keeper.ensures.ok in
    λ h found holds. upgraded_kept states failures honest law n some disk k parts first limit ok c.in_ok-keeper.ensures.calls c.upgrade_keeper.new.keeper c.into_disk-in-Ok.result c.into_disk-in-Ok.ensures c.upgrade_keeper.ensures.stands (opening_of first parts limit)
    c.in-Ok.ensures.rotated c.stops_of_a_store.ensures.checkpoint c.laws_of_opening.ensures.one_way refl refl h found holds (contents_of states c.into_disk-in-Ok.result) (read_is_left (states c.into_disk-in-Ok.result) (g.met.D.Disk.are_coherent c.into_disk-in-Ok.result))

pub returns-in_err-keeper-clause-refused : goal.returns-in_err-keeper-clause-refused
returns-in_err-keeper-clause-refused g c =
    let q = err_from_is_err_and c.from_residual.result c.from_residual.ensures.1 in
    let e = c.in_err-keeper.ensures in
    rw (q.1, q.2) (inl (record { stopped = e.stopped; listed = e.listed; reason = e.err }))

pub returns-in-Ok-clause-untouched : goal.returns-in-Ok-clause-untouched
returns-in-Ok-clause-untouched g c =
    let states = g.D.Disk.states in
    let failures = g.D.Disk.failures in
    let honest = g.D.Disk.honest in
    let law = c.laws_of_parts.ensures.union in
    let n = c.args.stripes.count in
    let some = some_stripe n c.args.stripes.allowed in
    let disk = c.args.disk in
    let k = c.in_ok-keeper.keeper in
    let parts = c.in_ok-keeper.parts.items in
    let first = c.in_ok-keeper.first in
    let limit = c.in_ok-keeper.limit in
    let ok = c.in_ok-keeper.ensures.ok in
    λ h found holds newest.
    let at = c.upgrade_keeper.ensures.stands.was_honest (subst honest c.into_disk-in-Ok.ensures h) in
    absurd (c.is_newest.ensures.earlier c.if-is_newest.false
    (c.version.ensures ∙ newest_before states failures honest law n some disk k parts first limit ok c.laws_of_opening.ensures.one_way at found holds newest))

pub returns-in-Err-clause-unwritten : goal.returns-in-Err-clause-unwritten
returns-in-Err-clause-unwritten g c =
    let states = g.D.Disk.states in
    let failures = g.D.Disk.failures in
    let honest = g.D.Disk.honest in
    let law = c.laws_of_parts.ensures.union in
    let n = c.args.stripes.count in
    let some = some_stripe n c.args.stripes.allowed in
    let disk = c.args.disk in
    let k = c.in_ok-keeper.keeper in
    let parts = c.in_ok-keeper.parts.items in
    let first = c.in_ok-keeper.first in
    let limit = c.in_ok-keeper.limit in
    let ok = c.in_ok-keeper.ensures.ok in
    λ h found holds newest.
    let at = c.upgrade_keeper.ensures.stands.was_honest (subst honest c.into_disk-in-Err.ensures h) in
    absurd (c.is_newest.ensures.earlier c.if-is_newest.false
    (c.version.ensures ∙ newest_before states failures honest law n some disk k parts first limit ok c.laws_of_opening.ensures.one_way at found holds newest))

pub returns-in_err-keeper-clause-unwritten : goal.returns-in_err-keeper-clause-unwritten
returns-in_err-keeper-clause-unwritten g c =
    let q = err_from_is_err_and c.from_residual.result c.from_residual.ensures.1 in
    let e = c.in_err-keeper.ensures in
    let never_both = c.laws_of_opening.ensures.never_both in
    rw (q.1, q.2) (λ h found holds newest. (
      e.stopped,
      elim (e.err h).1 [
        | inl failed ↦ inl failed
        | inr other ↦ elim other [
          | inl no_memory ↦ inr no_memory
          | inr refuses ↦ absurd (never_both (contents_of g.D.Disk.states c.args.disk) (prefix_of found) (map_of found) _ (record { found = found; holds = holds; prefix = refl; map = refl }) refuses)
        ]
      ],
    ))

pub returns-in-Err-clause-refused : goal.returns-in-Err-clause-refused
returns-in-Err-clause-refused g c =
    let states = g.D.Disk.states in
    let failures = g.D.Disk.failures in
    let honest = g.D.Disk.honest in
    let law = c.laws_of_parts.ensures.union in
    let n = c.args.stripes.count in
    let some = some_stripe n c.args.stripes.allowed in
    let disk = c.args.disk in
    let k = c.in_ok-keeper.keeper in
    let parts = c.in_ok-keeper.parts.items in
    let first = c.in_ok-keeper.first in
    let limit = c.in_ok-keeper.limit in
    let ok = c.in_ok-keeper.ensures.ok in
    let e = c.in-Err.refusal in
    let count = ap (λ (s : StripeCount). s.count) c.in_ok-keeper.ensures.start.stripes_are in
    let after = c.upgrade_keeper.new.keeper.disk in
    let stays = standing states failures honest law n some disk k parts first limit ok after c.in_ok-keeper.ensures.calls c.upgrade_keeper.ensures.stands in
    let none = none_failed states failures honest 4 disk k.disk c.in_ok-keeper.ensures.calls in
    let refused : IsUpgradeRefused states failures honest n disk after e = record {
      stays = stays;
      counted = counted_behind _ _ _ _ _ _ e (failures disk) (failures after) (λ failing. failing ∙ ap (λ (x : ℕ). x + 1) none) (λ other. c.in-Err.ensures.unfailing other ∙ none) c.in-Err.ensures.err;
      listed = listed_behind _ _ _ _ _ _ e c.in-Err.ensures.err;
      reason = λ h.
          let at = c.upgrade_keeper.ensures.stands.was_honest h in
          ((ok at).0, refuses_behind states failures honest law n some disk k parts first limit ok after e c.in_ok-keeper.ensures.calls count at c.in-Err.ensures.err);
    } in
    inr (subst (λ d. IsUpgradeRefused states failures honest n disk d e) (sym c.into_disk-in-Err.ensures) refused)

pub returns-then-is_newest-clause-unfailing : goal.returns-then-is_newest-clause-unfailing
returns-then-is_newest-clause-unfailing g c =
    let failures = g.D.Disk.failures in
    ap failures c.into_disk.ensures ∙ none_failed g.D.Disk.states failures g.D.Disk.honest 4 c.args.disk c.in_ok-keeper.keeper.disk c.in_ok-keeper.ensures.calls

pub returns-in-Ok-clause-unfailing : goal.returns-in-Ok-clause-unfailing
returns-in-Ok-clause-unfailing g c =
    let failures = g.D.Disk.failures in
    ap failures c.into_disk-in-Ok.ensures ∙ c.in-Ok.ensures.counted ∙ none_failed g.D.Disk.states failures g.D.Disk.honest 4 c.args.disk c.in_ok-keeper.keeper.disk c.in_ok-keeper.ensures.calls

pub returns-then-is_newest-clause-kept : goal.returns-then-is_newest-clause-kept
returns-then-is_newest-clause-kept g c =
    let states = g.D.Disk.states in
    let failures = g.D.Disk.failures in
    let honest = g.D.Disk.honest in
    let law = c.laws_of_parts.ensures.union in
    let n = c.args.stripes.count in
    let some = some_stripe n c.args.stripes.allowed in
    let disk = c.args.disk in
    let k = c.in_ok-keeper.keeper in
    let parts = c.in_ok-keeper.parts.items in
    let first = c.in_ok-keeper.first in
    let limit = c.in_ok-keeper.limit in
    let ok = c.in_ok-keeper.ensures.ok in
    λ h found holds never. stripes_before states failures honest law n some disk k parts first limit ok c.into_disk.result c.into_disk.ensures c.in_ok-keeper.ensures.stops c.laws_of_opening.ensures.one_way found holds

pub returns-then-is_newest-clause-stripes : goal.returns-then-is_newest-clause-stripes
returns-then-is_newest-clause-stripes g c =
    let states = g.D.Disk.states in
    let failures = g.D.Disk.failures in
    let honest = g.D.Disk.honest in
    let law = c.laws_of_parts.ensures.union in
    let n = c.args.stripes.count in
    let some = some_stripe n c.args.stripes.allowed in
    let disk = c.args.disk in
    let k = c.in_ok-keeper.keeper in
    let parts = c.in_ok-keeper.parts.items in
    let first = c.in_ok-keeper.first in
    let limit = c.in_ok-keeper.limit in
    let ok = c.in_ok-keeper.ensures.ok in
    λ h found holds seals.
    absurd (seals.0 (newest_found states failures honest law n some disk k parts first limit ok c.laws_of_opening.ensures.one_way (subst honest c.into_disk.ensures h) found holds (sym c.version.ensures ∙ c.is_newest.ensures.newest c.if-is_newest.true)))

pub returns-in-Ok-clause-kept : goal.returns-in-Ok-clause-kept
returns-in-Ok-clause-kept g c =
    let states = g.D.Disk.states in
    let failures = g.D.Disk.failures in
    let honest = g.D.Disk.honest in
    let law = c.laws_of_parts.ensures.union in
    let n = c.args.stripes.count in
    let some = some_stripe n c.args.stripes.allowed in
    let disk = c.args.disk in
    let k = c.in_ok-keeper.keeper in
    let parts = c.in_ok-keeper.parts.items in
    let first = c.in_ok-keeper.first in
    let limit = c.in_ok-keeper.limit in
    let ok = c.in_ok-keeper.ensures.ok in
    let one_way = c.laws_of_opening.ensures.one_way in
    λ h found holds never contents leaves x here.
    let at = c.upgrade_keeper.ensures.stands.was_honest (subst honest c.into_disk-in-Ok.ensures h) in
    let earlier : IsNewest (contents_of states disk) found → ⊥ = λ newest. absurd (c.is_newest.ensures.earlier c.if-is_newest.false (c.version.ensures ∙ newest_before states failures honest law n some disk k parts first limit ok one_way at found holds newest)) in
    stripes_kept states failures honest law n some disk k parts first limit ok c.in_ok-keeper.ensures.calls c.upgrade_keeper.new.keeper c.into_disk-in-Ok.result c.into_disk-in-Ok.ensures c.upgrade_keeper.ensures.stands (opening_of first parts limit)
    c.in-Ok.ensures.rotated c.stops_of_a_store.ensures.checkpoint one_way h contents leaves x here
    ∙ c.in-Ok.ensures.kept (seals_none states failures honest law n some disk k parts first limit ok one_way at found holds earlier never)
    ∙ opened_stripes states failures honest law n some disk k parts first limit ok c.in_ok-keeper.ensures.stops (read_is_left (states k.disk) (g.met.D.Disk.are_coherent k.disk)) one_way at found holds

pub returns-in-Ok-clause-stripes : goal.returns-in-Ok-clause-stripes
returns-in-Ok-clause-stripes g c =
    let states = g.D.Disk.states in
    let failures = g.D.Disk.failures in
    let honest = g.D.Disk.honest in
    let law = c.laws_of_parts.ensures.union in
    let n = c.args.stripes.count in
    let some = some_stripe n c.args.stripes.allowed in
    let disk = c.args.disk in
    let k = c.in_ok-keeper.keeper in
    let parts = c.in_ok-keeper.parts.items in
    let first = c.in_ok-keeper.first in
    let limit = c.in_ok-keeper.limit in
    let ok = c.in_ok-keeper.ensures.ok in
    let one_way = c.laws_of_opening.ensures.one_way in
    let count = ap (λ (s : StripeCount). s.count) c.in_ok-keeper.ensures.start.stripes_are in
    λ h found holds seals contents leaves x here.
    let new_honest = subst honest c.into_disk-in-Ok.ensures h in
    let at = c.upgrade_keeper.ensures.stands.was_honest new_honest in
    stripes_kept states failures honest law n some disk k parts first limit ok c.in_ok-keeper.ensures.calls c.upgrade_keeper.new.keeper c.into_disk-in-Ok.result c.into_disk-in-Ok.ensures c.upgrade_keeper.ensures.stands (opening_of first parts limit)
    c.in-Ok.ensures.rotated c.stops_of_a_store.ensures.checkpoint one_way h contents leaves x here
    ∙ c.in-Ok.ensures.stripes new_honest (seals_one states failures honest law n some disk k parts first limit ok one_way at found holds seals) ∙ count
