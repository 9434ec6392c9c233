use Rattle.std.proofs.Common.{sym, ap, subst}
use Rattle.std.specs.FinMap as finite
use Rattle.log_records.specs.Layout.{layout_of}
use Rattle.recovery.specs.Counting.{entries_in}
use Rattle.recovery.specs.Dividing.{AreGroups, lists_of}
use Rattle.recovery.specs.Lanes.{AreLanesOf}
use Rattle.recovery.proofs.restoring.Restoring.new.Goals as goal

pub of_sections-requires : goal.of_sections-requires
of_sections-requires c = (layout_of c.args.loaded.version, c.requires)

pub with_entries-requires : goal.with_entries-requires
with_entries-requires c =
    let m = finite.from_entries (entries_in c.args.loaded.sections.items) in
    (m, subst (λ n. AreGroups n m (lists_of c.in_ok-groups.groups.lists)) (sym (ap (λ s. s.count) c.in_ok-groups.ensures.stripes)) c.in_ok-groups.ensures.ok)

pub returns-clause-map : goal.returns-clause-map
returns-clause-map c =
    let m = finite.from_entries (entries_in c.args.loaded.sections.items) in
    let same = ap (λ s. s.count) c.in_ok-groups.ensures.stripes in
    subst (λ n. AreLanesOf n m c.in_ok-divided.divided.lanes.items) (sym (ap (λ s. s.count) c.in_ok-divided.ensures.stripes))
    (c.in_ok-divided.ensures.ok m (subst (λ n. AreGroups n m (lists_of c.in_ok-groups.groups.lists)) (sym same) c.in_ok-groups.ensures.ok))
