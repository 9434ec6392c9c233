use Rattle.std.proofs.Common.{List, sym, subst, arith}
use Rattle.std.proofs.lemmas.Result.{IfOk-weaker}
use Rattle.bin_table.specs.Chains.{Entries}
use Rattle.std.specs.FinMap as finite
use Rattle.checkpoint_file.specs.Loads.{AreLoaded}
use Rattle.recovery.specs.Counting.{entries_in}
use Rattle.recovery.specs.Dividing.{AreGroups}
use Rattle.recovery.proofs.GroupingLemmas.{distinct_entries, groups_as_they_stand}
use Rattle.recovery.proofs.grouping.Groups.of_sections.Goals as goal

pub divided_anew-requires : goal.divided_anew-requires
divided_anew-requires c = distinct_entries c.requires.0 c.args.of.count 0 c.args.sections.items c.requires.1.fit c.requires.1.rising

pub returns-then-len-get-clause-ok : goal.returns-then-len-get-clause-ok
returns-then-len-get-clause-ok c =
    let reads = c.args.sections.items in
    let n = c.args.stripes.count in
    IfOk-weaker c.as_they_stand.result _ _ (λ groups same.
    subst (λ (l : List Entries). AreGroups n (finite.from_entries (entries_in reads)) l) (sym same)
    (groups_as_they_stand c.requires.0 n reads (subst (λ k. AreLoaded c.requires.0 k reads) (search) c.requires.1)
    (omega (arith, c.args.sections.ok, c.len.ensures, c.if-len-get.true, c.get.ensures.value)))) c.as_they_stand.ensures.ok
