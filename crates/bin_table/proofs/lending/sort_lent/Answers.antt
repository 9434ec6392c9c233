use Rattle.std.proofs.Common.{ℕ, List, ap, rules}
use Rattle.std.specs.Ordering.{nat_cmp, is_lt}
use Rattle.std.specs.Cmp.Lexicographic.{slice_cmp, nat_list_cmp_total}
use Rattle.std.specs.List.Sorted.{IsSortedByKey}
use Rattle.std.proofs.lemmas.List.MinMax.{ranks_by}
use Rattle.std.proofs.lemmas.List.Sorted.{answers_always}
use Rattle.map_types.specs.declared.texts.Value.{Value}
use Rattle.bin_table.proofs.SortLaws.{sorted_is_entries}
use Rattle.bin_table.proofs.lending.sort_lent.Goals as goal

pub returns : goal.returns
returns c =
    let after = c.sort_unstable_by.new.self.items in
    let sorted : IsSortedByKey (λ (e : List ℕ × Value). e.0) (slice_cmp nat_cmp) after =
    c.sort_unstable_by.ensures.sorted _ (ranks_by nat_list_cmp_total (λ (e : List ℕ × Value). e.0)) (answers_always _ _ _ (λ f a r f' called. ap is_lt (search rules))) in
    sorted_is_entries c.args.entries.now.items after c.requires c.sort_unstable_by.ensures.permutation sorted
