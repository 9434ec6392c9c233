use Rattle.std.specs.FinMap as finite
use Rattle.bin_table.proofs.SortLaws.{distinct_sorted}
use Rattle.test_bins.proofs.numbers.Numbers.made_again.Goals as goal

pub with_entries-requires : goal.with_entries-requires
with_entries-requires c = rw c.in_ok-entries.ensures (distinct_sorted _ (finite.entries_sorted _))
