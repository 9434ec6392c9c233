use Rattle.std.proofs.Common.{◌≡◌, ◌++◌, vec_len}
use Rattle.std.specs.FinMap as finite
use Rattle.bin_table.specs.Chains.{Entries, HasDistinctKeys}
use Rattle.recovery.specs.Dividing.{AreGroups, lists_of}
use Rattle.recovery.proofs.grouping.Groups.add_all.Given as goal

-- the last entries were added
abbrev pub invariant-loop-entry : goal.invariant-loop-entry
invariant-loop-entry l = record {
  stripes : l.self.stripes ≡ l.fn.self.stripes;
  done : Entries;
  split : l.fn.entries.items ≡ l.entries.items ++ done;
  grouped : (behind : Entries) → HasDistinctKeys (done ++ behind) → AreGroups l.fn.self.stripes.count (finite.from_entries behind) (lists_of l.fn.self.lists)
      → AreGroups l.fn.self.stripes.count (finite.from_entries (done ++ behind)) (lists_of l.self.lists);
}

abbrev pub decreases-loop-entry : goal.decreases-loop-entry
decreases-loop-entry l = vec_len l.entries
