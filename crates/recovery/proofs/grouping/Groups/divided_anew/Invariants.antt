use Rattle.std.proofs.Common.{◌≡◌, ◌++◌, List, vec_len}
use Rattle.std.specs.FinMap as finite
use Rattle.checkpoint_file.specs.declared.loading.LoadedSection.{LoadedSection}
use Rattle.recovery.specs.Counting.{entries_in}
use Rattle.recovery.specs.Dividing.{AreGroups, lists_of}
use Rattle.recovery.proofs.grouping.Groups.divided_anew.Given as goal

-- the last sections were added
abbrev pub invariant-loop-section : goal.invariant-loop-section
invariant-loop-section l = record {
  stripes : l.groups.stripes ≡ l.fn.stripes;
  done : List LoadedSection;
  split : l.fn.sections.items ≡ l.sections.items ++ done;
  grouped : AreGroups l.fn.stripes.count (finite.from_entries (entries_in done)) (lists_of l.groups.lists);
}

abbrev pub decreases-loop-section : goal.decreases-loop-section
decreases-loop-section l = vec_len l.sections
