use Rattle.std.proofs.Common.{◌≡◌, ◌++◌, map}
use Rattle.std.specs.Vec.Iter.{into_iter_items}
use Rattle.recovery.specs.Dividing.{lists_of}
use Rattle.recovery.proofs.grouping.Groups.as_they_stand.Given as goal

-- the entries of the first sections are lists
abbrev pub invariant-loop-section : goal.invariant-loop-section
invariant-loop-section l = record {
  can : (goal.iterator-loop-section).can_next l.section-iterator;
  ends : (goal.iterator-loop-section).is_finite l.section-iterator;
  rest : l.yielded ++ into_iter_items l.section-iterator ≡ l.fn.sections.items;
  lists : lists_of l.lists ≡ map (λ section. section.entries.items) l.yielded;
}
