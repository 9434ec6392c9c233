use Rattle.std.specs.Prelude.{◌≡◌, ◌++◌}
use Rattle.std.specs.Vec.Iter.{into_iter_items}
use Rattle.bulk_tasks.specs.Parts.{entries_of, marks_of}
use Rattle.bulk_tasks.proofs.contents.in_one.Given as goal

abbrev pub invariant-loop-one : goal.invariant-loop-one
invariant-loop-one l = record {
  marks : l.marks.items ++ marks_of (into_iter_items l.one-iterator) ≡ marks_of l.fn.captured.items;
  entries : l.entries.items ++ entries_of (into_iter_items l.one-iterator) ≡ entries_of l.fn.captured.items;
}
