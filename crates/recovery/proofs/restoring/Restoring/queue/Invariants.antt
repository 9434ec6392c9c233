use Rattle.std.proofs.Common.{◌≡◌, ◌++◌}
use Rattle.std.specs.Vec.Iter.{into_iter_items}
use Rattle.map_model.specs.Maps.{Map}
use Rattle.map_model.specs.Steps.{map_after}
use Rattle.recovery.specs.Counting.{counted_of}
use Rattle.recovery.specs.Restoring.{HasMap, IsSameFrame}
use Rattle.recovery.proofs.restoring.Restoring.queue.Given as goal

-- the first changes are due
abbrev pub invariant-loop-entry : goal.invariant-loop-entry
invariant-loop-entry l = record {
  can : (goal.iterator-loop-entry).can_next l.entry-iterator;
  ends : (goal.iterator-loop-entry).is_finite l.entry-iterator;
  rest : l.yielded ++ into_iter_items l.entry-iterator ≡ l.fn.entries.items;
  same : IsSameFrame l.fn.self l.self;
  applied : (m : Map) → HasMap l.fn.self m → HasMap l.self (map_after m (counted_of l.fn.self.of.count l.fn.self.marks.items l.yielded));
}
