use Rattle.std.proofs.Common.{◌≡◌, ◌++◌}
use Rattle.std.specs.Vec.Iter.{into_iter_items}
use Rattle.recovery.specs.Lanes.{AreTaken}
use Rattle.recovery.proofs.lanes.parts_of.Given as goal

-- the parts of the first lanes were taken
abbrev pub invariant-loop-lane : goal.invariant-loop-lane
invariant-loop-lane l = record {
  can : (goal.iterator-loop-lane).can_next l.lane-iterator;
  ends : (goal.iterator-loop-lane).is_finite l.lane-iterator;
  rest : l.yielded ++ into_iter_items l.lane-iterator ≡ l.fn.lanes.items;
  taken : AreTaken l.yielded l.parts.items;
}
