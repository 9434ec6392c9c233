use Rattle.std.proofs.Common.{◌≡◌, ◌++◌, map}
use Rattle.std.specs.List.{AllByRecursion}
use Rattle.std.specs.FinMap as finite
use Rattle.std.specs.Vec.Iter.{into_iter_items}
use Rattle.recovery.specs.Lanes.{IsLaidFor, promised}
use Rattle.recovery.proofs.divided.Divided.with_entries.Given as goal

-- the first lists have their lanes
abbrev pub invariant-loop-list : goal.invariant-loop-list
invariant-loop-list l = record {
  can : (goal.iterator-loop-list).can_next l.list-iterator;
  ends : (goal.iterator-loop-list).is_finite l.list-iterator;
  rest : l.yielded ++ into_iter_items l.list-iterator ≡ l.fn.groups.lists.items;
  maps : map promised l.lanes.items ≡ map (λ list. finite.from_entries list.items) l.yielded;
  laid : AllByRecursion (IsLaidFor l.fn.groups.stripes.count) l.lanes.items;
}
