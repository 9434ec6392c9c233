use Rattle.std.proofs.Common.{◌≡◌, take, false}
use Rattle.std.specs.List.{AllByRecursion}
use Rattle.recovery.proofs.lanes.is_any_refused.Given as goal

-- in the first lanes memory wasn't wanting
abbrev pub invariant-loop-lane : goal.invariant-loop-lane
invariant-loop-lane l = AllByRecursion (λ lane. lane.is_refused ≡ false) (take l.lane-index l.lanes)
