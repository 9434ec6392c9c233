use Rattle.std.proofs.Common.{◌≡◌, take}
use Rattle.map_model.specs.Steps.{map_after}
use Rattle.recovery.specs.Lanes.{commands_due}
use Rattle.recovery.proofs.lanes.make_changes.Given as goal

-- so many of the changes were made
abbrev pub invariant-loop-change : goal.invariant-loop-change
invariant-loop-change l = record {
  map : l.part.map ≡ map_after l.fn.part.map (commands_due (take l.change-index l.changes));
  stripes : l.part.growth.stripes ≡ l.fn.part.growth.stripes;
}
