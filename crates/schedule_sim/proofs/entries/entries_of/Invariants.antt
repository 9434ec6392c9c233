use Rattle.std.proofs.Common.{◌≡◌, map, take}
use Rattle.std.specs.List.{flat_map}
use Rattle.std.specs.FinMap as finite
use Rattle.one_history.specs.Turns.{maps_of}
use Rattle.sim_rules.specs.Cases.{entry_of}
use Rattle.schedule_sim.proofs.entries.entries_of.Given as goal

abbrev pub invariant-loop-part : goal.invariant-loop-part
invariant-loop-part l = map entry_of l.entries.items ≡ flat_map finite.entries (maps_of (take l.part-index l.fn.parts))
