use Rattle.std.proofs.Common.{◌≡◌, ◌++◌, map}
use Rattle.sim_rules.specs.Cases.{entry_of}
use Rattle.schedule_sim.proofs.entries.add_part.Given as goal

abbrev pub invariant-loop-key : goal.invariant-loop-key
invariant-loop-key l = map entry_of l.entries.items ≡ map entry_of l.fn.entries.items ++ l.yielded
