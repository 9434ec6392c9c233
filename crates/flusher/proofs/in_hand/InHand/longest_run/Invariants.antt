use Rattle.std.proofs.Common.{◌≡◌, List, length}
use Rattle.map_types.specs.declared.commands.Command.{Command}
use Rattle.log_records.specs.Layout.{layout_of}
use Rattle.flusher.proofs.Runs.{IsFound}
use Rattle.flusher.proofs.in_hand.InHand.longest_run.Given as goal

abbrev pub invariant-loop-index : goal.invariant-loop-index
invariant-loop-index l = (commands : List Command) × (length commands ≡ l.index) × IsFound (layout_of l.fn.version) l.fn.self l.room commands
