use Rattle.std.proofs.Common.{◌≡◌, ◌++◌, take}
use Rattle.std.specs.List.{AllByRecursion}
use Rattle.log_records.specs.Layout.{layout_of}
use Rattle.log_records.specs.Spelling.{IsCommand}
use Rattle.store_layout.specs.Logs.{records_bytes}
use Rattle.gate_log.specs.States.{commands_of}
use Rattle.gate_log.proofs.frames.append_records.Given as goal

abbrev pub invariant-loop-entry : goal.invariant-loop-entry
invariant-loop-entry l =
    (l.out.items ≡ l.fn.out.items ++ records_bytes (layout_of l.version) (commands_of (take l.entry-index l.entries)))
    × AllByRecursion (IsCommand (layout_of l.version)) (commands_of (take l.entry-index l.entries))
