use Rattle.std.proofs.Common.{◌≡◌, ◌≤◌, ◌*◌, ◌^◌, length, take}
use Rattle.log_records.specs.Layout.{layout_of}
use Rattle.store_layout.specs.Logs.{records_bytes}
use Rattle.gate_log.specs.States.{commands_of}
use Rattle.gate_log.proofs.frames.records_len.Given as goal

abbrev pub invariant-loop-entry : goal.invariant-loop-entry
invariant-loop-entry l =
    (l.len ≡ length (records_bytes (layout_of l.version) (commands_of (take l.entry-index l.entries)))) × (l.len ≤ 2 ^ 15 * l.entry-index)
