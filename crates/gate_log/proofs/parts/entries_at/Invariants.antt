use Rattle.std.proofs.Common.{◌≡◌, ◌++◌, ◌+◌, length}
use Rattle.std.specs.List.{AllByRecursion}
use Rattle.log_records.specs.Layout.{layout_of}
use Rattle.log_records.specs.Spelling.{IsCommand}
use Rattle.store_layout.specs.Logs.{records_bytes}
use Rattle.gate_log.specs.States.{AreFrom}
use Rattle.gate_log.specs.ScanParts.{commands_of}
use Rattle.gate_log.proofs.parts.entries_at.Given as goal

-- the bytes so far are the records of the entries so far
abbrev pub invariant-loop-ticket : goal.invariant-loop-ticket
invariant-loop-ticket l = record {
  tickets : AreFrom l.first l.entries.items;
  so_far : l.ticket ≡ l.first + length l.entries.items;
  well_formed : AllByRecursion (IsCommand (layout_of l.version)) (commands_of l.entries.items);
  spelled : l.bytes ≡ records_bytes (layout_of l.version) (commands_of l.entries.items) ++ l.rest;
}
