use Rattle.std.proofs.Common.{◌≡◌, ℕ, ◌+◌, max, []}
use Rattle.disk_model.specs.Calls.{Looks}
use Rattle.file_pieces.specs.Counting.{ReadsPieces}
use Rattle.file_pieces.specs.Pieces.{end_of, pieces_in}
use Rattle.log_records.specs.Layout.{layout_of}
use Rattle.gate_log.specs.Scan.{HasRead, log_bytes}
use Rattle.recovery.specs.Restoring.{IsOfSome, IsSameFrame}
use Rattle.recovery.specs.LogReading.{IsReading}
use Rattle.recovery.proofs.replay.replay.Given as goal

-- so many batches were read with looks alone, and their changes were made
abbrev pub invariant-loop : goal.invariant-loop
invariant-loop g l = record {
  looks : Looks g.D.Disk.states g.D.Disk.failures g.D.Disk.honest 0 l.fn.disk l.disk;
  same : IsSameFrame l.fn.restoring l.restoring;
  some : IsOfSome l.fn.restoring → IsOfSome l.restoring;
  version : l.scan.version ≡ l.fn.scan.version;
  generation : l.scan.generation ≡ l.fn.generation;
  called : ReadsPieces g.D.Disk.states l.fn.disk l.disk l.fn.scan.reader l.scan.reader;
  pieces : pieces_in (end_of l.scan.reader) ≡ max (pieces_in (end_of l.fn.scan.reader)) (pieces_in (l.scan.gate + 1));
  read : g.D.Disk.honest l.disk → (low : ℕ) → HasRead (layout_of l.fn.scan.version) low [] l.fn.scan (log_bytes g.D.Disk.states l.fn.disk l.fn.generation)
      → IsReading (layout_of l.scan.version) low (log_bytes g.D.Disk.states l.fn.disk l.fn.generation) l.fn.restoring l.scan l.counter l.restoring;
}
