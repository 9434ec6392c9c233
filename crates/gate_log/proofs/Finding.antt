-- What a scan holds of the log that it reads.
use Rattle.std.proofs.Common.{◌≡◌, ℕ, ◌+◌, List, ◌∷◌, drop, sym, ap, subst, ◌∙◌}
use Rattle.disk_model.specs.Files.{Files, now}
use Rattle.file_pieces.specs.Pieces.{Holds}
use Rattle.log_records.specs.Layout.{Layout}
use Rattle.store_layout.specs.Logs.{Batch, log_file}
use Rattle.gate_log.specs.Scan.{HasRead, ScanState, log_bytes}
use Rattle.gate_log.specs.ScanParts.{bytes_of}
use Rattle.gate_log.proofs.Scanning.{rest_is}
use Rattle.gate_log.proofs.Steps.{at_gate}

module _ {D : Type 0} (states : D → List Files) (old : D) (scan : ScanState) (file : scan.reader.file ≡ log_file scan.generation) where
  -- its reader's file is that of the log
  pub same_file : bytes_of states old scan.reader ≡ log_bytes states old scan.generation
  same_file = ap (λ (n : ℕ). (now (states old) n).seen) file

  module _ (layout : Layout) (low : ℕ) (batches : List Batch) (read : HasRead layout low batches scan (log_bytes states old scan.generation)) where
    pub held_there : Holds (bytes_of states old scan.reader) scan.reader
    held_there = subst (λ (l : List ℕ). Holds l scan.reader) (sym same_file) read.held

    pub gate_there : drop scan.gate (bytes_of states old scan.reader) ≡ read.byte ∷ read.rest
    gate_there = ap (drop scan.gate) same_file ∙ at_gate layout low batches scan (log_bytes states old scan.generation) read

    pub rest_there : drop (scan.gate + 1) (bytes_of states old scan.reader) ≡ read.rest
    rest_there = rest_is (bytes_of states old scan.reader) scan.gate read.byte read.rest gate_there
