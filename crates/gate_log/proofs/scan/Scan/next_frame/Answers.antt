use Rattle.std.proofs.Common.{◌≡◌, ◌+◌, ℕ, List, max, length, drop, subst, arith, rules}
use Rattle.std.proofs.lemmas.Result.{err_from_is_err_and}
use Rattle.log_records.specs.Layout.{layout_of}
use Rattle.file_pieces.specs.Counting.{ReadsAtMost}
use Rattle.file_pieces.specs.Pieces.{Holds, end_of}
use Rattle.store_layout.specs.Logs.{Batch, IsEnded}
use Rattle.store_layout.specs.Readings.{IsBroken}
use Rattle.ticket_order.specs.declared.stripe.Entry.{Entry}
use Rattle.gate_log.specs.Scan.{HasRead, IsNextBatch, ReadsAtGate, RefusesFor, ScanState, log_bytes}
use Rattle.gate_log.specs.ScanParts.{ComesAhead, bytes_of}
use Rattle.gate_log.proofs.Finding.{same_file, held_there, gate_there, rest_there}
use Rattle.gate_log.proofs.GateReads.{ends_there}
use Rattle.gate_log.proofs.Scanning.{refuses_more}
use Rattle.gate_log.proofs.Steps.{at_gate, broken_here, ended_here, next_here, moved_on}
use Rattle.gate_log.proofs.scan.Scan.next_frame.Goals as goal

pub returns-in_err-look_ahead-clause-err : goal.returns-in_err-look_ahead-clause-err
returns-in_err-look_ahead-clause-err g c =
    let q = err_from_is_err_and c.from_residual.result c.from_residual.ensures.1 in
    let states = g.D.Disk.states in
    let old = c.args.disk.now in
    let s : ScanState = record { version = c.self.inside.place.version; generation = c.self.inside.place.generation; gate = c.self.inside.place.gate; expected = c.self.inside.place.expected; reader = c.self.inside.reader } in
    let file = c.self.invariant.0 in
    rw (q.1, q.2)
    (subst (λ (t : ScanState). RefusesFor t (g.D.Disk.honest c.look_ahead.new.disk → (low : ℕ) (batches : List Batch) → HasRead (layout_of t.version) low batches t (log_bytes states old t.generation)
    → IsBroken (layout_of t.version) t.generation low batches (log_bytes states old t.generation)) c.in_err-look_ahead.field-0.0)
    c.self.view_is
    (refuses_more s.generation s.gate _ _ _
    (λ never honest low batches read.
    let why = never honest read.byte read.rest (held_there states old s file (layout_of s.version) low batches read) (gate_there states old s file (layout_of s.version) low batches read) in
    broken_here (layout_of s.version) low batches s (log_bytes states old s.generation) read why.0 why.1)
    c.in_err-look_ahead.ensures.err))

pub returns-in_err-check_end-in-End-clause-err : goal.returns-in_err-check_end-in-End-clause-err
returns-in_err-check_end-in-End-clause-err g c =
    let q = err_from_is_err_and c.from_residual-in_err-check_end-in-End.result c.from_residual-in_err-check_end-in-End.ensures.1 in
    let states = g.D.Disk.states in
    let old = c.args.disk.now in
    let s : ScanState = record { version = c.self.inside.place.version; generation = c.self.inside.place.generation; gate = c.self.inside.place.gate; expected = c.self.inside.place.expected; reader = c.self.inside.reader } in
    let file = c.self.invariant.0 in
    rw (q.1, q.2)
    (subst (λ (t : ScanState). RefusesFor t (g.D.Disk.honest c.look_ahead.new.disk → (low : ℕ) (batches : List Batch) → HasRead (layout_of t.version) low batches t (log_bytes states old t.generation)
    → IsBroken (layout_of t.version) t.generation low batches (log_bytes states old t.generation)) c.in_err-check_end-in-End.field-0.0)
    c.self.view_is
    (refuses_more s.generation s.gate _ _ _
    (λ never honest low batches read.
    let held = held_there states old s file (layout_of s.version) low batches read in
    let ahead = subst (ComesAhead read.byte read.rest) c.in-End.is (c.in_ok-look_ahead.ensures.ahead honest read.byte read.rest held (gate_there states old s file (layout_of s.version) low batches read)) in
    broken_here (layout_of s.version) low batches s (log_bytes states old s.generation) read ahead.0
    (never (bytes_of states old s.reader) read.rest (c.in_ok-look_ahead.ensures.holds honest held) (rest_there states old s file (layout_of s.version) low batches read) ahead.1))
    c.in_err-check_end-in-End.ensures.err))

pub returns-in_ok-check_end-in-End-clause-found : goal.returns-in_ok-check_end-in-End-clause-found
returns-in_ok-check_end-in-End-clause-found g c = λ honest low batches.
    let states = g.D.Disk.states in
    let old = c.args.disk.now in
    let s : ScanState = record { version = c.self.inside.place.version; generation = c.self.inside.place.generation; gate = c.self.inside.place.gate; expected = c.self.inside.place.expected; reader = c.self.inside.reader } in
    let file = c.self.invariant.0 in
    subst (λ (t : ScanState). HasRead (layout_of t.version) low batches t (log_bytes states old t.generation) → IsEnded (layout_of t.version) t.generation low batches (t.generation + 1) (log_bytes states old t.generation))
    c.self.view_is
    (λ read.
    let held = held_there states old s file (layout_of s.version) low batches read in
    let ahead = subst (ComesAhead read.byte read.rest) c.in-End.is (c.in_ok-look_ahead.ensures.ahead honest read.byte read.rest held (gate_there states old s file (layout_of s.version) low batches read)) in
    ended_here (layout_of s.version) low batches s (log_bytes states old s.generation) read ahead.0
    (c.in_ok-check_end-in-End.ensures.ok (bytes_of states old s.reader) read.rest (c.in_ok-look_ahead.ensures.holds honest held) (rest_there states old s file (layout_of s.version) low batches read) ahead.1))

pub returns-in_err-entries-in-Batch-clause-err : goal.returns-in_err-entries-in-Batch-clause-err
returns-in_err-entries-in-Batch-clause-err g c =
    let q = err_from_is_err_and c.from_residual-in_err-entries-in-Batch.result c.from_residual-in_err-entries-in-Batch.ensures.1 in
    let states = g.D.Disk.states in
    let old = c.args.disk.now in
    let s : ScanState = record { version = c.self.inside.place.version; generation = c.self.inside.place.generation; gate = c.self.inside.place.gate; expected = c.self.inside.place.expected; reader = c.self.inside.reader } in
    let file = c.self.invariant.0 in
    rw (q.1, q.2)
    (subst (λ (t : ScanState). RefusesFor t (g.D.Disk.honest c.look_ahead.new.disk → (low : ℕ) (batches : List Batch) → HasRead (layout_of t.version) low batches t (log_bytes states old t.generation)
    → IsBroken (layout_of t.version) t.generation low batches (log_bytes states old t.generation)) c.in_err-entries-in-Batch.field-0.0)
    c.self.view_is
    (refuses_more s.generation s.gate _ _ _
    (λ never honest low batches read.
    let held = held_there states old s file (layout_of s.version) low batches read in
    let ahead = subst (ComesAhead read.byte read.rest) c.in-Batch.is (c.in_ok-look_ahead.ensures.ahead honest read.byte read.rest held (gate_there states old s file (layout_of s.version) low batches read)) in
    broken_here (layout_of s.version) low batches s (log_bytes states old s.generation) read ahead.0
    (never (bytes_of states old s.reader) read.rest (c.in_ok-look_ahead.ensures.holds honest held) (rest_there states old s file (layout_of s.version) low batches read) ahead.1))
    c.in_err-entries-in-Batch.ensures.err))

pub returns-in_ok-entries-in-Batch-clause-found : goal.returns-in_ok-entries-in-Batch-clause-found
returns-in_ok-entries-in-Batch-clause-found g c = λ honest low batches.
    let states = g.D.Disk.states in
    let old = c.args.disk.now in
    let s : ScanState = record { version = c.self.inside.place.version; generation = c.self.inside.place.generation; gate = c.self.inside.place.gate; expected = c.self.inside.place.expected; reader = c.self.inside.reader } in
    let file = c.self.invariant.0 in
    let entries : List Entry = c.in_ok-entries-in-Batch.entries.items in
    let new = c.let_go.new.self in
    let count : length entries ≡ c.len.result = search rules in
    subst (λ (t : ScanState). HasRead (layout_of t.version) low batches t (log_bytes states old t.generation)
    → IsNextBatch (layout_of t.version) low batches entries t (moved_on s c.in-Batch.len c.len.result new) (log_bytes states old t.generation))
    c.self.view_is
    (λ read.
    let content : List ℕ = log_bytes states old s.generation in
    let held = held_there states old s file (layout_of s.version) low batches read in
    let ahead = subst (ComesAhead read.byte read.rest) c.in-Batch.is (c.in_ok-look_ahead.ensures.ahead honest read.byte read.rest held (gate_there states old s file (layout_of s.version) low batches read)) in
    let there = c.in_ok-look_ahead.ensures.holds honest held in
    let at_batch = c.in_ok-entries-in-Batch.ensures.ok (bytes_of states old s.reader) read.rest there (rest_there states old s file (layout_of s.version) low batches read) ahead.1 in
    let behind = c.let_go.ensures.holds content (subst (λ (l : List ℕ). Holds l c.look_ahead.new.reader) (same_file states old s file) there) in
    subst (λ (n : ℕ). IsNextBatch (layout_of s.version) low batches entries s (moved_on s c.in-Batch.len n new) content) count
    (next_here (layout_of s.version) low batches s content read entries c.in-Batch.len ahead.0 at_batch c.in_ok-entries-in-Batch.ensures.fits new behind))

pub returns-in_err-look_ahead-clause-within : goal.returns-in_err-look_ahead-clause-within
returns-in_err-look_ahead-clause-within g c = λ honest low size batches.
    let q = err_from_is_err_and c.from_residual.result c.from_residual.ensures.1 in
    let states = g.D.Disk.states in
    let old = c.args.disk.now in
    let s : ScanState = record { version = c.self.inside.place.version; generation = c.self.inside.place.generation; gate = c.self.inside.place.gate; expected = c.self.inside.place.expected; reader = c.self.inside.reader } in
    let file = c.self.invariant.0 in
    rw q.1
    (subst (λ (t : ScanState). HasRead (layout_of t.version) low batches t (log_bytes states old t.generation) → ReadsAtGate (layout_of t.version) (drop t.gate (log_bytes states old t.generation)) size
    → ReadsAtMost states old c.look_ahead.new.disk t.reader (max (end_of t.reader) (t.gate + size)))
    c.self.view_is
    (λ read reads.
    let held = held_there states old s file (layout_of s.version) low batches read in
    let there = gate_there states old s file (layout_of s.version) low batches read in
    let tail = subst (λ (l : List ℕ). ReadsAtGate (layout_of s.version) l size) (at_gate (layout_of s.version) low batches s (log_bytes states old s.generation) read) reads in
    c.in_err-look_ahead.ensures.within honest size read.byte read.rest held there tail))

pub returns-in_err-check_end-in-End-clause-within : goal.returns-in_err-check_end-in-End-clause-within
returns-in_err-check_end-in-End-clause-within g c = λ honest low size batches.
    let q = err_from_is_err_and c.from_residual-in_err-check_end-in-End.result c.from_residual-in_err-check_end-in-End.ensures.1 in
    let states = g.D.Disk.states in
    let old = c.args.disk.now in
    let s : ScanState = record { version = c.self.inside.place.version; generation = c.self.inside.place.generation; gate = c.self.inside.place.gate; expected = c.self.inside.place.expected; reader = c.self.inside.reader } in
    let file = c.self.invariant.0 in
    rw q.1
    (subst (λ (t : ScanState). HasRead (layout_of t.version) low batches t (log_bytes states old t.generation) → ReadsAtGate (layout_of t.version) (drop t.gate (log_bytes states old t.generation)) size
    → ReadsAtMost states old c.look_ahead.new.disk t.reader (max (end_of t.reader) (t.gate + size)))
    c.self.view_is
    (λ read reads.
    let held = held_there states old s file (layout_of s.version) low batches read in
    let there = gate_there states old s file (layout_of s.version) low batches read in
    let tail = subst (λ (l : List ℕ). ReadsAtGate (layout_of s.version) l size) (at_gate (layout_of s.version) low batches s (log_bytes states old s.generation) read) reads in
    let ends = ends_there (layout_of s.version) s.gate read.byte read.rest size _ c.in_ok-look_ahead.ensures.fits (c.in_ok-look_ahead.ensures.ahead honest read.byte read.rest held there) tail in
    let called = c.in_ok-look_ahead.ensures.called in
    let pieces = c.in_ok-look_ahead.ensures.pieces in
    omega (arith, ends, called, pieces)))

pub returns-in_err-entries-in-Batch-clause-within : goal.returns-in_err-entries-in-Batch-clause-within
returns-in_err-entries-in-Batch-clause-within g c = λ honest low size batches.
    let q = err_from_is_err_and c.from_residual-in_err-entries-in-Batch.result c.from_residual-in_err-entries-in-Batch.ensures.1 in
    let states = g.D.Disk.states in
    let old = c.args.disk.now in
    let s : ScanState = record { version = c.self.inside.place.version; generation = c.self.inside.place.generation; gate = c.self.inside.place.gate; expected = c.self.inside.place.expected; reader = c.self.inside.reader } in
    let file = c.self.invariant.0 in
    rw q.1
    (subst (λ (t : ScanState). HasRead (layout_of t.version) low batches t (log_bytes states old t.generation) → ReadsAtGate (layout_of t.version) (drop t.gate (log_bytes states old t.generation)) size
    → ReadsAtMost states old c.look_ahead.new.disk t.reader (max (end_of t.reader) (t.gate + size)))
    c.self.view_is
    (λ read reads.
    let held = held_there states old s file (layout_of s.version) low batches read in
    let there = gate_there states old s file (layout_of s.version) low batches read in
    let tail = subst (λ (l : List ℕ). ReadsAtGate (layout_of s.version) l size) (at_gate (layout_of s.version) low batches s (log_bytes states old s.generation) read) reads in
    let ends = ends_there (layout_of s.version) s.gate read.byte read.rest size _ c.in_ok-look_ahead.ensures.fits (c.in_ok-look_ahead.ensures.ahead honest read.byte read.rest held there) tail in
    let called = c.in_ok-look_ahead.ensures.called in
    let pieces = c.in_ok-look_ahead.ensures.pieces in
    omega (arith, ends, called, pieces)))
