use Rattle.std.proofs.Common.{◌≡◌, ◌+◌, ◌≤◌, ℕ, List, max, length, sym, ap, ap₂, subst, ◌∙◌, inr, arith}
use Rattle.std.proofs.lemmas.List.{length-drop}
use Rattle.std.proofs.lemmas.Result.{err_from_is_err_and}
use Rattle.file_pieces.specs.Pieces.{Holds, end_of, pieces_in}
use Rattle.log_records.specs.Layout.{layout_of}
use Rattle.gate_log.specs.ScanParts.{behind_frame, bytes_of}
use Rattle.gate_log.proofs.GateReads.{ends_there, long_enough}
use Rattle.gate_log.proofs.Heads.{none_short}
use Rattle.disk_model.proofs.LookLemmas.{looks_on}
use Rattle.gate_log.proofs.Scanning.{refuses_more, max_pieces, same_read}
use Rattle.gate_log.proofs.place.Place.read_frame.Goals as goal

pub returns-then-behind-le-HEAD_BYTES-clause-err : goal.returns-then-behind-le-HEAD_BYTES-clause-err
returns-then-behind-le-HEAD_BYTES-clause-err g c =
    let content : List ℕ = bytes_of g.D.Disk.states c.args.disk.now c.args.reader.now in
    let few = c.if-behind-le-HEAD_BYTES.true in
    inr (inr (
      c.damaged.ensures,
      λ honest rest holds is.
          let whole = holds.whole in
          none_short (layout_of c.args.self.version) c.args.self.expected (c.args.self.generation + 1) rest (omega (arith, few, whole, ap (λ (l : List ℕ). length l) is, length-drop (c.args.self.gate + 1) content)),
    ))

pub returns-in_err-ahead-clause-err : goal.returns-in_err-ahead-clause-err
returns-in_err-ahead-clause-err g c =
    let q = err_from_is_err_and c.from_residual-in_err-ahead.result c.from_residual-in_err-ahead.ensures.1 in
    let content : List ℕ = bytes_of g.D.Disk.states c.args.disk.now c.args.reader.now in
    rw (q.1, q.2)
    (refuses_more c.args.self.generation c.args.self.gate _ _ _
    (λ never honest rest holds is.
    let whole = holds.whole in
    never content rest (c.in_ok-reach.ensures.holds honest holds) is (omega (arith, whole, ap (λ (l : List ℕ). length l) is, length-drop (c.args.self.gate + 1) content)))
    c.in_err-ahead.ensures.err)

pub returns-in_err-reach-2-clause-looks : goal.returns-in_err-reach-2-clause-looks
returns-in_err-reach-2-clause-looks g c =
    let q = err_from_is_err_and c.from_residual-in_err-reach-2.result c.from_residual-in_err-reach-2.ensures.1 in
    rw (q.1, q.2)
    (looks_on g.D.Disk.states g.D.Disk.failures g.D.Disk.honest _ c.args.disk.now c.reach.new.disk c.reach-2.new.disk c.in_ok-reach.ensures.looks c.in_err-reach-2.ensures.looks)

pub returns-in_err-reach-2-clause-holds : goal.returns-in_err-reach-2-clause-holds
returns-in_err-reach-2-clause-holds g c = λ honest holds.
    let there = c.in_ok-reach.ensures.holds (c.in_err-reach-2.ensures.looks.was_honest honest) holds in
    let same = same_read g.D.Disk.states g.D.Disk.failures g.D.Disk.honest 0 c.args.disk.now c.reach.new.disk c.args.reader.now c.reach.new.reader c.in_ok-reach.ensures.looks c.in_ok-reach.ensures.file in
    subst (λ (l : List ℕ). Holds l c.reach-2.new.reader) same (c.in_err-reach-2.ensures.holds honest (subst (λ (l : List ℕ). Holds l c.reach.new.reader) (sym same) there))

pub returns-in_err-reach-2-clause-err : goal.returns-in_err-reach-2-clause-err
returns-in_err-reach-2-clause-err g c =
    let q = err_from_is_err_and c.from_residual-in_err-reach-2.result c.from_residual-in_err-reach-2.ensures.1 in
    let same = same_read g.D.Disk.states g.D.Disk.failures g.D.Disk.honest 0 c.args.disk.now c.reach.new.disk c.args.reader.now c.reach.new.reader c.in_ok-reach.ensures.looks c.in_ok-reach.ensures.file in
    rw (q.1, q.2)
    (refuses_more c.args.self.generation c.args.self.gate _ _ _
    (λ never honest rest holds is.
    let there = c.in_ok-reach.ensures.holds (c.in_err-reach-2.ensures.looks.was_honest honest) holds in
    absurd (never honest (subst (λ (l : List ℕ). Holds l c.reach.new.reader) (sym same) there)))
    c.in_err-reach-2.ensures.err)

pub returns-clause-looks : goal.returns-clause-looks
returns-clause-looks g c =
    looks_on g.D.Disk.states g.D.Disk.failures g.D.Disk.honest 0 c.args.disk.now c.reach.new.disk c.reach-2.new.disk c.in_ok-reach.ensures.looks c.in_ok-reach-2.ensures.looks

pub returns-clause-pieces : goal.returns-clause-pieces
returns-clause-pieces g c =
    let gate : ℕ = c.args.self.gate in
    let next : ℕ = behind_frame gate c.in_ok-ahead.ahead in
    let one : pieces_in (end_of c.reach.new.reader) ≡ max (pieces_in (end_of c.args.reader.now)) (pieces_in (gate + 1 + 5)) = c.in_ok-reach.ensures.pieces in
    let two : pieces_in (end_of c.reach-2.new.reader) ≡ max (pieces_in (end_of c.reach.new.reader)) (pieces_in (c.next_gate.result + 1)) = c.in_ok-reach-2.ensures.pieces in
    let some : gate + 6 ≤ next = c.in_ok-ahead.ensures.some in
    two ∙ ap₂ (λ (p n : ℕ). max p (pieces_in (n + 1))) one c.next_gate.ensures ∙ max_pieces (pieces_in (end_of c.args.reader.now)) (gate + 1 + 5) (next + 1) (omega (arith, some))

pub returns-clause-holds : goal.returns-clause-holds
returns-clause-holds g c = λ honest holds.
    let there = c.in_ok-reach.ensures.holds (c.in_ok-reach-2.ensures.looks.was_honest honest) holds in
    let same = same_read g.D.Disk.states g.D.Disk.failures g.D.Disk.honest 0 c.args.disk.now c.reach.new.disk c.args.reader.now c.reach.new.reader c.in_ok-reach.ensures.looks c.in_ok-reach.ensures.file in
    subst (λ (l : List ℕ). Holds l c.reach-2.new.reader) same (c.in_ok-reach-2.ensures.holds honest (subst (λ (l : List ℕ). Holds l c.reach.new.reader) (sym same) there))

pub returns-clause-ahead : goal.returns-clause-ahead
returns-clause-ahead g c = λ honest rest holds is.
    let content : List ℕ = bytes_of g.D.Disk.states c.args.disk.now c.args.reader.now in
    let there = c.in_ok-reach.ensures.holds (c.in_ok-reach-2.ensures.looks.was_honest honest) holds in
    let whole = holds.whole in
    c.in_ok-ahead.ensures.ahead content rest there is (omega (arith, whole, ap (λ (l : List ℕ). length l) is, length-drop (c.args.self.gate + 1) content))

pub returns-in_err-reach-clause-within : goal.returns-in_err-reach-clause-within
returns-in_err-reach-clause-within g c = λ honest size rest holds is reads.
    let q = err_from_is_err_and c.from_residual.result c.from_residual.ensures.1 in
    let long = long_enough (layout_of c.args.self.version) rest size reads in
    let tried = c.in_err-reach.ensures.tried in
    rw q.1 (omega (arith, long, tried))

pub returns-in_err-ahead-clause-within : goal.returns-in_err-ahead-clause-within
returns-in_err-ahead-clause-within g c = λ honest size rest holds is reads.
    let q = err_from_is_err_and c.from_residual-in_err-ahead.result c.from_residual-in_err-ahead.ensures.1 in
    let long = long_enough (layout_of c.args.self.version) rest size reads in
    let called = c.in_ok-reach.ensures.called in
    let pieces = c.in_ok-reach.ensures.pieces in
    rw q.1 (omega (arith, long, called, pieces))

pub returns-in_err-reach-2-clause-within : goal.returns-in_err-reach-2-clause-within
returns-in_err-reach-2-clause-within g c = λ honest size rest holds is reads.
    let q = err_from_is_err_and c.from_residual-in_err-reach-2.result c.from_residual-in_err-reach-2.ensures.1 in
    let gate : ℕ = c.args.self.gate in
    let content : List ℕ = bytes_of g.D.Disk.states c.args.disk.now c.args.reader.now in
    let there = c.in_ok-reach.ensures.holds (c.in_err-reach-2.ensures.looks.was_honest honest) holds in
    let whole = holds.whole in
    let comes = c.in_ok-ahead.ensures.ahead content rest there is (omega (arith, whole, ap (λ (l : List ℕ). length l) is, length-drop (gate + 1) content)) in
    let ends = ends_there (layout_of c.args.self.version) gate 165 rest size c.in_ok-ahead.ahead c.in_ok-ahead.ensures.fits comes reads in
    let next = c.next_gate.ensures in
    let long = long_enough (layout_of c.args.self.version) rest size reads in
    let called = c.in_ok-reach.ensures.called in
    let pieces = c.in_ok-reach.ensures.pieces in
    let tried = c.in_err-reach-2.ensures.tried in
    rw q.1 (omega (arith, ends, next, long, called, pieces, tried))
