use Rattle.std.proofs.Common.{◌≡◌, ◌+◌, ◌*◌, ◌%◌, ◌<◌, ◌≤◌, ℕ, List, min, max, length, sym, ap, subst, ◌∙◌, arith}
use Rattle.std.proofs.lemmas.Result.{err_from_is_err_and}
use Rattle.disk_model.specs.Files.{now}
use Rattle.file_pieces.specs.Pieces.{ReaderState, Holds, end_of, pieces_in}
use Rattle.disk_model.proofs.LookLemmas.{looks_on, same_file}
use Rattle.file_pieces.proofs.PieceLemmas.{one_more, later}
use Rattle.file_pieces.proofs.reader.FileReader.reach.Goals as goal

pub loop-self-preserved : goal.loop-self-preserved
loop-self-preserved g c =
    let inv = c.loop-self.invariant in
    let old : ReaderState = c.args.self.now in
    let mid : ReaderState = c.loop-self.self in
    let new : ReaderState = c.read_piece.new.self in
    let ok = c.in_ok-read_piece.ensures in
    let before : end_of mid < mid.len = omega arith in
    let whole : end_of mid % 65536 ≡ 0 = subst (λ (n : ℕ). n % 65536 ≡ 0) c.end.ensures.place (c.end.ensures.whole (omega arith)) in
    let place : end_of new ≡ min mid.len (end_of mid + 65536) = ok.end in
    let one : pieces_in (end_of new) ≡ pieces_in (end_of mid) + 1 = ap (λ (n : ℕ). pieces_in n) place ∙ one_more mid.len (end_of mid) before whole in
    let behind : pieces_in (end_of mid) + 1 ≤ pieces_in c.args.end = later (end_of mid) c.args.end (omega arith) whole in
    let counted = inv.called in
    let called = ok.called in
    let forward = inv.forward in
    let same = same_file g.D.Disk.states g.D.Disk.failures g.D.Disk.honest 0 c.args.disk.now c.loop-self.disk mid.file inv.looks
    ∙ ap (λ (n : ℕ). (now (g.D.Disk.states c.args.disk.now) n).seen) inv.file.file in
    record {
      looks = looks_on g.D.Disk.states g.D.Disk.failures g.D.Disk.honest 0 c.args.disk.now c.loop-self.disk c.read_piece.new.disk inv.looks ok.looks;
      file = record { file = ok.file.file ∙ inv.file.file; len = ok.file.len ∙ inv.file.len };
      from = ok.from ∙ inv.from;
      forward = omega (arith, forward, place, before);
      no_more = omega (arith, one, behind);
      called = omega (arith, one, counted, called);
      holds = λ honest holds.
          let there = inv.holds (ok.looks.was_honest honest) holds in
          subst (λ (content : List ℕ). Holds content new) same (ok.holds honest (subst (λ (content : List ℕ). Holds content mid) (sym same) there));
    }

pub returns-in_err-read_piece-clause-looks : goal.returns-in_err-read_piece-clause-looks
returns-in_err-read_piece-clause-looks g c =
    let q = err_from_is_err_and c.from_residual.result c.from_residual.ensures.1 in
    rw (q.1, q.2)
    (looks_on g.D.Disk.states g.D.Disk.failures g.D.Disk.honest _ c.args.disk.now c.loop-self.disk c.read_piece.new.disk c.loop-self.invariant.looks c.in_err-read_piece.ensures.looks)

pub returns-in_err-read_piece-clause-short : goal.returns-in_err-read_piece-clause-short
returns-in_err-read_piece-clause-short g c = λ honest holds.
    let q = err_from_is_err_and c.from_residual.result c.from_residual.ensures.1 in
    let inv = c.loop-self.invariant in
    let mid : ReaderState = c.loop-self.self in
    let same = same_file g.D.Disk.states g.D.Disk.failures g.D.Disk.honest 0 c.args.disk.now c.loop-self.disk mid.file inv.looks
    ∙ ap (λ (n : ℕ). (now (g.D.Disk.states c.args.disk.now) n).seen) inv.file.file in
    let there = inv.holds (c.in_err-read_piece.ensures.looks.was_honest honest) holds in
    rw (q.1, q.2) (c.in_err-read_piece.ensures.short honest (subst (λ (content : List ℕ). Holds content mid) (sym same) there))
