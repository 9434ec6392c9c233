use Rattle.std.proofs.Common.{◌≡◌, ◌+◌, ◌≤◌, ℕ, List, ◌++◌, length, take, drop, sym, ap, ap₂, ◌∙◌, arith}
use Rattle.std.proofs.lemmas.Result.{on_ok_weaker}
use Rattle.disk_model.specs.Files.{now}
use Rattle.file_pieces.specs.Buffer.{held_in}
use Rattle.file_pieces.specs.Pieces.{ReaderState}
use Rattle.file_pieces.proofs.PieceLemmas.{holds_more}
use Rattle.file_pieces.proofs.reader.FileReader.read_piece.Goals as goal

pub returns-clause-holds : goal.returns-clause-holds
returns-clause-holds g c = λ honest holds.
    let r : ReaderState = c.args.self.now in
    let content : List ℕ = (now (g.D.Disk.states c.args.disk.now) r.file).seen in
    let file : c.self.inside.file ≡ r.file = ap (λ (s : ReaderState). s.file) c.self.view_is in
    let len : c.self.inside.len ≡ r.len = ap (λ (s : ReaderState). s.len) c.self.view_is in
    let from : c.self.inside.from ≡ r.from = ap (λ (s : ReaderState). s.from) c.self.view_is in
    let held : held_in c.self.inside.buffer ≡ r.held = ap (λ (s : ReaderState). s.held) c.self.view_is in
    let size : length (held_in c.self.inside.buffer) ≡ length r.held = ap (λ (l : List ℕ). length l) held in
    let count : ℕ = c.min-count.result in
    let new : List ℕ = held_in c.read_more.new.self in
    let place : c.self.inside.from + c.len.result ≡ r.from + length r.held = omega arith in
    let fits : r.from + length r.held + count ≤ r.len = omega arith in
    let first : held_in c.make_room.new.self ≡ r.held = c.make_room.ensures.held ∙ held in
    let read : take count (drop (c.self.inside.from + c.len.result) (now (g.D.Disk.states c.args.disk.now) c.self.inside.file).seen) ≡ take count (drop (r.from + length r.held) content) =
    ap₂ (λ (n f : ℕ). take count (drop n (now (g.D.Disk.states c.args.disk.now) f).seen)) place file in
    on_ok_weaker c.read_more.result
    (λ (e : new ≡ held_in c.make_room.new.self ++ take count (drop (c.self.inside.from + c.len.result) (now (g.D.Disk.states c.args.disk.now) c.self.inside.file).seen)). record {
      whole = len ∙ holds.whole;
      held = holds_more content r count new holds fits (e ∙ ap₂ (λ (a b : List ℕ). a ++ b) first read) ∙ ap (λ (n : ℕ). take (length new) (drop n content)) (sym from);
    })
    (c.read_more.ensures.held honest)
