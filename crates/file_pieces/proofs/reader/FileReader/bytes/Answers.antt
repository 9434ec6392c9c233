use Rattle.std.proofs.Common.{◌≡◌, ◌-◌, ℕ, List, take, drop, ap, ap₂, ◌∙◌}
use Rattle.file_pieces.specs.Pieces.{ReaderState}
use Rattle.file_pieces.proofs.PieceLemmas.{part_of}
use Rattle.file_pieces.proofs.reader.FileReader.bytes.Goals as goal

pub returns-clause-same : goal.returns-clause-same
returns-clause-same c = λ content holds.
    let r : ReaderState = c.args.self.now in
    let from : c.self.inside.from ≡ r.from = ap (λ (s : ReaderState). s.from) c.self.view_is in
    let held : c.as_slice.result.now ≡ r.held = c.as_slice.ensures ∙ ap (λ (s : ReaderState). s.held) c.self.view_is in
    ap₂ (λ (n : ℕ) (l : List ℕ). take (c.args.end - n - (c.args.at - n)) (drop (c.args.at - n) l)) from held
    ∙ part_of content r.held r.from c.args.at c.args.end c.requires.held c.requires.ordered c.requires.reached holds.held
