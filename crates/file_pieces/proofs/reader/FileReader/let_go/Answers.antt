use Rattle.std.proofs.Common.{◌≡◌, ◌+◌, ◌≤◌, ℕ, List, length, take, drop, sym, subst, arith}
use Rattle.file_pieces.specs.Buffer.{held_in}
use Rattle.file_pieces.specs.Pieces.{ReaderState, Holds}
use Rattle.file_pieces.proofs.PieceLemmas.{holds_less}
use Rattle.file_pieces.proofs.reader.FileReader.let_go.Goals as goal

pub returns-clause-holds : goal.returns-clause-holds
returns-clause-holds c = λ content holds.
    let before = subst (λ (r : ReaderState). Holds content r) (sym c.self.view_is) holds in
    let held : List ℕ = held_in c.self.inside.buffer in
    let count : ℕ = c.min-count.result in
    let few : count ≤ length held = omega arith in
    record {
      whole = before.whole;
      held = subst (λ (l : List ℕ). l ≡ take (length l) (drop (c.self.inside.from + count) content)) (sym c.let_go.ensures) (holds_less content held c.self.inside.from count few before.held);
    }
