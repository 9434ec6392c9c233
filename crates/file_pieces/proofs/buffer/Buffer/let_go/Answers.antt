use Rattle.std.proofs.Common.{ℕ, arith}
use Rattle.std.proofs.lemmas.List.{length-take, length-drop}
use Rattle.file_pieces.proofs.BufferLemmas.{consumed}
use Rattle.file_pieces.proofs.buffer.Buffer.let_go.Goals as goal

pub returns : goal.returns
returns c =
    let w = c.args.self.now in
    consumed w.bytes.items w.start w.end c.args.count (omega (arith, length-take {A = ℕ}, length-drop {A = ℕ}))
