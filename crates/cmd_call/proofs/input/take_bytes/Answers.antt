use Rattle.std.proofs.Common.{arith, refl, take, ◌++◌}
use Rattle.std.proofs.lemmas.Result.{err_from_is_err_and}
use Rattle.cmd_call.proofs.Reading.{stops_piece}
use Rattle.cmd_call.proofs.input.take_bytes.Goals as goal

pub returns-in_err-take_byte-clause-breaks : goal.returns-in_err-take_byte-clause-breaks
returns-in_err-take_byte-clause-breaks g c =
    let from = err_from_is_err_and c.from_residual.result c.from_residual.ensures.1 in
    rw from.1
    (λ bytes e o r. stops_piece _ bytes c.args.piece.now c.loop-byte.byte-index _ e o _ (omega (arith, c.loop-byte-test.true)) refl
    (c.in_err-take_byte.ensures.breaks (bytes ++ take c.loop-byte.byte-index c.args.piece.now) e o (c.loop-byte.invariant.1 bytes e o r)))
