use Rattle.std.proofs.lemmas.Result.{err_from_is_err_and, on_err_weaker}
use Rattle.cmd_call.proofs.Appending.{on_ok_two}
use Rattle.cmd_call.proofs.Reading.{line_stops, reads_line, reads_stop}
use Rattle.cmd_call.proofs.input.take_byte.Goals as goal

pub returns-then-byte-eq-LINE_END-clause-goes_on : goal.returns-then-byte-eq-LINE_END-clause-goes_on
returns-then-byte-eq-LINE_END-clause-goes_on g c =
    on_ok_two c.end_line.result (λ goes empty bytes e o r. reads_line _ bytes _ _ _ _ _ _ _ r _ _ _ _ _ _ c.if-byte-eq-LINE_END.true empty goes)
    c.end_line.ensures.goes_on c.end_line.ensures.part

pub returns-then-byte-eq-LINE_END-clause-breaks : goal.returns-then-byte-eq-LINE_END-clause-breaks
returns-then-byte-eq-LINE_END-clause-breaks g c =
    on_err_weaker c.end_line.result (λ b bytes e o r. line_stops _ bytes _ _ _ _ _ _ _ r _ _ c.if-byte-eq-LINE_END.true b) c.end_line.ensures.breaks

pub returns-in_err-push-clause-breaks : goal.returns-in_err-push-clause-breaks
returns-in_err-push-clause-breaks g c =
    let from = err_from_is_err_and c.from_residual.result c.from_residual.ensures.1 in rw from.1 (λ bytes e o r. reads_stop _ bytes _ _ _ _ _ _ _ r _)
