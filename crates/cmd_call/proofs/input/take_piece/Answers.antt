use Rattle.std.proofs.Common.{◌++◌}
use Rattle.std.proofs.lemmas.Result.{on_err_weaker}
use Rattle.cmd_call.proofs.Appending.{on_ok_two}
use Rattle.cmd_call.proofs.Reading.{reads_answered, round_stops}
use Rattle.cmd_call.proofs.input.take_piece.Goals as goal

pub returns-clause-goes_on : goal.returns-clause-goes_on
returns-clause-goes_on g c =
    on_ok_two c.answer_round.result (λ answers none bytes e o r. reads_answered _ (bytes ++ c.args.piece.now) _ _ _ _ _ _ _ (c.in_ok-take_bytes.ensures.goes_on bytes e o r) _ _ _ _ none answers)
    c.answer_round.ensures.answers c.answer_round.ensures.asked

pub returns-clause-breaks : goal.returns-clause-breaks
returns-clause-breaks g c =
    on_err_weaker c.answer_round.result (λ b bytes e o r. round_stops _ (bytes ++ c.args.piece.now) _ _ _ _ _ _ _ (c.in_ok-take_bytes.ensures.goes_on bytes e o r) _ b) c.answer_round.ensures.breaks
