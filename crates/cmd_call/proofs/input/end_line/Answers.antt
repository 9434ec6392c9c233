use Rattle.std.proofs.Common.{◌∙◌, ◌++◌, ◌∷◌, [], ap}
use Rattle.std.proofs.lemmas.Result.{err_from_is_err_and, on_err_weaker}
use Rattle.call_text.specs.Names.{Text}
use Rattle.cmd_call.specs.Lines.{asked_in}
use Rattle.cmd_call.proofs.Appending.{on_ok_two}
use Rattle.cmd_call.proofs.Reading.{round_breaks, underway_answered, underway_breaks, underway_more}
use Rattle.cmd_call.proofs.input.end_line.Goals as goal

pub returns-in_err-add-clause-breaks : goal.returns-in_err-add-clause-breaks
returns-in_err-add-clause-breaks g c =
    let from = err_from_is_err_and c.from_residual.result c.from_residual.ensures.1 in rw from.1 (λ whole e o u. underway_breaks _ _ _ _ _ whole _ _ _ u)

pub returns-clause-goes_on : goal.returns-clause-goes_on
returns-clause-goes_on g c =
    let more = c.in_ok-add.ensures.asked ∙ ap (λ (line : Text). c.args.lines.now.round.asked.items ++ asked_in line ∷ []) c.deref.ensures.value in
    on_ok_two c.answer_round.result (λ answers none whole e o u. underway_answered _ _ _ _ _ _ _ _ _ _ _ _ none (underway_more _ _ _ _ _ whole _ _ _ _ more u) answers)
    c.answer_round.ensures.answers c.answer_round.ensures.asked

pub returns-clause-breaks : goal.returns-clause-breaks
returns-clause-breaks g c =
    let more = c.in_ok-add.ensures.asked ∙ ap (λ (line : Text). c.args.lines.now.round.asked.items ++ asked_in line ∷ []) c.deref.ensures.value in
    on_err_weaker c.answer_round.result (λ b whole e o u. round_breaks _ _ _ _ _ _ _ _ _ (underway_more _ _ _ _ _ whole _ _ _ _ more u) b) c.answer_round.ensures.breaks
