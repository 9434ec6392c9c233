use Rattle.std.proofs.Common.{◌≡◌, ◌∙◌, ◌==◌, length, true, false, sym}
use Rattle.std.proofs.lemmas.Result.{on_err_weaker, on_ok_weaker}
use Rattle.cmd_call.proofs.Reading.{last_answers, last_breaks, no_last_answers, no_last_breaks}
use Rattle.cmd_call.proofs.input.finish.Goals as goal

pub returns-then-is_empty-clause-answers : goal.returns-then-is_empty-clause-answers
returns-then-is_empty-clause-answers g c =
    let empty : (length c.args.lines.now.part.items == 0) ≡ true = rw (sym c.as_slice-part.ensures.value) (sym c.is_empty.ensures ∙ c.if-is_empty.true) in
    on_ok_weaker c.answer_round.result (λ a whole e o u. no_last_answers _ _ _ _ _ _ _ whole _ _ _ _ empty u a) c.answer_round.ensures.answers

pub returns-then-is_empty-clause-breaks : goal.returns-then-is_empty-clause-breaks
returns-then-is_empty-clause-breaks g c =
    let empty : (length c.args.lines.now.part.items == 0) ≡ true = rw (sym c.as_slice-part.ensures.value) (sym c.is_empty.ensures ∙ c.if-is_empty.true) in
    on_err_weaker c.answer_round.result (λ b whole e o u. no_last_breaks _ _ _ _ _ _ whole _ _ _ empty u b) c.answer_round.ensures.breaks

pub returns-clause-answers : goal.returns-clause-answers
returns-clause-answers g c =
    let some : (length c.args.lines.now.part.items == 0) ≡ false = rw (sym c.as_slice-part.ensures.value) (sym c.is_empty.ensures ∙ c.if-is_empty.false) in
    on_ok_weaker c.answer_round-2.result (λ a whole e o u. last_answers _ _ _ _ _ _ _ whole _ _ _ _ some (c.in_ok-end_line.ensures.goes_on whole e o u) a) c.answer_round-2.ensures.answers

pub returns-clause-breaks : goal.returns-clause-breaks
returns-clause-breaks g c =
    let some : (length c.args.lines.now.part.items == 0) ≡ false = rw (sym c.as_slice-part.ensures.value) (sym c.is_empty.ensures ∙ c.if-is_empty.false) in
    on_err_weaker c.answer_round-2.result (λ b whole e o u. last_breaks _ _ _ _ _ _ whole _ _ _ some (c.in_ok-end_line.ensures.goes_on whole e o u) b) c.answer_round-2.ensures.breaks
