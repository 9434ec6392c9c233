use Rattle.std.proofs.Common.{◌∙◌, inr}
use Rattle.cmd_call.proofs.Telling.{round_answers, round_cut}
use Rattle.cmd_call.proofs.rounds.answer_round.Goals as goal

pub returns-in-Err-clause-breaks : goal.returns-in-Err-clause-breaks
returns-in-Err-clause-breaks g c =
    inr (round_cut _ _ _ _ _ _ _ _ _ _ _ _ _ _ c.send.ensures (c.deref.ensures.value ∙ c.requires) c.in_ok-tell_round.ensures c.deref-2.ensures.value c.new-text.ensures.bytes
    c.as_bytes.ensures.value c.in-Err.ensures)

pub returns-clause-answers : goal.returns-clause-answers
returns-clause-answers g c =
    round_answers _ _ _ _ _ _ _ _ _ _ _ _ _ _ c.send.ensures (c.deref.ensures.value ∙ c.requires) c.in_ok-tell_round.ensures c.deref-2.ensures.value c.new-text.ensures.bytes
    c.as_bytes.ensures.value c.in_default.ensures
