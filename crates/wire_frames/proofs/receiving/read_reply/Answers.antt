use Rattle.std.proofs.Common.{◌≡◌}
use Rattle.std.proofs.lemmas.Result.{err_from_is_err_and}
use Rattle.wire_frames.specs.declared.answers.AnswerError.TheVariants.{NotAReply, NoMemory}
use Rattle.wire_frames.proofs.Received.{no_length, no_body, whole_frame, whole_reply, within_frame}
use Rattle.wire_frames.proofs.receiving.read_reply.Goals as goal

refused : NotAReply ≡ NoMemory → ⊥
refused e = absurd cc

pub returns-in_err-len : goal.returns-in_err-len
returns-in_err-len g c =
    let from = err_from_is_err_and c.from_residual.result c.from_residual.ensures.1 in
    rw (from.1, from.2) (no_length _ _ _ c.in_err-len.ensures)

pub returns-in_err-body : goal.returns-in_err-body
returns-in_err-body g c =
    let from = err_from_is_err_and c.from_residual-in_err-body.result c.from_residual-in_err-body.ensures.1 in
    let len = c.in_ok-len.ensures in
    rw (from.1, from.2) (no_body _ _ _ c.in_ok-len.len len.0 len.1 _ c.in_err-body.ensures)

pub returns-in-Ok : goal.returns-in-Ok
returns-in-Ok g c =
    let len = c.in_ok-len.ensures in
    let body = c.in_ok-body.ensures in
    whole_reply _ _ _ c.in_ok-len.len len.0 len.1 c.in_ok-body.body.items body.0 body.1 c.in-Ok.answer (rw c.deref.ensures.value at c.in-Ok.ensures.found)

pub returns-in-Err-NotAReply : goal.returns-in-Err-NotAReply
returns-in-Err-NotAReply g c =
    let len = c.in_ok-len.ensures in
    let body = c.in_ok-body.ensures in
    let only = rw (c.deref.ensures.value, c.in-Err-NotAReply.field-0-is) at c.in-Err-NotAReply.ensures.only in
    (c.in_ok-body.body.items, whole_frame _ _ _ c.in_ok-len.len len.0 len.1 c.in_ok-body.body.items body.0 body.1, λ reply is. refused (only reply is))

pub returns : goal.returns
returns g c =
    let len = c.in_ok-len.ensures in
    let body = c.in_ok-body.ensures in
    within_frame _ _ _ c.in_ok-len.len len.0 len.1 c.in_ok-body.body.items body.0 body.1
