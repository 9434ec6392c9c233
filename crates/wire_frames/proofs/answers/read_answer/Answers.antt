use Rattle.std.proofs.Common.{◌∙◌}
use Rattle.std.proofs.lemmas.Result.{err_from_is_err_and}
use Rattle.wire_frames.specs.Answers.{reply_value}
use Rattle.wire_frames.proofs.Answered.{value_fits, value_is}
use Rattle.wire_frames.proofs.answers.read_answer.Goals as goal

pub returns-in_err-value-clause-only : goal.returns-in_err-value-clause-only
returns-in_err-value-clause-only c answer is =
    let from = err_from_is_err_and c.from_residual.result c.from_residual.ensures.1 in
    let spelled = value_is c.args.body.now answer c.in-Some.status.now c.in-Some.rest.now is c.in-Some.ensures.cases.0 in
    rw from.1 (from.2 ∙ c.in_err-value.ensures.only (reply_value answer) (value_fits answer is.fits) spelled)
