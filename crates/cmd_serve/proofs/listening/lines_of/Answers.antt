use Rattle.std.proofs.Common.{◌∙◌}
use Rattle.std.proofs.lemmas.Result.{IfOk-weaker}
use Rattle.cmd_serve.proofs.Lines.{are_one}
use Rattle.cmd_serve.proofs.listening.lines_of.Goals as goal

pub returns-in-Both : goal.returns-in-Both
returns-in-Both c =
    IfOk-weaker c.format-in-Both.result _ _ (λ lines is. rw c.in-Both.is (is ∙ are_one c.in-Both.port c.in-Both.path.now)) c.format-in-Both.ensures.ok
