use Rattle.std.proofs.Common.{subst, ap, map, ◌∙◌}
use Rattle.sim_script.specs.Lines.{line_of}
use Rattle.sim_script.specs.Scripts.{read_line}
use Rattle.sim_script.specs.LineWords.{Gives}
use Rattle.sim_script.proofs.parsing.read_line.Goals as goal

pub returns : goal.returns
unfolding read_line
returns c = subst (λ words. Gives (λ line. line) c.line_of.result (line_of words)) (ap (map (λ word. word.now)) c.as_slice.ensures.value ∙ c.in_ok-words.ensures) c.line_of.ensures
