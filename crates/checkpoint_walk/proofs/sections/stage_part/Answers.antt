use Rattle.std.proofs.Common.{◌∙◌}
use Rattle.checkpoint_walk.proofs.Walked.{given_if}
use Rattle.checkpoint_walk.proofs.sections.stage_part.Goals as goal

pub returns-clause-ok : goal.returns-clause-ok
returns-clause-ok c =
    given_if c.section.result c.args.writer.now c.section.new.self c.args.mark c.deref.result.now _ (c.deref.ensures.value ∙ c.in_ok-entries.ensures.ok) c.section.ensures.ok c.section.ensures.staged
