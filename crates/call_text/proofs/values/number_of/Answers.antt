use Rattle.std.proofs.Common.{◌∙◌}
use Rattle.call_text.proofs.ValueWords.{number_gives}
use Rattle.call_text.proofs.values.number_of.Goals as goal

pub returns : goal.returns
returns c = c.ok.ensures.value ∙ number_gives c.args.word.now _ c.parse.ensures.value.0
