use Rattle.std.proofs.Common.{◌∙◌}
use Rattle.call_text.proofs.Thresholds.{unsigned_gives}
use Rattle.call_text.proofs.called.unsigned_of.Goals as goal

pub returns : goal.returns
returns c = c.ok.ensures.value ∙ unsigned_gives c.args.word.now _ c.parse.ensures.value.0
