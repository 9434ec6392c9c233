use Rattle.std.proofs.Common.{◌∙◌}
use Rattle.sim_script.proofs.Numbers.{number_gives}
use Rattle.sim_script.proofs.words.u64_of.Goals as goal

pub returns : goal.returns
returns c = c.ok.ensures.value ∙ number_gives 64 c.args.word.now _ c.parse.ensures.value.0
