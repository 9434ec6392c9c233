use Rattle.checkpoint_walk.proofs.Walked.{refuses}
use Rattle.checkpoint_walk.proofs.capturing.hand_out.Goals as goal

pub returns-in-Refused-clause-refused : goal.returns-in-Refused-clause-refused
returns-in-Refused-clause-refused g c = refuses _ c.requires.0 c.requires.1 c.args.walk _ c.in-Refused.refusal c.requires.2 c.in-Refused.ensures.captured c.in-Refused.ensures.refused
