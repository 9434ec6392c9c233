use Rattle.std.proofs.Common.{◌∙◌}
use Rattle.connections.proofs.Gathering.{gathered_stays}
use Rattle.connections.proofs.outgoing.gather.Goals as goal

pub returns-in-Err-clause-refused : goal.returns-in-Err-clause-refused
returns-in-Err-clause-refused c =
    λ h. gathered_stays _ _ _ c.in-Err.ensures.0 _ (c.len-gathered.ensures ∙ c.args.out.now.ok.0) c.in-Err.ensures.2 c.truncate.ensures.items
