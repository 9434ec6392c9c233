use Rattle.flusher.proofs.OwnCalls.{change_goes_on}
use Rattle.journal.proofs.own_calls.change.Goals as goal

pub returns-clause-beside : goal.returns-clause-beside
returns-clause-beside g c = (change_goes_on _ _ _ _ _ c.try_call.ensures.made c.try_call.ensures.refused).beside
