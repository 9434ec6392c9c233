use Rattle.flusher.proofs.OwnCalls.{look_goes_on}
use Rattle.journal.proofs.own_calls.look_up.Goals as goal

pub returns-clause-beside : goal.returns-clause-beside
returns-clause-beside g c = (look_goes_on _ _ _ _ _ c.try_read.ensures.made c.try_read.ensures.refused).beside
