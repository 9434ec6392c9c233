use Rattle.connections.proofs.Steps.{grew_given}
use Rattle.connections.proofs.exchange.Connection.give_up.Goals as goal

pub returns-clause-grew : goal.returns-clause-grew
returns-clause-grew g c =
    rw (c.give_up_row.ensures.empty, c.closed-self.ensures) (grew_given g.C.Calls.began g.C.Calls.finished g.C.Calls.gave_up _ _ _ c.give_up_row.ensures.given)
