use Rattle.connections.proofs.Steps.{grew_begun, grew_none, message_begins, partial_left}
use Rattle.connections.proofs.exchange.Connection.begin.Goals as goal

pub returns-then-is_ready-clause-grew : goal.returns-then-is_ready-clause-grew
returns-then-is_ready-clause-grew g c =
    let ready = c.is_ready.ensures.ready c.if-is_ready.true in
    grew_begun g.C.Calls.began g.C.Calls.finished g.C.Calls.gave_up _ _ _ _ _ c.begin_row.ensures.begun ready.1 ready.0

pub returns-then-is_ready-clause-begins : goal.returns-then-is_ready-clause-begins
returns-then-is_ready-clause-begins g c =
    λ may room empty. message_begins g.C.Calls.began g.C.Calls.finished g.C.Calls.gave_up _ _ _ _ _ c.begin_row.ensures.begun may.2 empty

pub returns-then-is_ready-clause-partial : goal.returns-then-is_ready-clause-partial
returns-then-is_ready-clause-partial g c =
    λ on none room empty opened. partial_left g.C.Calls.began g.C.Calls.finished g.C.Calls.gave_up _ _ _ _ _ c.begin_row.ensures.begun empty opened

pub returns-else-is_ready-clause-grew : goal.returns-else-is_ready-clause-grew
returns-else-is_ready-clause-grew g c = grew_none g.C.Calls.began g.C.Calls.finished g.C.Calls.gave_up _ _
