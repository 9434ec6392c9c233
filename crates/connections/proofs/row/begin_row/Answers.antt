use Rattle.std.proofs.Common.{◌<◌, ◌≤◌, [], length, refl, ◌∙◌, arith}
use Rattle.connections.proofs.Beginning.{beginning_none, begins_more, begins_last, begins_some, begins_enough}
use Rattle.connections.proofs.Owning.{owns_none}
use Rattle.connections.proofs.row.begin_row.Goals as goal

pub messages-init : goal.messages-init
messages-init g c = (([], beginning_none g.C.Calls.began g.C.Calls.finished g.C.Calls.gave_up _ _ _ c.requires.empty), refl, c.requires.room, owns_none g.C.Calls.owns _ _ c.requires.empty, λ held p. p)

pub begin_next-requires : goal.begin_next-requires
begin_next-requires g c = record { room = omega arith; owned = c.messages.invariant.3 }

pub messages-preserved : goal.messages-preserved
messages-preserved g c =
    let before = c.messages.invariant.0 in
    let room : length c.messages.row.items < 64 = omega (arith, c.messages.row.ok.0) in
    (begins_more g.C.Calls.began g.C.Calls.finished g.C.Calls.gave_up _ _ _ _ _ _ _ _ _ before.1 room _ c.if-begin_next.false c.begin_next.ensures.begun, c.begin_next.ensures.capacity ∙ c.messages.invariant.1, omega arith, c.begin_next.ensures.owned, λ held p. c.begin_next.ensures.others held (c.messages.invariant.4 held p))

pub returns-then-begin_next-clause-begun : goal.returns-then-begin_next-clause-begun
returns-then-begin_next-clause-begun g c =
    let before = c.messages.invariant.0 in
    let room : length c.messages.row.items < 64 = omega (arith, c.messages.row.ok.0) in
    begins_last g.C.Calls.began g.C.Calls.finished g.C.Calls.gave_up _ _ _ _ _ _ _ _ _ before.1 room _ c.if-begin_next.true c.begin_next.ensures.begun

pub returns-clause-begun : goal.returns-clause-begun
returns-clause-begun g c =
    let before = c.messages.invariant.0 in
    let some : 1 ≤ length c.messages.row.items = omega (arith, c.messages.row.ok.0) in
    begins_some g.C.Calls.began g.C.Calls.finished g.C.Calls.gave_up _ _ _ _ _ _ some before.1

pub returns-then-room-eq0-clause-begun : goal.returns-then-room-eq0-clause-begun
returns-then-room-eq0-clause-begun g c =
    let before = c.messages.invariant.0 in
    let room : length c.messages.row.items < 64 = omega (arith, c.messages.row.ok.0) in
    begins_enough g.C.Calls.began g.C.Calls.finished g.C.Calls.gave_up _ _ _ _ _ _ _ _ _ before.1 room _ c.if-begin_next.false c.begin_next.ensures.begun

pub returns-then-begin_next-clause-others : goal.returns-then-begin_next-clause-others
returns-then-begin_next-clause-others g c = λ held p. c.begin_next.ensures.others held (c.messages.invariant.4 held p)
