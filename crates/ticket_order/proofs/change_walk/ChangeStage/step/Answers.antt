use Rattle.std.proofs.Common.{refl}
use Rattle.ticket_order.proofs.Walking.{may_give_back, change_failed, change_spent, change_starved}
use Rattle.ticket_order.proofs.change_walk.ChangeStage.step.Goals as goal

pub returns-else-alive-clause-next : goal.returns-else-alive-clause-next
returns-else-alive-clause-next g c = λ b task f.
    let h = rw c.in-HasTaken.is at f in
    rw c.refused.ensures (change_failed _ b _ _ task c.in-HasTaken.new.command c.in-HasTaken.taken h.0 h.1 h.2 (rw c.if-alive.false at c.alive.ensures.step))

pub returns-then-look-ge-TICKET_LIMIT-clause-next : goal.returns-then-look-ge-TICKET_LIMIT-clause-next
returns-then-look-ge-TICKET_LIMIT-clause-next g c = λ b task f.
    let h = rw c.in-IsAlive.is at f in
    rw c.refused-then-look-ge-TICKET_LIMIT.ensures
    (change_spent _ b _ _ task c.in-IsAlive.new.command _ c.in-IsAlive.taken h.0 h.1 c.look.ensures.step c.if-look-ge-TICKET_LIMIT.true)

pub returns-in-Err-clause-next : goal.returns-in-Err-clause-next
returns-in-Err-clause-next g c = λ b task f.
    let h = rw c.in-IsAlive.is at f in
    rw c.refused-in-Err.ensures
    (change_starved _ b _ _ task c.in-IsAlive.new.command _ c.in-IsAlive.taken _ _ h.0 h.1 c.look.ensures.step c.if-look-ge-TICKET_LIMIT.false refl c.prepare.ensures.part c.prepare.ensures.outbox c.prepare.ensures.last c.in-Err.ensures.err)

pub draw-requires : goal.draw-requires
draw-requires g c = (c.requires.0, c.requires.1, rw c.in-IsReady.is at c.requires.2)

pub returns-in-IsReady-clause-next : goal.returns-in-IsReady-clause-next
returns-in-IsReady-clause-next g c = λ b task f. c.draw.ensures.next b task (rw c.in-IsReady.is at f)

pub give-requires : goal.give-requires
give-requires g c =
    let h = rw c.in-HasDrawn.is at c.requires.2 in
    record { fits = may_give_back _ _ c.in-HasDrawn.taken h.content }
