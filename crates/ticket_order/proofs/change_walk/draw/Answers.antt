use Rattle.ticket_order.proofs.Walking.{may_draw, drawn}
use Rattle.ticket_order.proofs.change_walk.draw.Goals as goal

pub ticket-ticket-requires : goal.ticket-ticket-requires
ticket-ticket-requires g c =
    let h = c.requires.2 in
    record { fits = may_draw _ c.requires.0 _ c.args.new.command c.args.taken h.0.stripe_is h.1 h.2 h.4 }

pub returns-clause-next : goal.returns-clause-next
returns-clause-next g c = λ b task h.
    rw c.more.ensures
    (drawn _ b _ _ task c.args.new.command c.ticket-ticket.result c.args.taken _ _ h.0 h.1 h.2 c.ticket-ticket.ensures.step c.drawn-taken.ensures h.4)
