use Rattle.ticket_order.proofs.Walking.{may_draw, content_drawn, made_change}
use Rattle.ticket_order.proofs.calls.change_ready.Goals as goal

pub ticket-ticket-requires : goal.ticket-ticket-requires
ticket-ticket-requires g c =
    let h = c.requires.1 in
    record { fits = may_draw _ c.requires.0 _ c.args.new.command c.args.taken h.0.stripe_is h.1 h.2 h.4 }

pub returns-clause-content : goal.returns-clause-content
returns-clause-content g c =
    let h = c.requires.1 in
    content_drawn c.requires.0 _ _ c.args.new.command _ c.args.taken _ _ h.1 c.ticket-ticket.ensures.step c.drawn.ensures

pub returns-clause-made : goal.returns-clause-made
returns-clause-made g c = λ b h.
    made_change _ b _ _ c.args.new.command _ c.args.taken _ _ h.0.stripe_is h.1 h.2 c.ticket-ticket.ensures.step c.drawn.ensures h.4
