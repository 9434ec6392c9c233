use Rattle.std.proofs.Common.{refl}
use Rattle.ticket_order.proofs.change_walk.NewChange.drawn.Goals as goal

pub returns : goal.returns
returns g = record { stripe = refl; part = g.act-reply.ensures.part; growth = g.act-reply.ensures.growth; outbox = g.act-reply.ensures.outbox; last = g.act-reply.ensures.last; position = g.position.ensures; reply = g.act-reply.ensures.reply }
