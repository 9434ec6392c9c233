use Rattle.std.proofs.Common.{None, false, ap, refl}
use Rattle.ticket_order.specs.declared.record.Holding.{Holding}
use Rattle.ticket_order.specs.declared.record.Record.{Record}
use Rattle.run_memory.proofs.showing.show_stripe.Goals as goal

pub give-requires : goal.give-requires
give-requires g c =
    let step = c.in-Some.ensures.step in
    let held : Holding = record { stripe = c.args.stripe; part = c.in-Some.content.part.map; outbox = c.in-Some.content.outbox.items; last = c.in-Some.content.last; has_drawn = false; looked = None } in
    record {
      fits = record {
        held = held;
        holding = ap (λ (v : Record). v.holding) step.is;
        stripe_is = refl;
        part_is = refl;
        outbox_is = refl;
        last_is = refl;
        suits = tt;
      };
    }
