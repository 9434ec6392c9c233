use Rattle.std.proofs.Common.{rules, ◌≡◌, None, false, [], ap, refl, ◌∙◌}
use Rattle.ticket_order.specs.declared.record.Holding.{Holding}
use Rattle.ticket_order.specs.declared.record.Record.{Record}
use Rattle.bench_map.proofs.sweeps.sweep_stripe.Goals as goal

pub give-requires : goal.give-requires
give-requires g c =
    let step = c.in-Some.ensures.step in
    let held : Holding = record { stripe = c.args.stripe; part = c.in-Some.content.part.map; outbox = c.in-Some.content.outbox.items; last = c.in-Some.content.last; has_drawn = false; looked = None } in
    let swept : c.replace-entries.new.dest.items ≡ [] = search rules in
    record {
      fits = record {
        held = held;
        holding = ap (λ (v : Record). v.holding) step.is;
        stripe_is = refl;
        part_is = refl;
        outbox_is = swept;
        last_is = refl;
        suits = (ap (λ (v : Record). v.keeper) step.is ∙ c.requires.keeper, refl);
      };
    }
