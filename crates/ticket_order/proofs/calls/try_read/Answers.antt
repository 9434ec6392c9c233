use Rattle.std.proofs.Common.{◌≡◌, ◌∙◌}
use Rattle.java_hash.specs.Stripes.{stripe_of}
use Rattle.ticket_order.proofs.calls.try_read.Goals as goal

pub read_from-requires-clause-stripe : goal.read_from-requires-clause-stripe
read_from-requires-clause-stripe g c =
    let here : c.stripe_of_spread-stripe.result ≡ stripe_of (g.S.Steps.stripe_count c.args.steps.now) c.args.read.key = c.stripe_of_spread-stripe.ensures.value c.as_str.result.now c.spread_of-spread.ensures ∙ (λ i. stripe_of (c.stripes.ensures i) (c.as_str.ensures.text i)) in
    rw c.in-Some.ensures.stripes here

pub read_from-requires-clause-found : goal.read_from-requires-clause-found
read_from-requires-clause-found g c = (g.S.Steps.recorded c.args.steps.now, record { between = c.in-Some.ensures.step.between; is = c.in-Some.ensures.step.is })

pub returns-in-Some-clause-made : goal.returns-in-Some-clause-made
returns-in-Some-clause-made g c = rw (← c.in-Some.ensures.stripes) (c.read_from.ensures.made _ (rw c.in-Some.ensures.stripes c.in-Some.ensures.step))

pub returns-in-Some-clause-refused : goal.returns-in-Some-clause-refused
returns-in-Some-clause-refused g c = rw (← c.in-Some.ensures.stripes) (c.read_from.ensures.refused _ (rw c.in-Some.ensures.stripes c.in-Some.ensures.step))

pub returns-in-None-clause-refused : goal.returns-in-None-clause-refused
returns-in-None-clause-refused g c =
    let at : c.stripe_of_spread-stripe.result ≡ stripe_of (g.S.Steps.stripe_count c.args.steps.now) c.args.read.key = c.stripe_of_spread-stripe.ensures.value c.as_str.result.now c.spread_of-spread.ensures ∙ (λ i. stripe_of (c.stripes.ensures i) (c.as_str.ensures.text i)) in
    (at, rw (← at) c.in-None.ensures.step)
