use Rattle.std.proofs.Common.{◌≡◌, ℕ, ◌<◌, ◌≤◌, length, ◌∙◌, inl, inr, refl, subst, sym}
use Rattle.std.proofs.lemmas.Result.{IfErr-weaker}
use Rattle.java_hash.specs.Stripes.{stripe_of}
use Rattle.ticket_order.specs.declared.record.Record.{Record}
use Rattle.ticket_order.specs.Records.{IsWithin}
use Rattle.ticket_order.proofs.calls.try_call.Goals as goal

pub returns-then-is_above-clause-refused : goal.returns-then-is_above-clause-refused
returns-then-is_above-clause-refused g c = inl record { longer = subst (λ (z : ℕ). z < length c.args.command.key) c.key_limit.ensures (c.is_above.ensures.above c.if-is_above.true); refusal_is = refl; is = refl }

pub change_on-requires-clause-stripe : goal.change_on-requires-clause-stripe
change_on-requires-clause-stripe g c =
    let here : c.stripe_of_spread-stripe.result ≡ stripe_of (g.S.Steps.stripe_count c.args.steps.now) c.args.command.key = c.stripe_of_spread-stripe.ensures.value c.as_str.result.now c.spread_of-spread.ensures ∙ (λ i. stripe_of (c.stripes.ensures i) (c.as_str.ensures.text i)) in
    rw c.in-Some.ensures.stripes here

pub change_on-requires-clause-within : goal.change_on-requires-clause-within
change_on-requires-clause-within g c =
    subst (λ (r : Record). IsWithin r.opening.key_limit c.args.command) (sym c.in-Some.ensures.step.is) (subst (λ (z : ℕ). length c.args.command.key ≤ z) c.key_limit.ensures (c.is_above.ensures.within c.if-is_above.false))

pub change_on-requires-clause-found : goal.change_on-requires-clause-found
change_on-requires-clause-found g c = (g.S.Steps.recorded c.args.steps.now, record { between = c.in-Some.ensures.step.between; is = c.in-Some.ensures.step.is })

pub returns-in-Some-clause-made : goal.returns-in-Some-clause-made
returns-in-Some-clause-made g c = rw (← c.in-Some.ensures.stripes) (c.change_on.ensures.made _ (record { between = c.in-Some.ensures.step.between; is = c.in-Some.ensures.step.is }))

pub returns-in-Some-clause-refused : goal.returns-in-Some-clause-refused
returns-in-Some-clause-refused g c = rw (← c.in-Some.ensures.stripes)
    (IfErr-weaker c.change_on.result _ _ (λ refusal refused. inr (subst (λ (z : ℕ). length c.args.command.key ≤ z) c.key_limit.ensures (c.is_above.ensures.within c.if-is_above.false), refused (λ failed. c.in-Some.ensures.step.rises))) (c.change_on.ensures.refused _ (record { between = c.in-Some.ensures.step.between; is = c.in-Some.ensures.step.is })))

pub returns-in-None-clause-refused : goal.returns-in-None-clause-refused
returns-in-None-clause-refused g c =
    let at : c.stripe_of_spread-stripe.result ≡ stripe_of (g.S.Steps.stripe_count c.args.steps.now) c.args.command.key = c.stripe_of_spread-stripe.ensures.value c.as_str.result.now c.spread_of-spread.ensures ∙ (λ i. stripe_of (c.stripes.ensures i) (c.as_str.ensures.text i)) in
    inr (subst (λ (z : ℕ). length c.args.command.key ≤ z) c.key_limit.ensures (c.is_above.ensures.within c.if-is_above.false), (at, rw (← at) c.in-None.ensures.step))
