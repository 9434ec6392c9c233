use Rattle.std.proofs.Common.{◌≡◌, ℕ, ◌<◌, ◌≤◌, length, subst, sym, ap, ◌∙◌, inl, inr, refl}
use Rattle.std.proofs.lemmas.Result.{IfOk-weaker}
use Rattle.java_hash.specs.Stripes.{stripe_of}
use Rattle.ticket_order.specs.Calls.{IsNotBusy, MakesCall, RefusesChange}
use Rattle.stripe_locks.specs.Passes.{recorded, stripe_count}
use Rattle.stripe_locks.specs.Holding.{position_of, reply_of}
use Rattle.stripe_locks.specs.Waits.{TakesInTime}
use Rattle.stripe_locks.proofs.Misses.{made_in_time, within_in_time, found_in_time, refused_in_time, err_both, change_over}
use Rattle.stripe_locks.proofs.stripes.Stripes.call.Goals as goal

pub call_on-requires-clause-found : goal.call_on-requires-clause-found
call_on-requires-clause-found g c =
    let at : c.stripe_of_spread-stripe.result ≡ stripe_of (stripe_count c.args.self.now) c.args.command.key = c.stripe_of_spread-stripe.ensures.value c.as_str.result.now c.spread_of-spread.ensures ∙ ap (stripe_of (stripe_count c.args.self.now)) c.as_str.ensures.text in
    let k = subst (λ (i : ℕ). TakesInTime (stripe_count c.args.self.now) (recorded c.args.pass.now) i c.take_in_time-content.result (recorded c.take_in_time-content.new.pass)) at c.take_in_time-content.ensures.step in
    (k.waited, found_in_time _ _ _ _ _ k)

pub call_on-requires-clause-within : goal.call_on-requires-clause-within
call_on-requires-clause-within g c = within_in_time _ _ c.args.command _ _ _ c.take_in_time-content.ensures.step (
    subst (λ (z : ℕ). length c.args.command.key ≤ z) (sym c.args.pass.now.limited) (c.is_above.ensures.within c.if-is_above.false))

pub returns-then-is_above-clause-refused : goal.returns-then-is_above-clause-refused
returns-then-is_above-clause-refused g c = inl record { longer = subst (λ (z : ℕ). z < length c.args.command.key) (sym c.args.pass.now.limited) (c.is_above.ensures.above c.if-is_above.true); refusal_is = refl; is = refl }

pub returns-clause-made : goal.returns-clause-made
returns-clause-made g c =
    let at : c.stripe_of_spread-stripe.result ≡ stripe_of (stripe_count c.args.self.now) c.args.command.key = c.stripe_of_spread-stripe.ensures.value c.as_str.result.now c.spread_of-spread.ensures ∙ ap (stripe_of (stripe_count c.args.self.now)) c.as_str.ensures.text in
    let k = subst (λ (i : ℕ). TakesInTime (stripe_count c.args.self.now) (recorded c.args.pass.now) i c.take_in_time-content.result (recorded c.take_in_time-content.new.pass)) at c.take_in_time-content.ensures.step in
    IfOk-weaker c.call_on.result (λ held. MakesCall (stripe_count c.args.self.now) k.waited c.args.command (position_of held) (reply_of held) (recorded c.call_on.new.pass)) _ (λ held m. made_in_time _ _ _ _ _ _ _ _ k m) (c.call_on.ensures.made k.waited (found_in_time _ _ _ _ _ k))

pub returns-clause-refused : goal.returns-clause-refused
returns-clause-refused g c =
    let at : c.stripe_of_spread-stripe.result ≡ stripe_of (stripe_count c.args.self.now) c.args.command.key = c.stripe_of_spread-stripe.ensures.value c.as_str.result.now c.spread_of-spread.ensures ∙ ap (stripe_of (stripe_count c.args.self.now)) c.as_str.ensures.text in
    let k = subst (λ (i : ℕ). TakesInTime (stripe_count c.args.self.now) (recorded c.args.pass.now) i c.take_in_time-content.result (recorded c.take_in_time-content.new.pass)) at c.take_in_time-content.ensures.step in
    err_both c.call_on.result (λ refusal. RefusesChange k.waited (stripe_of (stripe_count c.args.self.now) c.args.command.key) refusal (recorded c.call_on.new.pass)) IsNotBusy _
    (λ refusal refused free. inr (subst (λ (z : ℕ). length c.args.command.key ≤ z) (sym c.args.pass.now.limited) (c.is_above.ensures.within c.if-is_above.false), record { waited = k.waited; waits = k.waits; refused = refused; not_busy = free })) (refused_in_time _ _ _ _ _ _ k c.call_on.result (c.call_on.ensures.refused k.waited (found_in_time _ _ _ _ _ k))) c.call_on.ensures.not_busy

pub returns-clause-empty_handed : goal.returns-clause-empty_handed
returns-clause-empty_handed g c =
    let at : c.stripe_of_spread-stripe.result ≡ stripe_of (stripe_count c.args.self.now) c.args.command.key = c.stripe_of_spread-stripe.ensures.value c.as_str.result.now c.spread_of-spread.ensures ∙ ap (stripe_of (stripe_count c.args.self.now)) c.as_str.ensures.text in
    let k = subst (λ (i : ℕ). TakesInTime (stripe_count c.args.self.now) (recorded c.args.pass.now) i c.take_in_time-content.result (recorded c.take_in_time-content.new.pass)) at c.take_in_time-content.ensures.step in
    change_over _ _ k.waited _ c.args.command c.call_on.result (c.call_on.ensures.made k.waited (found_in_time _ _ _ _ _ k)) (refused_in_time _ _ _ _ _ _ k c.call_on.result (c.call_on.ensures.refused k.waited (found_in_time _ _ _ _ _ k))) c.call_on.ensures.not_busy
