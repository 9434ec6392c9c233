use Rattle.std.proofs.Common.{◌≡◌, ℕ, subst, ap, ◌∙◌}
use Rattle.std.proofs.lemmas.Result.{IfOk-weaker}
use Rattle.java_hash.specs.Stripes.{stripe_of}
use Rattle.ticket_order.specs.Calls.{IsNotBusy, MakesRead, RefusesRead}
use Rattle.stripe_locks.specs.Passes.{recorded, stripe_count}
use Rattle.stripe_locks.specs.Holding.{position_of, reply_of}
use Rattle.stripe_locks.specs.Waits.{TakesInTime}
use Rattle.stripe_locks.proofs.Misses.{found_in_time, read_in_time, err_both, read_over}
use Rattle.stripe_locks.proofs.stripes.Stripes.read.Goals as goal

pub read_on-requires-clause-found : goal.read_on-requires-clause-found
read_on-requires-clause-found g c =
    let at : c.stripe_of_spread-stripe.result ≡ stripe_of (stripe_count c.args.self.now) c.args.read.key = c.stripe_of_spread-stripe.ensures.value c.as_str.result.now c.spread_of-spread.ensures ∙ ap (stripe_of (stripe_count c.args.self.now)) c.as_str.ensures.text in
    let k = subst (λ (i : ℕ). TakesInTime (stripe_count c.args.self.now) (recorded c.args.pass.now) i c.take_in_time-content.result (recorded c.take_in_time-content.new.pass)) at c.take_in_time-content.ensures.step in
    (k.waited, found_in_time _ _ _ _ _ k)

pub returns-clause-made : goal.returns-clause-made
returns-clause-made g c =
    let at : c.stripe_of_spread-stripe.result ≡ stripe_of (stripe_count c.args.self.now) c.args.read.key = c.stripe_of_spread-stripe.ensures.value c.as_str.result.now c.spread_of-spread.ensures ∙ ap (stripe_of (stripe_count c.args.self.now)) c.as_str.ensures.text in
    let k = subst (λ (i : ℕ). TakesInTime (stripe_count c.args.self.now) (recorded c.args.pass.now) i c.take_in_time-content.result (recorded c.take_in_time-content.new.pass)) at c.take_in_time-content.ensures.step in
    IfOk-weaker c.read_on.result (λ held. MakesRead (stripe_count c.args.self.now) k.waited c.args.read (position_of held) (reply_of held) (recorded c.read_on.new.pass)) _ (λ held m. read_in_time _ _ _ _ _ _ _ _ k m) (c.read_on.ensures.made k.waited k.takes)

pub returns-clause-refused : goal.returns-clause-refused
returns-clause-refused g c =
    let at : c.stripe_of_spread-stripe.result ≡ stripe_of (stripe_count c.args.self.now) c.args.read.key = c.stripe_of_spread-stripe.ensures.value c.as_str.result.now c.spread_of-spread.ensures ∙ ap (stripe_of (stripe_count c.args.self.now)) c.as_str.ensures.text in
    let k = subst (λ (i : ℕ). TakesInTime (stripe_count c.args.self.now) (recorded c.args.pass.now) i c.take_in_time-content.result (recorded c.take_in_time-content.new.pass)) at c.take_in_time-content.ensures.step in
    err_both c.read_on.result (λ refusal. RefusesRead k.waited (stripe_of (stripe_count c.args.self.now) c.args.read.key) refusal (recorded c.read_on.new.pass)) IsNotBusy _
    (λ refusal refused free. record { waited = k.waited; waits = k.waits; refused = refused; not_busy = free }) (c.read_on.ensures.refused k.waited k.takes) c.read_on.ensures.not_busy

pub returns-clause-empty_handed : goal.returns-clause-empty_handed
returns-clause-empty_handed g c =
    let at : c.stripe_of_spread-stripe.result ≡ stripe_of (stripe_count c.args.self.now) c.args.read.key = c.stripe_of_spread-stripe.ensures.value c.as_str.result.now c.spread_of-spread.ensures ∙ ap (stripe_of (stripe_count c.args.self.now)) c.as_str.ensures.text in
    let k = subst (λ (i : ℕ). TakesInTime (stripe_count c.args.self.now) (recorded c.args.pass.now) i c.take_in_time-content.result (recorded c.take_in_time-content.new.pass)) at c.take_in_time-content.ensures.step in
    read_over _ _ k.waited _ c.args.read c.read_on.result (c.read_on.ensures.made k.waited k.takes) (c.read_on.ensures.refused k.waited k.takes) c.read_on.ensures.not_busy
