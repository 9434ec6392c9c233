use Rattle.std.proofs.Common.{◌≡◌, ℕ, false, subst, sym}
use Rattle.java_hash.specs.Stripes.{stripe_of}
use Rattle.ticket_order.specs.Calls.{FindsAlive, GivesBack, HasFound}
use Rattle.ticket_order.proofs.calls.call_on.Goals as goal

pub change_on-requires-clause-found : goal.change_on-requires-clause-found
change_on-requires-clause-found g c =
    let at : c.stripe_of_spread-stripe.result ≡ stripe_of (g.S.Steps.stripe_count c.args.steps.now) c.args.command.key = subst (λ (n : ℕ). c.stripe_of_spread-stripe.result ≡ stripe_of n c.args.command.key) c.stripes.ensures (c.stripe_of_spread-stripe.ensures.value c.args.command.key c.requires.spread) in
    (c.requires.found.0, subst (λ (i : ℕ). HasFound c.requires.found.0 i c.args.content (g.S.Steps.recorded c.args.steps.now)) (sym at) c.requires.found.1)

pub returns-clause-made : goal.returns-clause-made
returns-clause-made g c = λ b found.
    let at : c.stripe_of_spread-stripe.result ≡ stripe_of (g.S.Steps.stripe_count c.args.steps.now) c.args.command.key = subst (λ (n : ℕ). c.stripe_of_spread-stripe.result ≡ stripe_of n c.args.command.key) c.stripes.ensures (c.stripe_of_spread-stripe.ensures.value c.args.command.key c.requires.spread) in
    c.change_on.ensures.made b (subst (λ (i : ℕ). HasFound b i c.args.content (g.S.Steps.recorded c.args.steps.now)) (sym at) found)

pub returns-clause-refused : goal.returns-clause-refused
returns-clause-refused g c = λ b found.
    let at : c.stripe_of_spread-stripe.result ≡ stripe_of (g.S.Steps.stripe_count c.args.steps.now) c.args.command.key = subst (λ (n : ℕ). c.stripe_of_spread-stripe.result ≡ stripe_of n c.args.command.key) c.stripes.ensures (c.stripe_of_spread-stripe.ensures.value c.args.command.key c.requires.spread) in
    c.change_on.ensures.refused b (subst (λ (i : ℕ). HasFound b i c.args.content (g.S.Steps.recorded c.args.steps.now)) (sym at) found)

pub returns-clause-failed : goal.returns-clause-failed
returns-clause-failed g c = λ b found failed.
    let at : c.stripe_of_spread-stripe.result ≡ stripe_of (g.S.Steps.stripe_count c.args.steps.now) c.args.command.key = subst (λ (n : ℕ). c.stripe_of_spread-stripe.result ≡ stripe_of n c.args.command.key) c.stripes.ensures (c.stripe_of_spread-stripe.ensures.value c.args.command.key c.requires.spread) in
    subst (λ (i : ℕ). GivesBack b (FindsAlive b i false) (g.S.Steps.recorded c.change_on.new.steps)) at (c.change_on.ensures.failed b (subst (λ (i : ℕ). HasFound b i c.args.content (g.S.Steps.recorded c.args.steps.now)) (sym at) found) failed)
