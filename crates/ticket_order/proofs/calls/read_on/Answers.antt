use Rattle.std.proofs.Common.{◌≡◌, ℕ, subst, sym}
use Rattle.java_hash.specs.Stripes.{stripe_of}
use Rattle.ticket_order.specs.Calls.{HasFound}
use Rattle.ticket_order.specs.StepRules.{TakesStripe}
use Rattle.ticket_order.proofs.calls.read_on.Goals as goal

pub read_from-requires-clause-found : goal.read_from-requires-clause-found
read_from-requires-clause-found g c =
    let at : c.stripe_of_spread-stripe.result ≡ stripe_of (g.S.Steps.stripe_count c.args.steps.now) c.args.read.key = subst (λ (n : ℕ). c.stripe_of_spread-stripe.result ≡ stripe_of n c.args.read.key) c.stripes.ensures (c.stripe_of_spread-stripe.ensures.value c.args.read.key c.requires.spread) in
    (c.requires.found.0, subst (λ (i : ℕ). HasFound c.requires.found.0 i c.args.content (g.S.Steps.recorded c.args.steps.now)) (sym at) c.requires.found.1)

pub returns-clause-answered : goal.returns-clause-answered
returns-clause-answered g c = λ b found.
    let at : c.stripe_of_spread-stripe.result ≡ stripe_of (g.S.Steps.stripe_count c.args.steps.now) c.args.read.key = subst (λ (n : ℕ). c.stripe_of_spread-stripe.result ≡ stripe_of n c.args.read.key) c.stripes.ensures (c.stripe_of_spread-stripe.ensures.value c.args.read.key c.requires.spread) in
    c.read_from.ensures.answered b (subst (λ (i : ℕ). HasFound b i c.args.content (g.S.Steps.recorded c.args.steps.now)) (sym at) found)

pub returns-clause-made : goal.returns-clause-made
returns-clause-made g c = λ b found.
    let at : c.stripe_of_spread-stripe.result ≡ stripe_of (g.S.Steps.stripe_count c.args.steps.now) c.args.read.key = subst (λ (n : ℕ). c.stripe_of_spread-stripe.result ≡ stripe_of n c.args.read.key) c.stripes.ensures (c.stripe_of_spread-stripe.ensures.value c.args.read.key c.requires.spread) in
    c.read_from.ensures.made b (subst (λ (i : ℕ). TakesStripe (g.S.Steps.stripe_count c.args.steps.now) b i c.args.content (g.S.Steps.recorded c.args.steps.now)) (sym at) found)

pub returns-clause-left : goal.returns-clause-left
returns-clause-left g c = λ b found.
    let at : c.stripe_of_spread-stripe.result ≡ stripe_of (g.S.Steps.stripe_count c.args.steps.now) c.args.read.key = subst (λ (n : ℕ). c.stripe_of_spread-stripe.result ≡ stripe_of n c.args.read.key) c.stripes.ensures (c.stripe_of_spread-stripe.ensures.value c.args.read.key c.requires.spread) in
    c.read_from.ensures.left b (subst (λ (i : ℕ). HasFound b i c.args.content (g.S.Steps.recorded c.args.steps.now)) (sym at) found)

pub returns-clause-refused : goal.returns-clause-refused
returns-clause-refused g c = λ b found.
    let at : c.stripe_of_spread-stripe.result ≡ stripe_of (g.S.Steps.stripe_count c.args.steps.now) c.args.read.key = subst (λ (n : ℕ). c.stripe_of_spread-stripe.result ≡ stripe_of n c.args.read.key) c.stripes.ensures (c.stripe_of_spread-stripe.ensures.value c.args.read.key c.requires.spread) in
    c.read_from.ensures.refused b (subst (λ (i : ℕ). TakesStripe (g.S.Steps.stripe_count c.args.steps.now) b i c.args.content (g.S.Steps.recorded c.args.steps.now)) (sym at) found)
