use Rattle.std.proofs.Common.{◌<◌, ◌≡◌, subst, sym, ◌∙◌}
use Rattle.java_hash.proofs.StripeLaws.{some_stripe}
use Rattle.flusher.specs.declared.sweeper.Sweeper.{Sweeper}
use Rattle.flusher.specs.Sweeping.{Stands}
use Rattle.flusher.proofs.Gathered.{begun}
use Rattle.flusher.proofs.sweeper.Sweeper.look.Goals as goal

pub returns-clause-stands : goal.returns-clause-stands
returns-clause-stands g c = λ gone k.
    let n = g.S.Steps.stripe_count c.look-count.new.self in
    let same : c.get-stripes.result ≡ n = c.get-stripes.ensures.value ∙ c.stripes.ensures ∙ sym c.look-count.ensures.stripes in
    let some : 0 < n = subst (λ z. 0 < z) same (some_stripe c.get-stripes.result c.get-stripes.ensures.allowed) in
    subst (λ (s : Sweeper). Stands n s gone (g.S.Steps.recorded c.look-count.new.self)) (sym c.set_walking.ensures) (begun n c.args.self.now.in_hand gone _ _ _ k c.look-count.ensures.step some)
