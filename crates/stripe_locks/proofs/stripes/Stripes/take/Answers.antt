use Rattle.std.proofs.Common.{◌∙◌, ◌∷◌, ◌<◌, ℕ, Some, arith, sym, ap, subst}
use Rattle.atomic_table.specs.Table.{rest}
use Rattle.stripe_locks.proofs.Moving.{allows_take, word_of_stripe}
use Rattle.stripe_locks.proofs.stripes.Stripes.take.Goals as goal

pub compare_exchange-found-requires : goal.compare_exchange-found-requires
compare_exchange-found-requires c =
    (c.requires.own, omega (arith, c.args.self.now.words, c.requires.within), allows_take _ _ _ _ _ _ c.args.pass.now.enrolled c.requires.empty_handed (subst (λ (n : ℕ). c.args.stripe < n) (sym c.args.self.now.slots) c.requires.within) c.args.pass.now.numbered)

pub exchange-requires : goal.exchange-requires
exchange-requires c =
    let found = c.compare_exchange-found.ensures in
    let home = found.2.0 c.if-found-ne0.false in
    (found.0 ∙ c.requires.own, (Some home.content, home.has ∙ (λ i. (word_of_stripe c.args.stripe i, Some home.content) ∷ sym (ap rest home.has) i)))
