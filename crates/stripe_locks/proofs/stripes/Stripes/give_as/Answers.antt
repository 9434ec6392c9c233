use Rattle.std.proofs.Common.{◌≡◌, ◌∙◌, ◌∷◌, ℕ, Some, arith, sym, ap, subst}
use Rattle.atomic_table.specs.Table.{rest}
use Rattle.atomic_table.specs.Seated.{TableId}
use Rattle.ticket_order.specs.Records.{stripe_held}
use Rattle.ticket_order.specs.StepRules.{MayGive}
use Rattle.stripe_locks.proofs.Turning.{M}
use Rattle.stripe_locks.proofs.Moving.{allows_give}
use Rattle.stripe_locks.proofs.stripes.Stripes.give_as.Goals as goal

pub store-requires : goal.store-requires
store-requires g c =
    let e : c.exchange.new.seat.me ≡ (c.args.pass.now.seat.me.0, (c.args.stripe, Some c.args.content) ∷ rest c.args.pass.now.seat.me.1) = c.exchange.ensures.3 in
    let held : c.args.stripe ≡ stripe_held c.args.pass.now.seat.me.0.pass.holding = sym c.requires.fits.stripe_is ∙ sym (ap stripe_held c.requires.fits.holding) in
    let slots : c.args.pass.now.seat.table_id.slots ≡ c.args.self.now.table.shared.table_id.slots = ap (λ (z : TableId). z.slots) c.requires.own in
    let may : MayGive c.args.self.now.count.count c.exchange.new.seat.me.0.pass c.args.stripe c.args.content c.args.purpose.now = subst (λ (m : M). MayGive c.args.self.now.count.count m.0.pass c.args.stripe c.args.content c.args.purpose.now) (sym e) c.requires.fits in (
      c.exchange.ensures.0 ∙ c.requires.own,
      omega (arith, c.args.self.now.words, c.args.self.now.slots, c.args.pass.now.within),
      allows_give _ _ _ _ _ c.args.content _ (rest c.args.pass.now.seat.me.1) (ap (λ (m : M). m.0.pass.enrolled) e ∙ c.args.pass.now.enrolled) (ap (λ (m : M). m.1) e)
          (subst (λ p. MayGive c.args.self.now.table.shared.table_id.slots c.exchange.new.seat.me.0.pass c.args.stripe c.args.content p) (sym c.requires.asked) (subst (λ (n : ℕ). MayGive n c.exchange.new.seat.me.0.pass c.args.stripe c.args.content c.args.purpose.now) (sym c.args.self.now.slots) may)),
    )
