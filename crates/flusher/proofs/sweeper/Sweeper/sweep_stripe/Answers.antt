use Rattle.std.proofs.Common.{ℕ, subst, sym}
use Rattle.flusher.specs.Sweeping.{IsSwept}
use Rattle.flusher.proofs.sweeper.Sweeper.sweep_stripe.Goals as goal

pub hand_out-requires : goal.hand_out-requires
hand_out-requires g c = (
  g.S.Steps.recorded c.args.steps.now,
  c.args.stripe,
  c.with_room-walk.ensures.swept _ _ _ _
      (subst (λ (m : ℕ). IsSwept m (g.S.Steps.recorded c.args.steps.now) c.args.stripe c.in-Some.walk (g.S.Steps.recorded c.hold.new.steps)) (sym c.in-Some.ensures.pass.1) c.in-Some.ensures.some),
)

pub returns-in-None-clause-err : goal.returns-in-None-clause-err
returns-in-None-clause-err g c =
    c.in-None.ensures.none _ _ (c.with_room-walk.ensures.swept _ _ _ _
    (subst (λ (m : ℕ). IsSwept m (g.S.Steps.recorded c.args.steps.now) c.args.stripe c.in-Some.walk (g.S.Steps.recorded c.hold.new.steps)) (sym c.in-Some.ensures.pass.1) c.in-Some.ensures.some))
