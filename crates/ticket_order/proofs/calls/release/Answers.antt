use Rattle.std.proofs.Common.{inr, refl, arith}
use Rattle.ticket_order.proofs.calls.release.Goals as goal

pub returns-then-alive-clause-released : goal.returns-then-alive-clause-released
returns-then-alive-clause-released g c = (refl, refl, record { between = _; misses = record { durable = _; sees = c.see.ensures.step; missed = omega arith }; lives = rw c.if-alive.true at c.alive.ensures.step })

pub returns-then-number-see-2-clause-released : goal.returns-then-number-see-2-clause-released
returns-then-number-see-2-clause-released g c = (
  refl,
  refl,
  inr (record {
    between = _;
    first = record { between = _; misses = record { durable = _; sees = c.see.ensures.step; missed = omega arith }; lives = rw c.if-alive.false at c.alive.ensures.step };
    second = record { durable = _; sees = c.see-2.ensures.step; reached = omega arith };
  }),
)

pub returns-clause-released : goal.returns-clause-released
returns-clause-released g c = record {
  between = _;
  first = record { between = _; misses = record { durable = _; sees = c.see.ensures.step; missed = omega arith }; lives = rw c.if-alive.false at c.alive.ensures.step };
  second = record { durable = _; sees = c.see-2.ensures.step; missed = omega arith };
}
