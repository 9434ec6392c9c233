use Rattle.std.proofs.Common.{inr, refl, arith}
use Rattle.ticket_order.proofs.release_walk.ReleaseStage.step.Goals as goal

pub returns-then-alive-clause-next : goal.returns-then-alive-clause-next
returns-then-alive-clause-next g c = λ b task f.
    let h = rw c.in-HasMissed.is at f in
    rw h.0 (refl, refl, record { between = _; misses = h.1; lives = rw c.if-alive.true at c.alive.ensures.step })

pub returns-else-alive-clause-next : goal.returns-else-alive-clause-next
returns-else-alive-clause-next g c = λ b task f.
    let h = rw c.in-HasMissed.is at f in
    rw c.more-else-alive.ensures (h.0, record { between = _; misses = h.1; lives = rw c.if-alive.false at c.alive.ensures.step })

pub returns-then-number-see-2-clause-next : goal.returns-then-number-see-2-clause-next
returns-then-number-see-2-clause-next g c = λ b task f.
    let h = rw c.in-FoundFailure.is at f in
    rw h.0 (refl, refl, inr (record { between = _; first = h.1; second = record { durable = _; sees = c.see-in-FoundFailure.ensures.step; reached = omega arith } }))

pub returns-else-number-see-2-clause-next : goal.returns-else-number-see-2-clause-next
returns-else-number-see-2-clause-next g c = λ b task f.
    let h = rw c.in-FoundFailure.is at f in
    rw h.0 (record { between = _; first = h.1; second = record { durable = _; sees = c.see-in-FoundFailure.ensures.step; missed = omega arith } })
