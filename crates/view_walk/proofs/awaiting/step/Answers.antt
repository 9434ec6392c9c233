use Rattle.std.proofs.Common.{arith}
use Rattle.view_walk.proofs.Growing.{reached, missed, goes_on, found_failure, reached_after, failed}
use Rattle.view_walk.proofs.awaiting.step.Goals as goal

pub returns-then-greatest-see-clause-next : goal.returns-then-greatest-see-clause-next
returns-then-greatest-see-clause-next g c = λ b xs f.
    let h = rw c.in-Seeing.is at f.stands in
    reached _ b _ _ xs _ h c.see.ensures.step (omega (arith, f.greatest_is))

pub returns-else-greatest-see-clause-next : goal.returns-else-greatest-see-clause-next
returns-else-greatest-see-clause-next g c = λ b xs f.
    let h = rw c.in-Seeing.is at f.stands in
    rw c.more.ensures (record { count_is = f.count_is; greatest_is = f.greatest_is; stands = missed _ b _ _ xs _ h c.see.ensures.step (omega (arith, f.greatest_is)) })

pub returns-then-alive-clause-next : goal.returns-then-alive-clause-next
returns-then-alive-clause-next g c = λ b xs f.
    let h = rw c.in-HasMissed.is at f.stands in
    rw c.more-then-alive.ensures (record { count_is = f.count_is; greatest_is = f.greatest_is; stands = goes_on _ b _ _ xs h (rw c.if-alive.true at c.alive.ensures.step) })

pub returns-else-alive-clause-next : goal.returns-else-alive-clause-next
returns-else-alive-clause-next g c = λ b xs f.
    let h = rw c.in-HasMissed.is at f.stands in
    rw c.more-else-alive.ensures (record { count_is = f.count_is; greatest_is = f.greatest_is; stands = found_failure _ b _ _ xs h (rw c.if-alive.false at c.alive.ensures.step) })

pub returns-then-greatest-see-2-clause-next : goal.returns-then-greatest-see-2-clause-next
returns-then-greatest-see-2-clause-next g c = λ b xs f.
    let h = rw c.in-FoundFailure.is at f.stands in
    reached_after _ b _ _ xs _ h c.see-in-FoundFailure.ensures.step (omega (arith, f.greatest_is))

pub returns-else-greatest-see-2-clause-next : goal.returns-else-greatest-see-2-clause-next
returns-else-greatest-see-2-clause-next g c = λ b xs f.
    let h = rw c.in-FoundFailure.is at f.stands in
    failed _ b _ _ xs _ h c.see-in-FoundFailure.ensures.step (omega (arith, f.greatest_is))
