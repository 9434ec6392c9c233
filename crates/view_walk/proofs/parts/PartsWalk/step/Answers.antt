use Rattle.std.proofs.Common.{arith, ap, refl}
use Rattle.view_walk.specs.Walking.{lent_at}
use Rattle.view_walk.proofs.Growing.{gains_missed, still_empty, holds_taken, holds_looked, may_capture, may_give_back, starved}
use Rattle.view_walk.proofs.Stepping.{fits_on, starved_on, next_on, takes_next, awaits_next}
use Rattle.view_walk.proofs.parts.PartsWalk.step.Goals as goal

pub take-requires : goal.take-requires
take-requires g c =
    let f = c.requires.2 in
    let h = rw c.in-Taking.is at f.stands in
    record { within = omega (arith, f.count_is, h.2); empty_handed = h.1 }

pub returns-in-Some-clause-next : goal.returns-in-Some-clause-next
returns-in-Some-clause-next g c = λ b xs f.
    let h = rw c.in-Taking.is at f.stands in
    rw c.more.ensures (fits_on _ b xs _ _ _ _ (ap lent_at c.in-Taking.is) (record {
      count_is = f.count_is;
      greatest_is = f.greatest_is;
      stands = holds_taken _ b _ _ xs _ c.in-Some.content f.count_is h.0 h.2 c.in-Some.ensures.step;
    }))

pub returns-in-None-clause-next : goal.returns-in-None-clause-next
returns-in-None-clause-next g c = λ b xs f.
    let h = rw c.in-Taking.is at f.stands in
    rw c.more-in-None.ensures (fits_on _ b xs _ _ _ _ (ap lent_at c.in-Taking.is) (record {
      count_is = f.count_is;
      greatest_is = f.greatest_is;
      stands = (gains_missed _ b _ _ xs _ h.0 c.in-None.ensures.step, still_empty _ _ _ h.1 c.in-None.ensures.step, h.2);
    }))

pub returns-in-HasTaken-clause-next : goal.returns-in-HasTaken-clause-next
returns-in-HasTaken-clause-next g c = λ b xs f.
    let h = rw c.in-HasTaken.is at f.stands in
    rw c.more-in-HasTaken.ensures (fits_on _ b xs _ _ _ _ (ap lent_at c.in-HasTaken.is) (record {
      count_is = f.count_is;
      greatest_is = f.greatest_is;
      stands = (holds_looked _ b _ _ xs _ c.in-HasTaken.content h c.look-mark.ensures.step, c.look-mark.ensures.step.count_is);
    }))

pub give-requires : goal.give-requires
give-requires g c =
    let f = c.requires.2 in
    let h = rw c.in-Lending.is at f.stands in
    record { fits = may_capture _ _ _ _ _ c.in-Lending.content f.count_is h.0 }

pub give-requires-in-GivingBack : goal.give-requires-in-GivingBack
give-requires-in-GivingBack g c =
    let f = c.requires.2 in
    let h = rw c.in-GivingBack.is at f.stands in
    record { fits = may_give_back _ _ _ _ _ c.in-GivingBack.content f.count_is h }

pub returns-then-count-stripes-clause-next : goal.returns-then-count-stripes-clause-next
returns-then-count-stripes-clause-next g c = λ b xs f.
    rw c.more-then-count-stripes.ensures (takes_next _ b _ _ xs c.args.self _ c.in-Lending.content c.in-Lending.mark c.in-Lending.is f c.give.ensures.step refl c.max-greatest.ensures refl
    (omega (arith, c.get-stripes.ensures.value, c.stripes.ensures, c.if-count-stripes.true)))

pub returns-else-count-stripes-clause-next : goal.returns-else-count-stripes-clause-next
returns-else-count-stripes-clause-next g c = λ b xs f.
    rw c.more-else-count-stripes.ensures (awaits_next _ b _ _ xs c.args.self _ c.in-Lending.content c.in-Lending.mark c.in-Lending.is f c.give.ensures.step refl c.max-greatest.ensures refl
    (omega (arith, c.get-stripes.ensures.value, c.stripes.ensures, c.if-count-stripes.false)))

pub returns-in-GivingBack-clause-next : goal.returns-in-GivingBack-clause-next
returns-in-GivingBack-clause-next g c = λ b xs f.
    let h = rw c.in-GivingBack.is at f.stands in
    starved_on _ b xs _ _ _ (ap lent_at c.in-GivingBack.is) (starved _ b _ _ xs c.in-GivingBack.content h c.give-in-GivingBack.ensures.step)

pub step-requires : goal.step-requires
step-requires g c =
    let f = c.requires.2 in
    (c.requires.0, c.requires.1, record { count_is = f.count_is; greatest_is = f.greatest_is; stands = rw c.in-Awaiting.is at f.stands })

pub returns-in-Awaiting-clause-next : goal.returns-in-Awaiting-clause-next
returns-in-Awaiting-clause-next g c = λ b xs f.
    next_on _ b xs _ _ _ _ (ap lent_at c.in-Awaiting.is)
    (c.step.ensures.next b xs (record { count_is = f.count_is; greatest_is = f.greatest_is; stands = rw c.in-Awaiting.is at f.stands }))
