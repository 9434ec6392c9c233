use Rattle.std.proofs.Common.{length, arith, subst, sym, ◌<◌, ◌^◌}
use Rattle.std.specs.FinMap as finite
use Rattle.atomic_methods.specs.PartState.{PartState}
use Rattle.ticket_order.proofs.Taking.{viewed, capture_full, captured_stripe, few_entries, many_entries, may_capture}
use Rattle.ticket_order.proofs.capture_walk.CaptureStage.step.Goals as goal

pub returns-then-len-gt-MOST_ENTRIES-clause-next : goal.returns-then-len-gt-MOST_ENTRIES-clause-next
returns-then-len-gt-MOST_ENTRIES-clause-next g c = λ b task f.
    let h = rw c.in-HasTaken.is at f in
    rw c.refused.ensures (capture_full _ b _ task c.in-HasTaken.taken h.0 (viewed b _ _ _ _ h.1 c.look-mark.ensures.step) (many_entries _ _ c.len.ensures (omega (arith, c.if-len-gt-MOST_ENTRIES.true))))

pub give-requires : goal.give-requires
give-requires g c =
    let h = rw c.in-HasLooked.is at c.requires.2 in
    record { fits = may_capture _ c.requires.0 _ c.in-HasLooked.taken c.in-HasLooked.captured h.1 }

pub returns-in-HasLooked-clause-next : goal.returns-in-HasLooked-clause-next
returns-in-HasLooked-clause-next g c = λ b task f.
    let h = rw c.in-HasLooked.is at f in
    rw h.0 (captured_stripe _ b _ _ c.in-HasLooked.taken c.in-HasLooked.captured h.1 c.give.ensures.step)

pub returns-else-len-gt-MOST_ENTRIES-clause-next : goal.returns-else-len-gt-MOST_ENTRIES-clause-next
returns-else-len-gt-MOST_ENTRIES-clause-next g c = λ b task f.
    let h = rw c.in-HasTaken.is at f in
    let seen = viewed b _ _ _ c.in-HasTaken.taken h.1 c.look-mark.ensures.step in
    rw c.more-in-HasTaken.ensures (
      h.0,
      record {
        taken = seen.taken;
        looked = seen.looked;
        is = seen.is;
        mark_is = c.look-mark.ensures.step.count_is;
        part_is = c.of-part.ensures;
        few = subst (λ (part : PartState). length (finite.entries part.map) < 2 ^ 32) (sym c.of-part.ensures) (few_entries _ _ c.len.ensures (omega (arith, c.if-len-gt-MOST_ENTRIES.false)));
      },
    )
