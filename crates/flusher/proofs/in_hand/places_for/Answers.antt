use Rattle.std.proofs.Common.{◌+◌, ◌≤◌, ◌<◌, arith, subst}
use Rattle.std.specs.List.{All}
use Rattle.std.proofs.lemmas.List.{take_all}
use Rattle.flusher.proofs.Places.{places_more}
use Rattle.flusher.proofs.in_hand.places_for.Goals.{then-ticket-next+in_ok-checked_add, else-ticket-next}
use Rattle.flusher.proofs.in_hand.places_for.Goals as goal

pub loop-entry-preserved : goal.loop-entry-preserved
loop-entry-preserved c = elim c.if-ticket-next.branch [
  | then-ticket-next+in_ok-checked_add w ↦ places_more _ _ _ _ _ c.entry-item.result (omega (arith, w.max-len.ensures, w.len-is)) c.loop-entry-test.true c.entry-item.is (λ h. omega (arith, w.in_ok-checked_add.ensures.1, w.max-len.ensures, w.len-is, c.number-ticket.ensures, h)) c.loop-entry.invariant
  | else-ticket-next w ↦ places_more _ _ _ _ _ c.entry-item.result (omega arith) c.loop-entry-test.true c.entry-item.is (λ h. omega arith) c.loop-entry.invariant
]

pub returns : goal.returns
returns c = subst (All (λ e. c.args.next ≤ e.ticket → e.ticket < c.args.next + c.loop-entry.len)) (take_all c.loop-entry.entry-index c.args.entries.now c.loop-entry-test.false) c.loop-entry.invariant
