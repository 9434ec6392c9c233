use Rattle.flusher.proofs.Places.{gains_none, gains_more}
use Rattle.flusher.proofs.in_hand.InHand.append.Goals as goal

pub loop-entry-init : goal.loop-entry-init
loop-entry-init c = gains_none _

pub loop-entry-preserved : goal.loop-entry-preserved
loop-entry-preserved c = gains_more _ _ _ _ _ c.loop-entry.invariant c.put.ensures
