use Rattle.one_history.specs.declared.slot.Slot.TheVariants.{Home}
use Rattle.one_history.proofs.Starts.{placed_push}
use Rattle.plain_words.proofs.words.place_all.Goals as goal

pub loop-part-preserved : goal.loop-part-preserved
loop-part-preserved c = rw c.in_ok-push.ensures.items (
    placed_push c.args.first c.loop-part.yielded c.loop-part.slots.items c.in-Some.part (Home c.new.result) c.loop-part.invariant (c.new.ensures.part, c.new.ensures.outbox, c.new.ensures.last))
