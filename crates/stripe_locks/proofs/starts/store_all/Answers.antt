use Rattle.std.proofs.Common.{[], ◌∷◌, Some, ap, ◌∙◌, map}
use Rattle.std.proofs.lemmas.List.{map-append}
use Rattle.one_history.specs.declared.slot.Slot.TheVariants.{Home}
use Rattle.one_history.proofs.Starts.{placed_push}
use Rattle.stripe_locks.specs.Placed.{slot_with}
use Rattle.stripe_locks.proofs.starts.store_all.Goals as goal

pub loop-part-preserved : goal.loop-part-preserved
loop-part-preserved c =
    let xs = c.loop-part.slots.items in
    rw (ap (map slot_with) c.in_ok-push.ensures.items ∙ map-append slot_with xs (Some c.new.result ∷ [])) (
    placed_push c.args.first c.loop-part.yielded (map slot_with xs) c.in-Some.part (Home c.new.result) c.loop-part.invariant (c.new.ensures.part, c.new.ensures.outbox, c.new.ensures.last))
