use Rattle.std.proofs.Common.{◌≡◌, arith, ◌-◌, ◌++◌, ap, replicate, None, ◌∙◌}
use Rattle.store_layout.specs.Hands.{Hand}
use Rattle.flusher.proofs.Places.{same_hand}
use Rattle.flusher.proofs.in_hand.InHand.lengthen.Goals as goal

pub returns-clause-ok : goal.returns-clause-ok
returns-clause-ok c =
    let items : c.reserve.new.self.items ≡ c.args.self.now.slots = c.in_ok-reserve.ensures.items ∙ ap (λ (h : Hand). h.slots) c.self.view_is in
    let next = c.loop.invariant.next ∙ ap (λ (h : Hand). h.next) c.self.view_is in
    (c.loop.counter - c.len-old.result, same_hand _ _ next (c.loop.invariant.items ∙ ap (λ z. z ++ replicate (c.loop.counter - c.len-old.result) None) items), omega arith)
