use Rattle.std.proofs.Common.{◌≡◌, ◌-◌, take, drop, length, arith}
use Rattle.std.proofs.lemmas.Grind.{common_steps}
use Rattle.wire_frames.proofs.Feeding.{takes_whole}
use Rattle.wire_frames.proofs.feeder.Feeder.next.Goals as goal

pub returns-in-Whole-clause-some : goal.returns-in-Whole-clause-some
returns-in-Whole-clause-some c =
    let held = c.self.inside.held.items in
    let start = c.self.inside.start in
    let first = c.in-Whole.ensures in
    let same : take (length c.deref.result.now - start) (drop start c.deref.result.now) ≡ drop start held = rw c.deref.ensures.value (grind (arith, common_steps)) in
    rw (← c.self.view_is) (takes_whole held start c.self.inside.ended _ c.in-Whole.body.now c.in-Whole.field-1.now _ c.if-self.false same first.0 first.1 c.read_request-message.ensures)
