use Rattle.std.proofs.Common.{◌≡◌, ◌-◌, arith, ap, ◌∙◌, Some, length, set}
use Rattle.store_layout.specs.Hands.{Hand}
use Rattle.flusher.proofs.Places.{gains_put}
use Rattle.flusher.proofs.in_hand.InHand.put.Goals as goal

pub returns-then-index-len : goal.returns-then-index-len
returns-then-index-len c =
    let is = c.self.view_is in
    let next : c.self.inside.next ≡ c.args.self.now.next = ap (λ (h : Hand). h.next) is in
    let slots : c.self.inside.slots.items ≡ c.args.self.now.slots = ap (λ (h : Hand). h.slots) is in
    let long : length c.self.inside.slots.items ≡ length c.args.self.now.slots = ap length slots in
    let ticket = c.number-ticket.ensures in
    let put : set c.self.inside.slots.items (c.number-ticket.result - c.self.inside.next) c.replace.new.dest ≡ set c.args.self.now.slots (c.args.entry.ticket - c.args.self.now.next) (Some c.args.entry.command) =
    ap (λ z. set z (c.number-ticket.result - c.self.inside.next) c.replace.new.dest) slots ∙ ap (λ z. set c.args.self.now.slots (z - c.self.inside.next) c.replace.new.dest) ticket
    ∙ ap (λ z. set c.args.self.now.slots (c.args.entry.ticket - z) c.replace.new.dest) next ∙ ap (λ z. set c.args.self.now.slots (c.args.entry.ticket - c.args.self.now.next) z) c.replace.ensures.after in
    gains_put c.args.self.now _ c.args.entry next put (omega arith, omega arith)
