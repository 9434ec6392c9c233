use Rattle.std.proofs.Common.{◌≡◌, drop}
use Rattle.flusher.proofs.in_hand.InHand.pass.Given as goal

abbrev pub invariant-loop : goal.invariant-loop
invariant-loop l = record {
  items : l.self-inside.slots.items ≡ drop l.counter l.initial.self-inside.slots.items;
  next : l.self-inside.next ≡ l.initial.self-inside.next;
}
