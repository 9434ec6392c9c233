use Rattle.std.proofs.Common.{◌≡◌, ◌-◌, ◌≤◌, ◌++◌, replicate, None}
use Rattle.std.specs.VecDeque.{deque_len, deque_capacity}
use Rattle.flusher.proofs.in_hand.InHand.lengthen.Given as goal

abbrev pub invariant-loop : goal.invariant-loop
invariant-loop l = record {
  items : l.self-inside.slots.items ≡ l.initial.self-inside.slots.items ++ replicate (l.counter - l.old) None;
  len : deque_len l.self-inside.slots ≡ l.counter;
  room : l.len ≤ deque_capacity l.self-inside.slots;
  next : l.self-inside.next ≡ l.initial.self-inside.next;
}
