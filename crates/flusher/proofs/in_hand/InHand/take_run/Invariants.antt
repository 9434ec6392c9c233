use Rattle.std.proofs.Common.{◌≡◌, ◌≤◌, List, None, take, drop, replicate, ◌++◌, length}
use Rattle.std.specs.Vec.{vec_len, vec_capacity}
use Rattle.map_types.specs.declared.commands.Command.{Command}
use Rattle.ticket_order.specs.Legality.{entries_from}
use Rattle.store_layout.specs.Hands.{IsRun}
use Rattle.flusher.proofs.in_hand.InHand.take_run.Given as goal

abbrev pub invariant-loop-index : goal.invariant-loop-index
invariant-loop-index l = record {
  next : l.self-inside.next ≡ l.fn.self.next;
  slots : l.self-inside.slots.items ≡ replicate l.index None ++ drop l.index l.fn.self.slots;
  entries : (commands : List Command) → IsRun l.fn.self commands → length commands ≡ l.count → l.entries.items ≡ entries_from l.fn.self.next (take l.index commands);
  len : vec_len l.entries ≤ l.index;
  room : vec_capacity l.entries ≡ l.count;
}
