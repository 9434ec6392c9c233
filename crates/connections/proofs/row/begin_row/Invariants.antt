use Rattle.std.proofs.Common.{◌≡◌, ◌≤◌, ◌-◌, List}
use Rattle.std.specs.VecDeque.{deque_len, deque_capacity}
use Rattle.wire_frames.specs.Messages.{Message}
use Rattle.connections.specs.declared.row.Place.{Place}
use Rattle.connections.specs.Owning.{OwnsRow, StillOwns}
use Rattle.connections.proofs.Beginning.{Beginning}
use Rattle.connections.proofs.row.begin_row.Given as goal

abbrev pub invariant-messages : goal.invariant-messages
invariant-messages g l =
    ((begun : List (Message × Place g.row.C-Held.Denot)) × Beginning g.C.Calls.began g.C.Calls.finished g.C.Calls.gave_up l.initial.calls l.calls l.initial.feeder l.feeder l.row.items begun)
    × (deque_capacity l.row ≡ deque_capacity l.initial.row)
    × (64 ≤ deque_capacity l.row)
    × OwnsRow g.C.Calls.owns l.calls l.row.items
    × StillOwns g.C.Calls.owns l.initial.calls l.calls

abbrev pub decreases-messages : goal.decreases-messages
decreases-messages g l = 64 - deque_len l.row
