use Rattle.std.proofs.Common.{◌≡◌, map}
use Rattle.std.specs.VecDeque.{deque_len, deque_capacity}
use Rattle.connections.specs.Moves.{GivesUp, Leads}
use Rattle.connections.specs.Owning.{OwnsRow, StillOwns}
use Rattle.connections.proofs.row.give_up_row.Given as goal

-- whatever the rest of the row leads to, the whole row leads to
abbrev pub invariant-places : goal.invariant-places
invariant-places g l =
    ((s : _) → Leads g.C.Calls.began g.C.Calls.finished g.C.Calls.gave_up l.calls (map GivesUp l.row.items) s → Leads g.C.Calls.began g.C.Calls.finished g.C.Calls.gave_up l.initial.calls (map GivesUp l.initial.row.items) s)
    × (deque_capacity l.row ≡ deque_capacity l.initial.row)
    × OwnsRow g.C.Calls.owns l.calls l.row.items
    × StillOwns g.C.Calls.owns l.initial.calls l.calls

abbrev pub decreases-places : goal.decreases-places
decreases-places g l = deque_len l.row
