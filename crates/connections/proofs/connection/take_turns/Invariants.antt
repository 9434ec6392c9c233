use Rattle.std.proofs.Common.{◌≡◌, ◌≢◌, ◌≤◌, []}
use Rattle.std.specs.VecDeque.{deque_capacity}
use Rattle.connections.specs.declared.exchange.Stage.TheVariants.{GivenUp}
use Rattle.connections.specs.Past.{IsPast, standing}
use Rattle.connections.specs.Progress.{work}
use Rattle.connections.specs.Driving.{Drives}
use Rattle.connections.proofs.connection.take_turns.Given as goal

abbrev pub invariant-turns : goal.invariant-turns
invariant-turns g l =
    Drives g.C.Calls.began g.C.Calls.finished g.C.Calls.gave_up (g.W.Write.contents l.initial.writer) (g.W.Write.contents l.writer) l.initial.calls l.calls (standing l.initial.connection) (λ past. IsPast past (standing l.connection))
    × (l.connection.row.items ≡ [])
    × (l.connection.out ≡ [])
    × (l.connection.stage ≢ GivenUp)
    × (64 ≤ deque_capacity l.connection.row)
    × (deque_capacity l.connection.row ≡ deque_capacity l.initial.connection.row)

abbrev pub decreases-turns : goal.decreases-turns
decreases-turns g l = work l.connection.feeder
