use Rattle.std.proofs.Common.{◌≡◌, ◌≢◌, []}
use Rattle.std.specs.VecDeque.{deque_len, deque_capacity}
use Rattle.connections.specs.declared.exchange.Stage.TheVariants.{GivenUp}
use Rattle.connections.specs.Owning.{OwnsRow}
use Rattle.connections.specs.Past.{IsPast, standing}
use Rattle.connections.specs.Driving.{Drives}
use Rattle.connections.proofs.connection.answer_all.Given as goal

abbrev pub invariant-answers : goal.invariant-answers
invariant-answers g l =
    Drives g.C.Calls.began g.C.Calls.finished g.C.Calls.gave_up (g.W.Write.contents l.initial.writer) (g.W.Write.contents l.writer) l.initial.calls l.calls (standing l.initial.connection) (λ past. IsPast past (standing l.connection))
    × (l.connection.out ≡ [])
    × (l.connection.feeder ≡ l.initial.connection.feeder)
    × (l.initial.connection.stage ≢ GivenUp → l.connection.stage ≢ GivenUp)
    × (deque_capacity l.connection.row ≡ deque_capacity l.initial.connection.row)
    × OwnsRow g.C.Calls.owns l.calls l.connection.row.items

abbrev pub decreases-answers : goal.decreases-answers
decreases-answers g l = deque_len l.connection.row
