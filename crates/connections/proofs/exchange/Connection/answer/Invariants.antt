use Rattle.std.proofs.Common.{◌≡◌, ◌≢◌, ◌⊎◌, ◌<◌}
use Rattle.std.specs.VecDeque.{deque_len, deque_capacity}
use Rattle.connections.specs.declared.exchange.Stage.TheVariants.{GivenUp}
use Rattle.connections.specs.Owning.{OwnsRow, StillOwns}
use Rattle.connections.specs.Past.{Grew, standing}
use Rattle.connections.proofs.exchange.Connection.answer.Given as goal

abbrev pub invariant-answers : goal.invariant-answers
invariant-answers g l =
    Grew g.C.Calls.began g.C.Calls.finished g.C.Calls.gave_up l.initial.calls l.calls (standing l.initial.self) (standing l.self)
    × ((l.self ≡ l.initial.self) ⊎ (deque_len l.self.row < deque_len l.initial.self.row))
    × (l.self.feeder ≡ l.initial.self.feeder)
    × (l.initial.self.stage ≢ GivenUp → l.self.stage ≢ GivenUp)
    × (deque_capacity l.self.row ≡ deque_capacity l.initial.self.row)
    × OwnsRow g.C.Calls.owns l.calls l.self.row.items
    × StillOwns g.C.Calls.owns l.initial.calls l.calls

abbrev pub decreases-answers : goal.decreases-answers
decreases-answers g l = deque_len l.self.row
