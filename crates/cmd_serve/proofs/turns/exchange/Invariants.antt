use Rattle.std.specs.VecDeque.{deque_len}
use Rattle.connections.specs.Owning.{OwnsRow, StillOwns}
use Rattle.cmd_serve.proofs.turns.exchange.Given as goal

abbrev pub invariant-answers : goal.invariant-answers
invariant-answers g l =
    OwnsRow g.C.Calls.owns l.calls l.connection.row.items × StillOwns g.C.Calls.owns l.initial.calls l.calls

abbrev pub decreases-answers : goal.decreases-answers
decreases-answers g l = deque_len l.connection.row
