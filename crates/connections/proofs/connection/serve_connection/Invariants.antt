use Rattle.std.proofs.Common.{◌≡◌, ◌≤◌, vec_len}
use Rattle.std.specs.VecDeque.{deque_capacity}
use Rattle.connections.specs.Past.{standing}
use Rattle.connections.proofs.Driven.{Serving}
use Rattle.connections.proofs.connection.serve_connection.Given as goal

abbrev pub invariant-reads : goal.invariant-reads
invariant-reads g l =
    Serving g.C.Calls.began g.C.Calls.finished g.C.Calls.gave_up (g.R.Read.remaining l.initial.reader) (g.R.Read.remaining l.reader) (g.W.Write.contents l.initial.writer) (g.W.Write.contents l.writer) l.initial.calls l.calls (standing l.connection)
    × (vec_len l.room ≡ 65536)
    × (64 ≤ deque_capacity l.connection.row)
