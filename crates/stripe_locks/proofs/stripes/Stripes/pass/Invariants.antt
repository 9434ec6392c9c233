use Rattle.std.proofs.Common.{◌≡◌, ◌≤◌, []}
use Rattle.ticket_order.specs.Records.{newcomer, meeting}
use Rattle.stripe_locks.specs.Plays.{stepless}
use Rattle.stripe_locks.proofs.stripes.Stripes.pass.Given as goal

abbrev pub invariant-loop-turn : goal.invariant-loop-turn
invariant-loop-turn l = (l.seat.table_id ≡ l.self.table.shared.table_id) × (l.seat.me ≡ (stepless (meeting (newcomer l.self.table.shared.key.opening) l.passes), [])) × (l.passes ≤ 4096)
