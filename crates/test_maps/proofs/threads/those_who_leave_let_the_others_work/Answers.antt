use denote.Param.Send.{sendable}
use Rattle.std.proofs.Crossing.{crosses}
use Rattle.stripe_locks.proofs.Crosses.{stripes_sync}
use Rattle.test_maps.proofs.threads.those_who_leave_let_the_others_work.Goals as goal

pub join-left-requires-send-F : goal.join-left-requires-send-F
join-left-requires-send-F c κs h = search (stripes_sync, sendable, crosses) depth 20
