use denote.Param.Send.{sendable}
use Rattle.std.proofs.Crossing.{crosses}
use Rattle.stripe_locks.proofs.Crosses.{stripes_sync}
use Rattle.test_maps.proofs.threads.two_threads_draw_each_ticket_once.Goals as goal

pub join-one-requires-send-F : goal.join-one-requires-send-F
join-one-requires-send-F c κs h = search (stripes_sync, sendable, crosses) depth 20
