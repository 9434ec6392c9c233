use denote.Param.Send.{sendable}
use Rattle.std.proofs.Crossing.{crosses}
use Rattle.disk_model.proofs.memory.MemDisk.TheSendSync as memory
use Rattle.durable_map.proofs.Crosses.{shared_by_threads}
use Rattle.test_store.proofs.view_waits.a_view_waits_until_it_is_durable.Goals as goal

pub join-has-requires-send-F : goal.join-has-requires-send-F
join-has-requires-send-F c κs h = search (shared_by_threads, memory.the_send, sendable, crosses) depth 20
