use denote.Param.Send.{sendable}
use Rattle.std.proofs.Crossing.{crosses}
use Rattle.disk_model.proofs.memory.MemDisk.TheSendSync as memory
use Rattle.durable_map.proofs.Crosses.{shared_by_threads}
use Rattle.test_store.proofs.limits.keys_above_the_limit.Goals as goal

pub join-called-requires-send-F : goal.join-called-requires-send-F
join-called-requires-send-F g c κs h = search (shared_by_threads, memory.the_send, sendable, crosses) depth 20
