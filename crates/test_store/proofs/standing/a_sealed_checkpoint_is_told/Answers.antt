use denote.Param.Send.{sendable}
use Rattle.std.proofs.Crossing.{crosses}
use Rattle.disk_model.proofs.memory.MemDisk.TheSendSync as memory
use Rattle.durable_map.proofs.Crosses.{shared_by_threads}
use Rattle.test_store.proofs.standing.a_sealed_checkpoint_is_told.Goals as goal

pub join-ended-requires-send-F : goal.join-ended-requires-send-F
join-ended-requires-send-F c κs h = search (shared_by_threads, memory.the_send, sendable, crosses) depth 20
