use denote.Param.Send.{sendable}
use Rattle.std.proofs.Crossing.{crosses}
use Rattle.disk_model.proofs.memory.MemDisk.TheSendSync as memory
use Rattle.durable_map.proofs.Crosses.{shared_by_threads}
use Rattle.bench_map.proofs.writers.Writing.TheSendSync as writing
use Rattle.bench_map.proofs.beside.fn.beside_writers.scope.Goals as goal

pub spawn-started-requires-send-F : goal.spawn-started-requires-send-F
spawn-started-requires-send-F g c κs h = search (shared_by_threads, memory.the_send, writing.the_sync, sendable, crosses) depth 20
