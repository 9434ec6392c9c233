use denote.Param.Send.{sendable}
use Rattle.cmd_serve.proofs.Crosses.{ending_sync, service_sync}
use Rattle.cmd_serve.proofs.service.fn.serve_seated.scope.Goals as goal

pub spawn-flusher-requires-send-F : goal.spawn-flusher-requires-send-F
spawn-flusher-requires-send-F g c κs h = search (service_sync, ending_sync, sendable) depth 12

pub spawn-checkpointer-requires-send-F : goal.spawn-checkpointer-requires-send-F
spawn-checkpointer-requires-send-F g c κs h = search (service_sync, ending_sync, sendable) depth 12

pub spawn-guard-requires-send-F : goal.spawn-guard-requires-send-F
spawn-guard-requires-send-F g c κs h = search (service_sync, ending_sync, sendable) depth 12

pub workers-requires-send-D : goal.workers-requires-send-D
workers-requires-send-D g c = search sendable

pub spawn-watcher-requires-send-F : goal.spawn-watcher-requires-send-F
spawn-watcher-requires-send-F g c κs h = search (service_sync, ending_sync, c.requires, c.well_formed, sendable) depth 14
