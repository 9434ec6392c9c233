use denote.Param.Send.{sendable}
use Rattle.durable_map.proofs.Crosses.{map_sync}
use Rattle.test_store.proofs.maps.Flag.TheSendSync as flag
use Rattle.test_store.proofs.directory.fn.run_both.scope.Goals as goal

pub spawn-flusher-requires-send-F : goal.spawn-flusher-requires-send-F
spawn-flusher-requires-send-F g c κs h = search (map_sync, flag.the_sync, sendable) depth 12

pub spawn-keeper-requires-send-F : goal.spawn-keeper-requires-send-F
spawn-keeper-requires-send-F g c κs h = search (map_sync, flag.the_sync, sendable) depth 12
