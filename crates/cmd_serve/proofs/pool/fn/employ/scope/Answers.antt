use denote.Param.Send.{sendable}
use Rattle.cmd_serve.proofs.Crosses.{office_send, pool_sync, seat_send, stock_send}
use Rattle.cmd_serve.proofs.pool.fn.employ.scope.Goals as goal

pub spawn-counting-requires-send-F : goal.spawn-counting-requires-send-F
spawn-counting-requires-send-F g c κs h = search (pool_sync, office_send, sendable) depth 12

pub spawn-folding-requires-send-F : goal.spawn-folding-requires-send-F
spawn-folding-requires-send-F g c κs h = search (pool_sync, office_send, sendable) depth 12

pub spawn-requires-send-F : goal.spawn-requires-send-F
spawn-requires-send-F g c κs h = search (pool_sync, seat_send, stock_send, c.requires, c.well_formed, sendable) depth 12
