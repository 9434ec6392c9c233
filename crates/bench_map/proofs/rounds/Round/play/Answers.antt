use denote.Param.Send.{sendable}
use Rattle.std.proofs.Crossing.{crosses}
use Rattle.stripe_locks.proofs.Crosses.{stripes_sync}
use Rattle.bench_map.proofs.rounds.Round.TheSendSync as round
use Rattle.bench_map.proofs.rounds.Round.play.Goals as goal

pub map_indices-all-requires-sync-F : goal.map_indices-all-requires-sync-F
map_indices-all-requires-sync-F g c κs h = search (stripes_sync, round.the_sync, sendable, crosses) depth 20
