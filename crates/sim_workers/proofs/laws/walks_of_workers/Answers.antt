use Rattle.sim_workers.proofs.Leaving.{calls_leave, releases_leave, walks_are_under_way}
use Rattle.sim_workers.proofs.laws.walks_of_workers.Goals as goal

pub returns : goal.returns
returns c = record { under_way = walks_are_under_way; calls = calls_leave; releases = releases_leave }
