use Rattle.flusher.proofs.Committing.{stops_by}
use Rattle.flusher.proofs.laws.stops_of_a_keeper.Goals as goal

pub returns : goal.returns
returns g c = λ n done p f h. stops_by g.D.Disk.states g.D.Disk.honest n done c.args._keeper.now p c.stops_of_a_store.ensures.rests f h
