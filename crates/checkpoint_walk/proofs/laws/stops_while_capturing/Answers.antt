use Rattle.checkpoint_walk.proofs.Stopped.{stops_by}
use Rattle.checkpoint_walk.proofs.laws.stops_while_capturing.Goals as goal

pub returns : goal.returns
returns g c = λ n done p f h.
    stops_by g.D.Disk.states g.D.Disk.honest n done c.args.keeper.now p c.args.keeper.now.capture c.laws_of_found.ensures.stays c.stops_of_a_keeper.ensures f h
