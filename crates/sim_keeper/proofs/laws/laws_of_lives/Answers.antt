use Rattle.sim_keeper.proofs.Living.{front_is_seen, opening_stands, workers_leave_keeper}
use Rattle.sim_keeper.proofs.laws.laws_of_lives.Goals as goal

pub returns : goal.returns
returns g c = record { opening = opening_stands g.D.Disk.states; workers = workers_leave_keeper g.D.Disk.states; sees = front_is_seen }
