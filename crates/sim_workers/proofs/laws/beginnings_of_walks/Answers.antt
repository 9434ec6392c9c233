use Rattle.sim_workers.proofs.Begins.{change_begins, change_turned_down, read_begins, release_begins}
use Rattle.sim_workers.proofs.laws.beginnings_of_walks.Goals as goal

pub returns : goal.returns
returns c = record { change = change_begins; turned_down = change_turned_down; read = read_begins; release = release_begins }
