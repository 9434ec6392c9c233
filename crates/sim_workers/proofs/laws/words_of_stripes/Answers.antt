use Rattle.sim_workers.proofs.Holding.{free_is_told, held_is_told}
use Rattle.sim_workers.proofs.laws.words_of_stripes.Goals as goal

pub returns : goal.returns
returns c = record { free = free_is_told; held = held_is_told }
