use Rattle.flusher.proofs.FittingKeepers.{run_taken}
use Rattle.flusher.proofs.laws.runs_were_taken.Goals as goal

pub returns : goal.returns
returns g c = λ n done p f. run_taken g.D.Disk.states g.D.Disk.honest n done c.args._keeper.now p f
