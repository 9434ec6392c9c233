use Rattle.flusher.proofs.FittingKeepers.{each_taken, taken_front}
use Rattle.flusher.proofs.laws.committed_were_taken.Goals as goal

pub returns-clause-front : goal.returns-clause-front
returns-clause-front g c = λ n done p f. taken_front g.D.Disk.states g.D.Disk.honest n done c.args._keeper.now p f

pub returns-clause-each : goal.returns-clause-each
returns-clause-each g c = λ n done p f. each_taken g.D.Disk.states g.D.Disk.honest n done c.args._keeper.now p f
