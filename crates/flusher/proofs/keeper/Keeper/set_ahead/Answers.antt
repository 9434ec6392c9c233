use Rattle.flusher.proofs.WrittenAhead.{fits_with}
use Rattle.flusher.proofs.keeper.Keeper.set_ahead.Goals as goal

pub returns-clause-fits : goal.returns-clause-fits
returns-clause-fits g c = λ n done p f. fits_with g.D.Disk.states g.D.Disk.honest n done c.args.self.now _ p f
