use Rattle.flusher.proofs.Beside.{fits_beside}
use Rattle.flusher.proofs.FittingKeepers.{is_free}
use Rattle.flusher.proofs.laws.pass_goes_on.Goals as goal

pub returns-clause-free : goal.returns-clause-free
returns-clause-free g c = λ n done p f r. (is_free g.D.Disk.states g.D.Disk.honest n done c.args._keeper.now p f r).free

pub returns-clause-fits : goal.returns-clause-fits
returns-clause-fits g c = λ n done p f r w b free. fits_beside g.D.Disk.states g.D.Disk.honest n done c.args._keeper.now p w c.beginnings_of_stores.ensures.stays c.laws_of_found.ensures.stays f r b free
