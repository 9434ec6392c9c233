use Rattle.ticket_order.proofs.Taking.{swept_back}
use Rattle.ticket_order.proofs.sweep_walk.SweepStage.given_back.Goals as goal

pub returns-in-HasTaken-clause-fits : goal.returns-in-HasTaken-clause-fits
returns-in-HasTaken-clause-fits c = λ n b task p f.
    let h = rw c.in-HasTaken.is at f in
    swept_back n b p task c.in-HasTaken.taken h
