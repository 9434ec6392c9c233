use Rattle.std.proofs.Common.{refl}
use Rattle.ticket_order.proofs.Taking.{capture_starved}
use Rattle.ticket_order.proofs.capture_walk.CaptureStage.given_back.Goals as goal

pub returns-in-HasLooked-clause-fits : goal.returns-in-HasLooked-clause-fits
returns-in-HasLooked-clause-fits c = λ n b task p f.
    let h = rw c.in-HasLooked.is at f in
    capture_starved n b p task c.in-HasLooked.taken _ h.0 (record { taken = h.1.taken; looked = h.1.looked; is = h.1.is }) refl
