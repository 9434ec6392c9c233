use Rattle.std.proofs.Common.{subst}
use Rattle.schedule_sim.specs.Storing.{IsStore}
use Rattle.schedule_sim.proofs.Stores.{skipped_stop}
use Rattle.schedule_sim.proofs.store.Store.stop_within.Goals as goal

pub returns-in-Closed : goal.returns-in-Closed
returns-in-Closed c = λ w least stands. skipped_stop w least _ _ c.in-Closed.disk (subst (λ s. IsStore w least s) c.in-Closed.is stands)
