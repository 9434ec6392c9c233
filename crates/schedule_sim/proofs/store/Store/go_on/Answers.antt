use Rattle.std.proofs.Common.{subst}
use Rattle.schedule_sim.specs.Storing.{IsStore}
use Rattle.schedule_sim.proofs.Stores.{life_did, skipped_outside}
use Rattle.schedule_sim.proofs.store.Store.go_on.Goals as goal

pub returns-in_ok-outcome-in-Open : goal.returns-in_ok-outcome-in-Open
returns-in_ok-outcome-in-Open c = λ w least stands is.
    let still = subst (λ s. IsStore w least s) c.in-Open.is stands in
    life_did w least _ _ c.in-Open.life _ still.0 is (c.in_ok-outcome-in-Open.ensures w still.0 is)

pub returns-in-Closed : goal.returns-in-Closed
returns-in-Closed c = λ w least stands is. skipped_outside w least _ c.in-Closed.disk is (subst (λ s. IsStore w least s) c.in-Closed.is stands)
