use Rattle.std.proofs.Common.{subst}
use Rattle.schedule_sim.specs.Storing.{IsStore}
use Rattle.schedule_sim.proofs.Closings.{left_did}
use Rattle.schedule_sim.proofs.Stores.{skipped_leave}
use Rattle.schedule_sim.proofs.store.Store.leave.Goals as goal

pub returns-in-Open : goal.returns-in-Open
returns-in-Open c = λ w least stands.
    let life = subst (λ s. IsStore w least s) c.in-Open.is stands in
    left_did w least c.in-Open.life c.into_disk.result life.0 (c.into_disk.ensures.lies w least life.0 life.1)

pub returns-in-Closed : goal.returns-in-Closed
returns-in-Closed c = λ w least stands. skipped_leave w least c.in-Closed.disk (subst (λ s. IsStore w least s) c.in-Closed.is stands)
