use Rattle.std.proofs.Common.{subst}
use Rattle.schedule_sim.specs.Storing.{IsStore}
use Rattle.schedule_sim.proofs.Closings.{closed_lies}
use Rattle.schedule_sim.proofs.store.Store.into_disk.Goals as goal

pub returns-in-Closed : goal.returns-in-Closed
returns-in-Closed c = λ w least stands. closed_lies w least c.in-Closed.disk (subst (λ s. IsStore w least s) c.in-Closed.is stands)

pub returns-in-Open : goal.returns-in-Open
returns-in-Open c = λ w least stands.
    let life = subst (λ s. IsStore w least s) c.in-Open.is stands in
    c.into_disk.ensures.lies w least life.0 life.1
