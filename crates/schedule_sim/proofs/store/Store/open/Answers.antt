use Rattle.std.proofs.Common.{subst}
use Rattle.schedule_sim.specs.Storing.{IsStore}
use Rattle.schedule_sim.proofs.Stores.{skipped_open}
use Rattle.schedule_sim.proofs.store.Store.open.Goals as goal

pub returns-in-Open : goal.returns-in-Open
returns-in-Open c = λ w least stands. skipped_open w least c.args.stripes c.args.fails_at c.in-Open.life (subst (λ s. IsStore w least s) c.in-Open.is stands)
