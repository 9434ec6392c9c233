use Rattle.std.proofs.Common.{refl}
use Rattle.sim_rules.specs.declared.event.Event.TheVariants as event
use Rattle.schedule_sim.proofs.Closings.{stopped_if}
use Rattle.schedule_sim.proofs.store.Store.stop.Goals as goal

pub returns-in-None : goal.returns-in-None
returns-in-None c =
    stopped_if c.stopped.result (event.Stop c.args.within c.args.fill.now) c.args.fill.now c.args.within c.args.self c.into_disk.result refl c.in-None.is c.into_disk.ensures c.stopped.ensures.store
    c.stopped.ensures.outcome
