use Rattle.disk_model.specs.Files.{now}
use Rattle.std.proofs.Common.{refl}
use Rattle.schedule_sim.specs.Tracing.{traced_states}
use Rattle.schedule_sim.proofs.Closings.{stop_closes}
use Rattle.schedule_sim.proofs.store.stopped.Goals as goal

pub returns-clause-store : goal.returns-clause-store
returns-clause-store c = λ w least lies.
    stop_closes w least c.args.fill.now (now (traced_states c.args.disk)) c.args.disk c.stop.new.self lies refl c.in_ok-stop.ensures.ok c.in_ok-stop.ensures.allowed
