use Rattle.std.proofs.Common.{ap}
use Rattle.disk_model.specs.Files.{now}
use Rattle.schedule_sim.proofs.Openings.{formatted_stands}
use Rattle.schedule_sim.proofs.beginning.formatted.Goals as goal

pub returns-in-Ok : goal.returns-in-Ok
returns-in-Ok c = formatted_stands c.format.new.disk (c.in-Ok.ensures.files tt (ap now c.new-disk.ensures)) (c.in-Ok.ensures.ok tt)
