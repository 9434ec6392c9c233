use Rattle.std.proofs.Common.{ap}
use Rattle.disk_model.specs.Files.{now}
use Rattle.schedule_sim.proofs.Openings.{old_stands}
use Rattle.schedule_sim.proofs.beginning.old_directory.Goals as goal

pub returns-in-Ok : goal.returns-in-Ok
returns-in-Ok c = old_stands c.format_as.new.disk (c.in-Ok.ensures.files tt (ap now c.new-disk.ensures)) (c.in-Ok.ensures.ok tt)
