use Rattle.std.proofs.Common.{refl}
use Rattle.cmd_mem.proofs.Leaving.{leaves}
use Rattle.cmd_mem.proofs.memory.Memory.into_disk.Goals as goal

pub returns : goal.returns
returns g c =
    leaves g.D.Disk.states g.D.Disk.honest c.self.inside.journal.keeper c.args.self _ c.into_disk.result c.self.view_is refl c.into_disk.ensures c.stops_of_a_journal.ensures
