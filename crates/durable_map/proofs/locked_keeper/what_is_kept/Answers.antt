use Rattle.durable_map.proofs.KeeperLaws.{keeps}
use Rattle.durable_map.proofs.locked_keeper.what_is_kept.Goals as goal

pub returns : goal.returns
returns g c = λ captured sealed.
    let k = c.journals_rest.ensures in
    keeps g.D.Disk.states g.D.Disk.honest _ k.kept.0 c.args.journal.now.keeper _ k.kept.1 k.still k.over (c.committed_were_taken.ensures.front k.kept.0 k.kept.1) c.stops_of_a_journal.ensures captured sealed
