use Rattle.recovery.proofs.OneFileLemmas.{failed_sync}
use Rattle.recovery.proofs.new_store.sync.Goals as goal

pub returns-in-Err-clause-err : goal.returns-in-Err-clause-err
returns-in-Err-clause-err g c = failed_sync g.D.Disk.states g.D.Disk.failures c.args.file c.args.disk.now c.sync.new.self c.in-Err.ensures.same c.in-Err.ensures.err
