use Rattle.recovery.proofs.GateClosing.{on_ok}
use Rattle.recovery.proofs.NewFiles.{sealed_first}
use Rattle.recovery.proofs.Sealing.{first_sync, first_write, is_sealed_so, second_sync, second_write}
use Rattle.recovery.proofs.new_store.seal.Goals as goal

pub returns-in_err-write-clause-moments : goal.returns-in_err-write-clause-moments
returns-in_err-write-clause-moments g c = λ shut.
    first_write g.D.Disk.states g.D.Disk.failures c.args.bytes.now c.args.disk.now shut c.write.new.disk c.write.result c.write.ensures.ok c.write.ensures.err

pub returns-in_err-sync-clause-moments : goal.returns-in_err-sync-clause-moments
returns-in_err-sync-clause-moments g c = λ shut.
    first_sync g.D.Disk.states g.D.Disk.failures c.args.bytes.now c.args.disk.now shut c.write.new.disk c.in_ok-write.ensures.ok c.sync.new.disk c.sync.result c.sync.ensures.ok c.sync.ensures.err

pub returns-in_err-write-2-clause-moments : goal.returns-in_err-write-2-clause-moments
returns-in_err-write-2-clause-moments g c = λ shut.
    second_write g.D.Disk.states g.D.Disk.failures c.args.bytes.now c.args.disk.now shut c.write.new.disk c.in_ok-write.ensures.ok c.sync.new.disk c.in_ok-sync.ensures.ok c.write-2.new.disk c.write-2.result c.write-2.ensures.ok c.write-2.ensures.err

pub returns-clause-moments : goal.returns-clause-moments
returns-clause-moments g c = λ shut.
    second_sync g.D.Disk.states g.D.Disk.failures c.args.bytes.now c.args.disk.now shut c.write.new.disk c.in_ok-write.ensures.ok c.sync.new.disk c.in_ok-sync.ensures.ok c.write-2.new.disk c.in_ok-write-2.ensures.ok
    c.sync-2.new.disk c.sync-2.result c.sync-2.ensures.ok c.sync-2.ensures.err

pub returns-clause-ok : goal.returns-clause-ok
returns-clause-ok g c =
    on_ok _ _ c.sync-2.result (λ made shut.
    is_sealed_so g.D.Disk.states g.D.Disk.failures c.args.bytes.now c.args.disk.now shut c.write.new.disk c.in_ok-write.ensures.ok c.sync.new.disk c.in_ok-sync.ensures.ok c.write-2.new.disk c.in_ok-write-2.ensures.ok
    c.sync-2.new.disk made) c.sync-2.ensures.ok

pub returns-clause-left : goal.returns-clause-left
returns-clause-left g c =
    on_ok _ _ c.sync-2.result (λ made at.
    sealed_first g.D.Disk.states g.D.Disk.failures c.args.bytes.now c.args.disk.now c.write.new.disk c.sync.new.disk c.write-2.new.disk c.sync-2.new.disk at c.in_ok-write.ensures.ok c.in_ok-sync.ensures.ok
    c.in_ok-write-2.ensures.ok made) c.sync-2.ensures.ok
