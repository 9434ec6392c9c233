use Rattle.log_records.specs.Layout.{layout_of}
use Rattle.recovery.proofs.GateClosing.{on_ok}
use Rattle.recovery.proofs.LogBeginning.{begins, is_closed, sync_others, write_others}
use Rattle.recovery.proofs.new_store.begin_log.Goals as goal

pub returns-in_err-write-clause-others : goal.returns-in_err-write-clause-others
returns-in_err-write-clause-others g c =
    write_others g.D.Disk.states g.D.Disk.failures _ c.args.disk.now c.write.new.disk c.write.new.disk c.write.result c.write.ensures.ok c.write.ensures.err

pub returns-clause-others : goal.returns-clause-others
returns-clause-others g c =
    sync_others g.D.Disk.states g.D.Disk.failures _ c.args.disk.now c.write.new.disk c.in_ok-write.ensures.ok c.sync.new.disk c.sync.result c.sync.ensures.ok c.sync.ensures.err

pub returns-clause-ok : goal.returns-clause-ok
returns-clause-ok g c =
    on_ok _ _ c.sync.result (λ made.
    is_closed g.D.Disk.states g.D.Disk.failures _ c.args.disk.now c.write.new.disk c.in_ok-write.ensures.ok c.sync.new.disk made (layout_of c.args.version) c.first_log.ensures) c.sync.ensures.ok

pub returns-clause-left : goal.returns-clause-left
returns-clause-left g c =
    on_ok _ _ c.sync.result (λ made.
    begins g.D.Disk.states g.D.Disk.failures _ c.args.disk.now c.write.new.disk c.in_ok-write.ensures.ok c.sync.new.disk made (layout_of c.args.version) c.first_log.ensures) c.sync.ensures.ok
