use Rattle.std.proofs.Common.{◌≡◌, true, sym, ap, ◌∙◌}
use Rattle.disk_model.specs.Files.{File, now}
use Rattle.store_layout.specs.Checkpoints.{is_to_close}
use Rattle.recovery.proofs.GateClosing.{comes_shut, not_written, on_ok, stays_shut, syncing, writing}
use Rattle.recovery.proofs.NewFiles.{closed_first, not_left}
use Rattle.recovery.proofs.new_store.close_gate.Goals as goal

pub returns-in_err-write-clause-moments : goal.returns-in_err-write-clause-moments
returns-in_err-write-clause-moments g c = λ honest content at is.
    let opens : is_to_close content ≡ true = ap (λ (file : File). is_to_close file.seen) (sym at) ∙ (sym (c.in_ok-must_close.ensures.value (c.write.ensures.was_honest honest)) ∙ c.if-not-branch.false) in
    writing g.D.Disk.states g.D.Disk.failures g.D.Disk.honest c.args.disk.now c.must_close.new.disk c.in_ok-must_close.ensures.looks content at is opens c.write.new.disk c.write.result c.write.ensures.ok c.write.ensures.err

pub returns-then-not-branch-clause-moments : goal.returns-then-not-branch-clause-moments
returns-then-not-branch-clause-moments g c = λ honest content at is.
    not_written g.D.Disk.states g.D.Disk.failures g.D.Disk.honest c.args.disk.now c.must_close.new.disk c.in_ok-must_close.ensures.looks content at is c.sync.new.disk c.sync.result c.sync.ensures.ok c.sync.ensures.err

pub returns-then-not-branch-clause-ok : goal.returns-then-not-branch-clause-ok
returns-then-not-branch-clause-ok g c =
    on_ok _ _ c.sync.result (λ made honest.
    stays_shut g.D.Disk.states g.D.Disk.failures g.D.Disk.honest c.args.disk.now c.must_close.new.disk c.in_ok-must_close.ensures.looks c.sync.new.disk
    (sym (c.in_ok-must_close.ensures.value (c.sync.ensures.was_honest honest)) ∙ c.if-not-branch.true) made) c.sync.ensures.ok

pub returns-clause-moments : goal.returns-clause-moments
returns-clause-moments g c = λ honest content at is.
    let opens : is_to_close content ≡ true =
    ap (λ (file : File). is_to_close file.seen) (sym at) ∙ (sym (c.in_ok-must_close.ensures.value (c.in_ok-write.ensures.was_honest (c.sync-2.ensures.was_honest honest))) ∙ c.if-not-branch.false) in
    syncing g.D.Disk.states g.D.Disk.failures g.D.Disk.honest c.args.disk.now c.must_close.new.disk c.in_ok-must_close.ensures.looks content at is opens c.write.new.disk c.sync-2.new.disk c.sync-2.result c.in_ok-write.ensures.ok
    c.sync-2.ensures.ok c.sync-2.ensures.err

pub returns-clause-ok : goal.returns-clause-ok
returns-clause-ok g c =
    on_ok _ _ c.sync-2.result (λ made honest.
    comes_shut g.D.Disk.states g.D.Disk.failures g.D.Disk.honest c.args.disk.now c.must_close.new.disk c.in_ok-must_close.ensures.looks c.write.new.disk c.sync-2.new.disk c.in_ok-write.ensures.ok made) c.sync-2.ensures.ok

pub returns-then-not-branch-clause-left : goal.returns-then-not-branch-clause-left
returns-then-not-branch-clause-left g c =
    on_ok _ _ c.sync.result (λ made honest at.
    absurd (not_left _ (now (g.D.Disk.states c.args.disk.now) 0) at (c.in_ok-must_close.ensures.value (c.sync.ensures.was_honest honest)) c.if-not-branch.true)) c.sync.ensures.ok

pub returns-clause-left : goal.returns-clause-left
returns-clause-left g c =
    on_ok _ _ c.sync-2.result (λ made honest at.
    closed_first g.D.Disk.states g.D.Disk.failures g.D.Disk.honest c.args.disk.now c.must_close.new.disk c.write.new.disk c.sync-2.new.disk c.in_ok-must_close.ensures.looks at c.in_ok-write.ensures.ok made) c.sync-2.ensures.ok
