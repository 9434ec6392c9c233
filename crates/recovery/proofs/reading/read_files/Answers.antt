use Rattle.std.proofs.Common.{◌≡◌, inl, ◌+◌, ◌-◌, ap, ◌∙◌, arith}
use Rattle.std.proofs.lemmas.Result.{err_from_is_err_and}
use Rattle.disk_model.specs.Files.{Files}
use Rattle.disk_model.proofs.LookLemmas.{looks_on, same_now}
use Rattle.store_layout.specs.Checkpoints.{is_to_close, checkpoint_file}
use Rattle.store_layout.proofs.Refused.{of_files}
use Rattle.recovery.specs.LogReading.{contents_of}
use Rattle.recovery.proofs.reading.read_files.Goals as goal

pub returns-in_err-must_close-clause-looks : goal.returns-in_err-must_close-clause-looks
returns-in_err-must_close-clause-looks g c =
    let q = err_from_is_err_and c.from_residual-in_err-must_close.result c.from_residual-in_err-must_close.ensures.1 in
    rw (q.1, q.2, c.in_err-must_close.ensures.err)
    (looks_on g.D.Disk.states g.D.Disk.failures g.D.Disk.honest 1 c.args.disk.now c.restore.new.disk c.must_close.new.disk c.in_ok-restored.ensures.looks c.in_err-must_close.ensures.failed)

pub returns-clause-looks : goal.returns-clause-looks
returns-clause-looks g c =
    looks_on g.D.Disk.states g.D.Disk.failures g.D.Disk.honest 0 c.args.disk.now c.restore.new.disk c.must_close.new.disk c.in_ok-restored.ensures.looks c.in_ok-must_close.ensures.looks

pub returns-clause-gate : goal.returns-clause-gate
returns-clause-gate g c = λ honest.
    let same = ap (λ (files : Files). (files (1 - checkpoint_file c.in_ok-restored.restored.sealed)).seen)
    (same_now g.D.Disk.states g.D.Disk.failures g.D.Disk.honest 0 c.args.disk.now c.restore.new.disk c.in_ok-restored.ensures.looks) in
    let other : 1 - checkpoint_file c.in_ok-restored.restored.sealed ≡ checkpoint_file (c.in_ok-restored.restored.sealed + 1) = omega arith in
    let value = rw c.checkpoint_file.ensures at (c.in_ok-must_close.ensures.value honest) in
    value ∙ ap is_to_close same ∙ ap (λ n. is_to_close (contents_of g.D.Disk.states c.args.disk.now n)) other

pub returns-clause-called : goal.returns-clause-called
returns-clause-called g c = λ honest found holds.
    let one = c.in_ok-restored.ensures.called (c.in_ok-must_close.ensures.looks.was_honest honest) found holds in
    let two = c.in_ok-must_close.ensures.called in
    omega (arith, one, two)

pub returns-in_err-restored-clause-tried : goal.returns-in_err-restored-clause-tried
returns-in_err-restored-clause-tried g c = λ honest found holds.
    let q = err_from_is_err_and c.from_residual.result c.from_residual.ensures.1 in
    let tried = c.in_err-restored.ensures.tried honest found holds in
    rw q.1 (omega (arith, tried))

pub returns-in_err-must_close-clause-tried : goal.returns-in_err-must_close-clause-tried
returns-in_err-must_close-clause-tried g c = λ honest found holds.
    let q = err_from_is_err_and c.from_residual-in_err-must_close.result c.from_residual-in_err-must_close.ensures.1 in
    let one = c.in_ok-restored.ensures.called (c.in_err-must_close.ensures.failed.was_honest honest) found holds in
    let two = c.in_err-must_close.ensures.called in
    rw q.1 (omega (arith, one, two))

pub returns-in_err-must_close-clause-listed : goal.returns-in_err-must_close-clause-listed
returns-in_err-must_close-clause-listed g c =
    let q = err_from_is_err_and c.from_residual-in_err-must_close.result c.from_residual-in_err-must_close.ensures.1 in
    rw (q.1, q.2) (of_files 0 c.in_err-must_close.field-0.0 (omega arith) (inl c.in_err-must_close.ensures.err))
