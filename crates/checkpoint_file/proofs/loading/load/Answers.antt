use Rattle.std.proofs.Common.{ℕ, List, refl, sym, subst, arith}
use Rattle.std.proofs.lemmas.Result.{err_from_is_err_and}
use Rattle.log_records.specs.Layout.{layout_of}
use Rattle.store_layout.specs.Checkpoints.{IsCheckpoint}
use Rattle.store_layout.specs.Faults.{version_in}
use Rattle.store_layout.proofs.Refused.{at_fault}
use Rattle.checkpoint_file.specs.Heads.{IsHead}
use Rattle.checkpoint_file.specs.Loads.{checkpoint_of, seen_in}
use Rattle.disk_model.proofs.LookLemmas.{looks_on}
use Rattle.checkpoint_file.proofs.LookLemmas.{same_seen}
use Rattle.checkpoint_file.proofs.Versions.{layout_for_byte}
use Rattle.checkpoint_file.proofs.WholeFiles.{file_refused}
use Rattle.checkpoint_file.proofs.loading.load.Goals as goal

pub returns-in_err-load_body-in-Some-clause-looks : goal.returns-in_err-load_body-in-Some-clause-looks
returns-in_err-load_body-in-Some-clause-looks g c =
    let q = err_from_is_err_and c.from_residual-in_err-load_body-in-Some.result c.from_residual-in_err-load_body-in-Some.ensures.1 in
    rw (q.1, q.2)
    (looks_on g.D.Disk.states g.D.Disk.failures g.D.Disk.honest _ c.args.disk.now c.read_head.new.disk c.load_body.new.disk c.in_ok-head.ensures.looks c.in_err-load_body-in-Some.ensures.looks)

pub returns-in_err-load_body-in-Some-clause-err : goal.returns-in_err-load_body-in-Some-clause-err
returns-in_err-load_body-in-Some-clause-err g c =
    let q = err_from_is_err_and c.from_residual-in_err-load_body-in-Some.result c.from_residual-in_err-load_body-in-Some.ensures.1 in
    let file = c.args.file in
    let content : List ℕ = seen_in g.D.Disk.states c.args.disk.now file in
    let same = same_seen g.D.Disk.states g.D.Disk.failures g.D.Disk.honest c.args.disk.now c.read_head.new.disk file file refl c.in_ok-head.ensures.looks in
    rw (q.1, q.2)
    (file_refused content _ file c.in-Some.head _ _ same
    (λ honest. rw c.in-Some.is at (c.in_ok-head.ensures.some (c.in_err-load_body-in-Some.ensures.looks.was_honest honest)))
    c.in_err-load_body-in-Some.ensures.err)

pub returns-in_ok-load_body-in-Some-clause-looks : goal.returns-in_ok-load_body-in-Some-clause-looks
returns-in_ok-load_body-in-Some-clause-looks g c =
    looks_on g.D.Disk.states g.D.Disk.failures g.D.Disk.honest 0 c.args.disk.now c.read_head.new.disk c.load_body.new.disk c.in_ok-head.ensures.looks c.in_ok-load_body-in-Some.ensures.looks

pub returns-in_ok-load_body-in-Some-clause-some : goal.returns-in_ok-load_body-in-Some-clause-some
returns-in_ok-load_body-in-Some-clause-some g c = λ honest.
    let file = c.args.file in
    let content : List ℕ = seen_in g.D.Disk.states c.args.disk.now file in
    let same = same_seen g.D.Disk.states g.D.Disk.failures g.D.Disk.honest c.args.disk.now c.read_head.new.disk file file refl c.in_ok-head.ensures.looks in
    let is = rw c.in-Some.is at (c.in_ok-head.ensures.some (c.in_ok-load_body-in-Some.ensures.looks.was_honest honest)) in
    let found = c.in_ok-load_body-in-Some.ensures.ok honest (subst (λ (content : List ℕ). IsHead c.in-Some.head file content) (sym same) is) in
    subst (λ layout. IsCheckpoint layout (checkpoint_of c.in_ok-load_body-in-Some.field-0) content) (sym (layout_for_byte c.in-Some.head.version (version_in content) is.version))
    (subst (λ (bytes : List ℕ). IsCheckpoint (layout_of c.in-Some.head.version) (checkpoint_of c.in_ok-load_body-in-Some.field-0) bytes) same found)

pub returns-in_ok-load_body-in-Some-clause-called : goal.returns-in_ok-load_body-in-Some-clause-called
returns-in_ok-load_body-in-Some-clause-called g c = λ honest.
    let is = rw c.in-Some.is at (c.in_ok-head.ensures.some (c.in_ok-load_body-in-Some.ensures.looks.was_honest honest)) in
    let body = is.fields.body in
    let first = c.in_ok-head.ensures.called in
    let more = c.in_ok-load_body-in-Some.ensures.called in
    omega (arith, first, more, body)

pub returns-in_err-load_body-in-Some-clause-tried : goal.returns-in_err-load_body-in-Some-clause-tried
returns-in_err-load_body-in-Some-clause-tried g c = λ honest.
    let q = err_from_is_err_and c.from_residual-in_err-load_body-in-Some.result c.from_residual-in_err-load_body-in-Some.ensures.1 in
    let is = rw c.in-Some.is at (c.in_ok-head.ensures.some (c.in_err-load_body-in-Some.ensures.looks.was_honest honest)) in
    let body = is.fields.body in
    let first = c.in_ok-head.ensures.called in
    let more = c.in_err-load_body-in-Some.ensures.tried in
    rw q.1 (omega (arith, first, more, body))

pub returns-in_err-head-clause-listed : goal.returns-in_err-head-clause-listed
returns-in_err-head-clause-listed g c =
    let q = err_from_is_err_and c.from_residual.result c.from_residual.ensures.1 in
    rw (q.1, q.2) (at_fault c.args.file c.in_err-head.field-0.0 c.in_err-head.ensures.listed)
