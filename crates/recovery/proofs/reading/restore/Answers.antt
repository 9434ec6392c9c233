use Rattle.std.proofs.Common.{◌≡◌, ℕ, List, Option, OnErr, OnOk, false, sym, ap, subst, arith}
use Rattle.std.proofs.lemmas.Result.{err_from_is_err_and, on_err_weaker, on_ok_weaker}
use Rattle.file_pieces.specs.Counting.{Made, MadeAtMost}
use Rattle.store_layout.specs.Calls.{checkpoint_calls, logs_calls}
use Rattle.store_layout.specs.Faults.{body_length_in}
use Rattle.disk_model.specs.Calls.{Looks}
use Rattle.disk_model.specs.Files.{Files}
use Rattle.disk_model.proofs.LookLemmas.{looks_on, same_now}
use Rattle.store_layout.specs.Checkpoints.{is_sealed}
use Rattle.store_layout.proofs.Refused.{of_files}
use Rattle.store_layout.specs.Opening.{Contents, AreBadLogs, AreLogs, IsCheckpointIn, Refuses}
use Rattle.recovery.proofs.CallLemmas.{body_found, checkpoint_found}
use Rattle.checkpoint_file.specs.declared.loading.LoadedCheckpoint.{LoadedCheckpoint}
use Rattle.checkpoint_file.specs.Loads.{IsUnloadable, checkpoint_of}
use Rattle.recovery.specs.declared.reading.Restored.{Restored}
use Rattle.recovery.specs.LogReading.{RefusesFor, contents_of}
use Rattle.recovery.specs.Opening.{IsOpened, IsRestored}
use Rattle.recovery.proofs.LogReadingLemmas.{refuses_more}
use Rattle.recovery.proofs.OpeningLemmas.{if_err, if_ok, is_opened, logs_refused, not_loaded, same_failed}
use Rattle.recovery.proofs.reading.restore.Goals as goal

pub returns-in_err-loaded-clause-looks : goal.returns-in_err-loaded-clause-looks
returns-in_err-loaded-clause-looks g c =
    let q = err_from_is_err_and c.from_residual-in_err-loaded.result c.from_residual-in_err-loaded.ensures.1 in
    rw (q.1, q.2)
    (subst (λ (n : ℕ). Looks g.D.Disk.states g.D.Disk.failures g.D.Disk.honest n c.args.disk.now c.load.new.disk) (same_failed (Option LoadedCheckpoint) Restored c.in_err-loaded.field-0.0)
    (looks_on g.D.Disk.states g.D.Disk.failures g.D.Disk.honest _ c.args.disk.now c.newest_file.new.disk c.load.new.disk c.in_ok-file.ensures.looks c.in_err-loaded.ensures.looks))

pub returns-in_err-loaded-clause-err : goal.returns-in_err-loaded-clause-err
returns-in_err-loaded-clause-err g c = λ honest.
    let q = err_from_is_err_and c.from_residual-in_err-loaded.result c.from_residual-in_err-loaded.ensures.1 in
    let contents : Contents = contents_of g.D.Disk.states c.args.disk.now in
    let used = c.in_ok-file.ensures.ok (c.in_err-loaded.ensures.looks.was_honest honest) in
    let same = ap (λ (files : Files). (files c.in_ok-file.file).seen) (same_now g.D.Disk.states g.D.Disk.failures g.D.Disk.honest 0 c.args.disk.now c.newest_file.new.disk c.in_ok-file.ensures.looks) in
    let r = c.in_err-loaded.field-0.0 in
    rw (q.1, q.2)
    (refuses_more _ (Refuses contents r) r (λ why. not_loaded contents c.in_ok-file.file used r (subst (λ (content : List ℕ). IsUnloadable c.in_ok-file.file content r) same (why honest))) c.in_err-loaded.ensures.err)

pub returns-in_default-clause-looks : goal.returns-in_default-clause-looks
returns-in_default-clause-looks g c =
    looks_on g.D.Disk.states g.D.Disk.failures g.D.Disk.honest 0 c.args.disk.now c.newest_file.new.disk c.load.new.disk c.in_ok-file.ensures.looks c.in_ok-loaded.ensures.looks

pub returns-in_default-clause-err : goal.returns-in_default-clause-err
returns-in_default-clause-err g c = λ honest.
    let used = c.in_ok-file.ensures.ok (c.in_ok-loaded.ensures.looks.was_honest honest) in
    let same = ap (λ (files : Files). (files c.in_ok-file.file).seen) (same_now g.D.Disk.states g.D.Disk.failures g.D.Disk.honest 0 c.args.disk.now c.newest_file.new.disk c.in_ok-file.ensures.looks) in
    let none = subst (λ (content : List ℕ). is_sealed content ≡ false) same (rw c.in_default.is at (c.in_ok-loaded.ensures.none honest)) in
    absurd (let opened = used.opened in cc)

pub returns-clause-looks : goal.returns-clause-looks
returns-clause-looks g c =
    let first = looks_on g.D.Disk.states g.D.Disk.failures g.D.Disk.honest 0 c.args.disk.now c.newest_file.new.disk c.load.new.disk c.in_ok-file.ensures.looks c.in_ok-loaded.ensures.looks in
    looks_on g.D.Disk.states g.D.Disk.failures g.D.Disk.honest _ c.args.disk.now c.load.new.disk c.restore_from.new.disk first c.restore_from.ensures.looks

pub returns-clause-ok : goal.returns-clause-ok
returns-clause-ok g c = λ honest.
    let later = c.restore_from.ensures.looks.was_honest honest in
    let contents : Contents = contents_of g.D.Disk.states c.args.disk.now in
    let used = c.in_ok-file.ensures.ok (c.in_ok-loaded.ensures.looks.was_honest later) in
    let first = looks_on g.D.Disk.states g.D.Disk.failures g.D.Disk.honest 0 c.args.disk.now c.newest_file.new.disk c.load.new.disk c.in_ok-file.ensures.looks c.in_ok-loaded.ensures.looks in
    let same_contents = ap {B = Contents} (λ (files : Files) (n : ℕ). (files n).seen) (same_now g.D.Disk.states g.D.Disk.failures g.D.Disk.honest 0 c.args.disk.now c.load.new.disk first) in
    let same = ap (λ (files : Files). (files c.in_ok-file.file).seen) (same_now g.D.Disk.states g.D.Disk.failures g.D.Disk.honest 0 c.args.disk.now c.newest_file.new.disk c.in_ok-file.ensures.looks) in
    let checkpoint = subst (λ (content : List ℕ). IsCheckpointIn (checkpoint_of c.in-Some.loaded) content) same (rw c.in-Some.is at (c.in_ok-loaded.ensures.some later)) in
    let rising = rw c.in-Some.is at c.in_ok-loaded.ensures.rising in
    if_ok _ (IsOpened contents c.args.stripes.count) c.restore_from.result
    (λ found restored. is_opened contents c.in_ok-file.file used c.in-Some.loaded c.args.stripes.count found checkpoint
    (subst (λ (x : Contents). IsRestored x (checkpoint_of c.in-Some.loaded) c.args.stripes.count found) same_contents restored))
    (c.restore_from.ensures.ok honest rising)

pub returns-clause-err : goal.returns-clause-err
returns-clause-err g c = λ honest.
    let later = c.restore_from.ensures.looks.was_honest honest in
    let contents : Contents = contents_of g.D.Disk.states c.args.disk.now in
    let used = c.in_ok-file.ensures.ok (c.in_ok-loaded.ensures.looks.was_honest later) in
    let first = looks_on g.D.Disk.states g.D.Disk.failures g.D.Disk.honest 0 c.args.disk.now c.newest_file.new.disk c.load.new.disk c.in_ok-file.ensures.looks c.in_ok-loaded.ensures.looks in
    let same_contents = ap {B = Contents} (λ (files : Files) (n : ℕ). (files n).seen) (same_now g.D.Disk.states g.D.Disk.failures g.D.Disk.honest 0 c.args.disk.now c.load.new.disk first) in
    let same = ap (λ (files : Files). (files c.in_ok-file.file).seen) (same_now g.D.Disk.states g.D.Disk.failures g.D.Disk.honest 0 c.args.disk.now c.newest_file.new.disk c.in_ok-file.ensures.looks) in
    let checkpoint = subst (λ (content : List ℕ). IsCheckpointIn (checkpoint_of c.in-Some.loaded) content) same (rw c.in-Some.is at (c.in_ok-loaded.ensures.some later)) in
    if_err _ (λ r. RefusesFor (Refuses contents r) r) c.restore_from.result
    (λ r. refuses_more _ (Refuses contents r) r (λ bad. logs_refused contents c.in_ok-file.file used c.in-Some.loaded r checkpoint (subst (λ (x : Contents). AreBadLogs x (checkpoint_of c.in-Some.loaded) r) same_contents bad)))
    (c.restore_from.ensures.err honest)

pub returns-clause-called : goal.returns-clause-called
returns-clause-called g c = λ honest found holds.
    let later = c.restore_from.ensures.looks.was_honest honest in
    let contents : Contents = contents_of g.D.Disk.states c.args.disk.now in
    let file = c.in_ok-file.file in
    let used = c.in_ok-file.ensures.ok (c.in_ok-loaded.ensures.looks.was_honest later) in
    let looks = looks_on g.D.Disk.states g.D.Disk.failures g.D.Disk.honest 0 c.args.disk.now c.newest_file.new.disk c.load.new.disk c.in_ok-file.ensures.looks c.in_ok-loaded.ensures.looks in
    let same_contents = ap {B = Contents} (λ (files : Files) (n : ℕ). (files n).seen) (same_now g.D.Disk.states g.D.Disk.failures g.D.Disk.honest 0 c.args.disk.now c.load.new.disk looks) in
    let same = ap (λ (files : Files). (files file).seen) (same_now g.D.Disk.states g.D.Disk.failures g.D.Disk.honest 0 c.args.disk.now c.newest_file.new.disk c.in_ok-file.ensures.looks) in
    let k = checkpoint_of c.in-Some.loaded in
    let checkpoint = subst (λ (content : List ℕ). IsCheckpointIn k content) same (rw c.in-Some.is at (c.in_ok-loaded.ensures.some later)) in
    let of_found = checkpoint_found contents file used found holds k checkpoint in
    let logs = subst (λ (x : Contents). AreLogs x k found.first found.second) (sym same_contents) of_found.logs in
    let one = c.in_ok-file.ensures.called in
    let two = rw c.in-Some.is at (c.in_ok-loaded.ensures.called later) in
    let body = ap (λ (content : List ℕ). checkpoint_calls (body_length_in content)) same in
    let made = subst (λ (x : Contents). OnOk c.restore_from.result (Made g.D.Disk.states (logs_calls x k found.first found.second) c.load.new.disk c.restore_from.new.disk)) same_contents
    (c.restore_from.ensures.called honest found.first found.second logs) in
    on_ok_weaker c.restore_from.result
    (λ (three : Made g.D.Disk.states (logs_calls contents k found.first found.second) c.load.new.disk c.restore_from.new.disk). omega (arith, one, two, body, of_found.body, of_found.calls, three)) made

pub returns-in_err-loaded-clause-tried : goal.returns-in_err-loaded-clause-tried
returns-in_err-loaded-clause-tried g c = λ honest found holds.
    let q = err_from_is_err_and c.from_residual-in_err-loaded.result c.from_residual-in_err-loaded.ensures.1 in
    let contents : Contents = contents_of g.D.Disk.states c.args.disk.now in
    let used = c.in_ok-file.ensures.ok (c.in_err-loaded.ensures.looks.was_honest honest) in
    let same = ap (λ (files : Files). (files c.in_ok-file.file).seen) (same_now g.D.Disk.states g.D.Disk.failures g.D.Disk.honest 0 c.args.disk.now c.newest_file.new.disk c.in_ok-file.ensures.looks) in
    let body = ap (λ (content : List ℕ). checkpoint_calls (body_length_in content)) same in
    let found_body = body_found contents c.in_ok-file.file used found holds in
    let one = c.in_ok-file.ensures.called in
    let two = c.in_err-loaded.ensures.tried honest in
    rw q.1 (omega (arith, one, two, body, found_body))

pub returns-clause-tried : goal.returns-clause-tried
returns-clause-tried g c = λ honest found holds.
    let later = c.restore_from.ensures.looks.was_honest honest in
    let contents : Contents = contents_of g.D.Disk.states c.args.disk.now in
    let file = c.in_ok-file.file in
    let used = c.in_ok-file.ensures.ok (c.in_ok-loaded.ensures.looks.was_honest later) in
    let looks = looks_on g.D.Disk.states g.D.Disk.failures g.D.Disk.honest 0 c.args.disk.now c.newest_file.new.disk c.load.new.disk c.in_ok-file.ensures.looks c.in_ok-loaded.ensures.looks in
    let same_contents = ap {B = Contents} (λ (files : Files) (n : ℕ). (files n).seen) (same_now g.D.Disk.states g.D.Disk.failures g.D.Disk.honest 0 c.args.disk.now c.load.new.disk looks) in
    let same = ap (λ (files : Files). (files file).seen) (same_now g.D.Disk.states g.D.Disk.failures g.D.Disk.honest 0 c.args.disk.now c.newest_file.new.disk c.in_ok-file.ensures.looks) in
    let k = checkpoint_of c.in-Some.loaded in
    let checkpoint = subst (λ (content : List ℕ). IsCheckpointIn k content) same (rw c.in-Some.is at (c.in_ok-loaded.ensures.some later)) in
    let of_found = checkpoint_found contents file used found holds k checkpoint in
    let logs = subst (λ (x : Contents). AreLogs x k found.first found.second) (sym same_contents) of_found.logs in
    let one = c.in_ok-file.ensures.called in
    let two = rw c.in-Some.is at (c.in_ok-loaded.ensures.called later) in
    let body = ap (λ (content : List ℕ). checkpoint_calls (body_length_in content)) same in
    let made = subst (λ (x : Contents). OnErr c.restore_from.result (MadeAtMost g.D.Disk.states (logs_calls x k found.first found.second) c.load.new.disk c.restore_from.new.disk)) same_contents
    (c.restore_from.ensures.tried honest found.first found.second logs) in
    on_err_weaker c.restore_from.result
    (λ (three : MadeAtMost g.D.Disk.states (logs_calls contents k found.first found.second) c.load.new.disk c.restore_from.new.disk). omega (arith, one, two, body, of_found.body, of_found.calls, three)) made

pub returns-in_err-loaded-clause-listed : goal.returns-in_err-loaded-clause-listed
returns-in_err-loaded-clause-listed g c =
    let q = err_from_is_err_and c.from_residual-in_err-loaded.result c.from_residual-in_err-loaded.ensures.1 in
    let few = c.in_ok-file.ensures.file in
    rw (q.1, q.2) (of_files c.in_ok-file.file c.in_err-loaded.field-0.0 (omega (arith, few)) c.in_err-loaded.ensures.listed)
