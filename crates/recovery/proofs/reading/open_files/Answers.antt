use Rattle.std.proofs.Common.{◌≡◌, inl, ◌+◌, OnErr, OnOk, sym, subst, arith}
use Rattle.std.proofs.lemmas.Result.{err_from_is_err_and, on_err_weaker, on_ok_weaker}
use Rattle.file_pieces.specs.Counting.{Made, MadeAtMost}
use Rattle.store_layout.specs.Calls.{reading_calls}
use Rattle.store_layout.proofs.Refused.{of_files}
use Rattle.store_layout.specs.Checkpoints.{is_to_close, checkpoint_file}
use Rattle.store_layout.specs.Opening.{Contents, Holds, Refuses}
use Rattle.recovery.specs.LogReading.{RefusesFor, contents_of}
use Rattle.recovery.specs.Opening.{IsOpened}
use Rattle.recovery.proofs.LogReadingLemmas.{refuses_more}
use Rattle.recovery.proofs.OpeningLemmas.{if_err, if_ok}
use Rattle.recovery.proofs.SyncingLemmas.{few_synced, four_synced, same_contents}
use Rattle.recovery.proofs.reading.open_files.Goals as goal

pub returns-clause-ok : goal.returns-clause-ok
returns-clause-ok g c = λ honest.
    let contents : Contents = contents_of g.D.Disk.states c.args.disk.now in
    let same = same_contents g.D.Disk.states g.D.Disk.failures c.args.disk.now c.sync_files.new.disk c.in_ok-sync_files.ensures.ok in
    if_ok _ (λ found. IsOpened contents c.args.stripes.count found.0) c.read_files.result (λ found opened. subst (λ (x : Contents). IsOpened x c.args.stripes.count found.0) same opened) (c.read_files.ensures.ok honest)

pub returns-clause-err : goal.returns-clause-err
returns-clause-err g c = λ honest.
    let contents : Contents = contents_of g.D.Disk.states c.args.disk.now in
    let same = same_contents g.D.Disk.states g.D.Disk.failures c.args.disk.now c.sync_files.new.disk c.in_ok-sync_files.ensures.ok in
    if_err _ (λ r. RefusesFor (Refuses contents r) r) c.read_files.result (λ r. refuses_more _ (Refuses contents r) r (λ bad. subst (λ (x : Contents). Refuses x r) same bad)) (c.read_files.ensures.err honest)

pub returns-clause-gate : goal.returns-clause-gate
returns-clause-gate g c = λ honest.
    let contents : Contents = contents_of g.D.Disk.states c.args.disk.now in
    let same = same_contents g.D.Disk.states g.D.Disk.failures c.args.disk.now c.sync_files.new.disk c.in_ok-sync_files.ensures.ok in
    if_ok _ (λ found. found.1 ≡ is_to_close (contents (checkpoint_file (found.0.sealed + 1)))) c.read_files.result
    (λ found is. subst (λ (x : Contents). found.1 ≡ is_to_close (x (checkpoint_file (found.0.sealed + 1)))) same is) (c.read_files.ensures.gate honest)

pub returns-clause-made : goal.returns-clause-made
returns-clause-made g c = λ honest found holds.
    let contents : Contents = contents_of g.D.Disk.states c.args.disk.now in
    let same = same_contents g.D.Disk.states g.D.Disk.failures c.args.disk.now c.sync_files.new.disk c.in_ok-sync_files.ensures.ok in
    let synced = four_synced g.D.Disk.states g.D.Disk.failures c.args.disk.now c.sync_files.new.disk c.in_ok-sync_files.ensures.ok in
    let read = subst (λ (x : Contents). OnOk c.read_files.result (Made g.D.Disk.states (reading_calls x found) c.sync_files.new.disk c.read_files.new.disk)) same
    (c.read_files.ensures.called honest found (subst (λ (x : Contents). Holds x found) (sym same) holds)) in
    on_ok_weaker c.read_files.result (λ (read : Made g.D.Disk.states (reading_calls contents found) c.sync_files.new.disk c.read_files.new.disk). omega (arith, synced, read)) read

pub returns-in_err-sync_files-clause-tried : goal.returns-in_err-sync_files-clause-tried
returns-in_err-sync_files-clause-tried g c = λ honest found holds.
    let q = err_from_is_err_and c.from_residual.result c.from_residual.ensures.1 in
    let few = few_synced g.D.Disk.states g.D.Disk.failures c.args.disk.now c.sync_files.new.disk c.in_err-sync_files.ensures.err in
    rw q.1 (omega (arith, few))

pub returns-clause-tried : goal.returns-clause-tried
returns-clause-tried g c = λ honest found holds.
    let contents : Contents = contents_of g.D.Disk.states c.args.disk.now in
    let same = same_contents g.D.Disk.states g.D.Disk.failures c.args.disk.now c.sync_files.new.disk c.in_ok-sync_files.ensures.ok in
    let synced = four_synced g.D.Disk.states g.D.Disk.failures c.args.disk.now c.sync_files.new.disk c.in_ok-sync_files.ensures.ok in
    let read = subst (λ (x : Contents). OnErr c.read_files.result (MadeAtMost g.D.Disk.states (reading_calls x found) c.sync_files.new.disk c.read_files.new.disk)) same
    (c.read_files.ensures.tried honest found (subst (λ (x : Contents). Holds x found) (sym same) holds)) in
    on_err_weaker c.read_files.result (λ (read : MadeAtMost g.D.Disk.states (reading_calls contents found) c.sync_files.new.disk c.read_files.new.disk). omega (arith, synced, read)) read

pub returns-in_err-sync_files-clause-listed : goal.returns-in_err-sync_files-clause-listed
returns-in_err-sync_files-clause-listed g c =
    let q = err_from_is_err_and c.from_residual.result c.from_residual.ensures.1 in
    rw (q.1, q.2) (of_files 0 c.in_err-sync_files.field-0.0 (omega arith) (inl c.in_err-sync_files.ensures.failed))
