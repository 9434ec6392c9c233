use Rattle.std.proofs.Common.{◌∙◌, arith, refl}
use Rattle.disk_model.proofs.MomentLemmas.{goes_on}
use Rattle.recovery.specs.Formatting.{AtStops, IsNewOrUnformatted}
use Rattle.recovery.proofs.FormattingLemmas.{is_clear, looked_moments, starts, stopped_moments}
use Rattle.recovery.proofs.GateClosing.{on_ok}
use Rattle.recovery.proofs.NewFiles.{still_empty}
use Rattle.recovery.specs.LogReading.{contents_of}
use Rattle.recovery.proofs.SyncingLemmas.{read_is_left}
use Rattle.recovery.proofs.formatting.format_as.Goals as goal

pub returns-in_err-sync_files-clause-moments : goal.returns-in_err-sync_files-clause-moments
returns-in_err-sync_files-clause-moments g c = λ honest at.
    stopped_moments (IsNewOrUnformatted c.args.stripes.count) g.D.Disk.states g.D.Disk.failures c.args.disk.now (g.met.D.Disk.are_coherent c.args.disk.now) (starts _ _ at) 2 c.sync_files.new.disk (omega arith) c.in_err-sync_files.ensures.err

pub returns-in_err-is_formatted-clause-moments : goal.returns-in_err-is_formatted-clause-moments
returns-in_err-is_formatted-clause-moments g c = λ honest at.
    looked_moments (IsNewOrUnformatted c.args.stripes.count) g.D.Disk.states g.D.Disk.failures c.args.disk.now (g.met.D.Disk.are_coherent c.args.disk.now) (starts _ _ at) g.D.Disk.honest 2 _ c.sync_files.new.disk c.is_formatted.new.disk (omega arith)
    c.in_ok-sync_files.ensures.ok c.is_formatted.ensures.looks

pub returns-then-branch-clause-moments : goal.returns-then-branch-clause-moments
returns-then-branch-clause-moments g c = λ honest at.
    looked_moments (IsNewOrUnformatted c.args.stripes.count) g.D.Disk.states g.D.Disk.failures c.args.disk.now (g.met.D.Disk.are_coherent c.args.disk.now) (starts _ _ at) g.D.Disk.honest 2 _ c.sync_files.new.disk c.is_formatted.new.disk (omega arith)
    c.in_ok-sync_files.ensures.ok c.is_formatted.ensures.looks

pub returns-then-branch-clause-unformatted : goal.returns-then-branch-clause-unformatted
returns-then-branch-clause-unformatted g c = λ honest no. absurd (no refl)

pub returns-then-branch-clause-ok : goal.returns-then-branch-clause-ok
returns-then-branch-clause-ok g c = tt

pub returns-then-branch-clause-written : goal.returns-then-branch-clause-written
returns-then-branch-clause-written g c = tt

pub returns-then-branch-clause-reads : goal.returns-then-branch-clause-reads
returns-then-branch-clause-reads g c = tt

pub returns-then-branch-clause-read_in : goal.returns-then-branch-clause-read_in
returns-then-branch-clause-read_in g c = tt

pub returns-then-branch-clause-files : goal.returns-then-branch-clause-files
returns-then-branch-clause-files g c = tt

pub returns-in_err-bytes-clause-moments : goal.returns-in_err-bytes-clause-moments
returns-in_err-bytes-clause-moments g c = λ honest at.
    looked_moments (IsNewOrUnformatted c.args.stripes.count) g.D.Disk.states g.D.Disk.failures c.args.disk.now (g.met.D.Disk.are_coherent c.args.disk.now) (starts _ _ at) g.D.Disk.honest 2 _ c.sync_files.new.disk c.is_formatted.new.disk (omega arith)
    c.in_ok-sync_files.ensures.ok c.is_formatted.ensures.looks

pub returns-clause-moments : goal.returns-clause-moments
returns-clause-moments g c = λ honest at.
    let before = c.make_store.ensures.was_honest honest in
    let clear = is_clear g.D.Disk.states g.D.Disk.failures g.D.Disk.honest c.args.disk.now c.sync_files.new.disk c.is_formatted.new.disk c.in_ok-sync_files.ensures.ok c.in_ok-is_formatted.ensures.looks _
    (c.in_ok-is_formatted.ensures.value before) c.if-branch.false in
    goes_on g.D.Disk.states c.args.disk.now c.is_formatted.new.disk c.make_store.new.disk (AtStops (IsNewOrUnformatted c.args.stripes.count))
    (looked_moments (IsNewOrUnformatted c.args.stripes.count) g.D.Disk.states g.D.Disk.failures c.args.disk.now (g.met.D.Disk.are_coherent c.args.disk.now) (starts _ _ at) g.D.Disk.honest 2 _ c.sync_files.new.disk c.is_formatted.new.disk (omega arith)
    c.in_ok-sync_files.ensures.ok c.is_formatted.ensures.looks)
    (c.make_store.ensures.moments honest c.args.stripes.count c.args.stripes.allowed (c.deref.ensures.value ∙ c.in_ok-bytes.ensures.ok) clear)

pub returns-clause-ok : goal.returns-clause-ok
returns-clause-ok g c =
    on_ok _ _ c.make_store.result (λ made honest.
    let before = c.make_store.ensures.was_honest honest in
    let clear = is_clear g.D.Disk.states g.D.Disk.failures g.D.Disk.honest c.args.disk.now c.sync_files.new.disk c.is_formatted.new.disk c.in_ok-sync_files.ensures.ok c.in_ok-is_formatted.ensures.looks _
    (c.in_ok-is_formatted.ensures.value before) c.if-branch.false in
    made honest c.args.stripes.count c.args.stripes.allowed (c.deref.ensures.value ∙ c.in_ok-bytes.ensures.ok) clear) c.make_store.ensures.ok

pub returns-clause-written : goal.returns-clause-written
returns-clause-written g c =
    on_ok _ _ c.make_store.result (λ made honest.
    let before = c.make_store.ensures.was_honest honest in
    let clear = is_clear g.D.Disk.states g.D.Disk.failures g.D.Disk.honest c.args.disk.now c.sync_files.new.disk c.is_formatted.new.disk c.in_ok-sync_files.ensures.ok c.in_ok-is_formatted.ensures.looks _
    (c.in_ok-is_formatted.ensures.value before) c.if-branch.false in
    made honest c.args.stripes.count c.args.stripes.allowed (c.deref.ensures.value ∙ c.in_ok-bytes.ensures.ok) clear) c.make_store.ensures.written

pub returns-clause-reads : goal.returns-clause-reads
returns-clause-reads g c =
    on_ok _ _ c.make_store.result (λ made honest.
    let before = c.make_store.ensures.was_honest honest in
    let clear = is_clear g.D.Disk.states g.D.Disk.failures g.D.Disk.honest c.args.disk.now c.sync_files.new.disk c.is_formatted.new.disk c.in_ok-sync_files.ensures.ok c.in_ok-is_formatted.ensures.looks _
    (c.in_ok-is_formatted.ensures.value before) c.if-branch.false in
    (made honest c.args.stripes.count c.args.stripes.allowed (c.deref.ensures.value ∙ c.in_ok-bytes.ensures.ok) clear) (contents_of g.D.Disk.states c.make_store.new.disk)
    (read_is_left (g.D.Disk.states c.make_store.new.disk) (g.met.D.Disk.are_coherent c.make_store.new.disk))) c.make_store.ensures.ok

pub returns-clause-read_in : goal.returns-clause-read_in
returns-clause-read_in g c =
    on_ok _ _ c.make_store.result (λ made honest.
    let before = c.make_store.ensures.was_honest honest in
    let clear = is_clear g.D.Disk.states g.D.Disk.failures g.D.Disk.honest c.args.disk.now c.sync_files.new.disk c.is_formatted.new.disk c.in_ok-sync_files.ensures.ok c.in_ok-is_formatted.ensures.looks _
    (c.in_ok-is_formatted.ensures.value before) c.if-branch.false in
    (made honest c.args.stripes.count c.args.stripes.allowed (c.deref.ensures.value ∙ c.in_ok-bytes.ensures.ok) clear) (contents_of g.D.Disk.states c.make_store.new.disk)
    (read_is_left (g.D.Disk.states c.make_store.new.disk) (g.met.D.Disk.are_coherent c.make_store.new.disk))) c.make_store.ensures.written

pub returns-clause-files : goal.returns-clause-files
returns-clause-files g c =
    on_ok _ _ c.make_store.result (λ made honest empty.
    made honest c.args.stripes.count (c.deref.ensures.value ∙ c.in_ok-bytes.ensures.ok)
    (still_empty g.D.Disk.states g.D.Disk.failures g.D.Disk.honest c.args.disk.now c.sync_files.new.disk c.is_formatted.new.disk c.in_ok-sync_files.ensures.ok c.in_ok-is_formatted.ensures.looks empty)) c.make_store.ensures.files
