use Rattle.std.proofs.Common.{◌≡◌, ◌+◌, ◌++◌, ℕ, List, drop, refl, subst}
use Rattle.std.proofs.lemmas.Result.{err_from_is_err_and}
use Rattle.byteorder.specs.Endian.{big_bytes}
use Rattle.log_records.specs.Layout.{layout_of}
use Rattle.store_layout.specs.Checkpoints.{entries_bytes}
use Rattle.checkpoint_file.specs.declared.loading.LoadedSection.{LoadedSection}
use Rattle.checkpoint_file.specs.Loads.{seen_in, AreSoMany, GoesOn, HasFewer}
use Rattle.disk_model.proofs.LookLemmas.{looks_on}
use Rattle.checkpoint_file.proofs.LookLemmas.{same_seen}
use Rattle.checkpoint_file.proofs.PlaceLemmas.{at_rest_of, refuses_more}
use Rattle.checkpoint_file.proofs.SectionReading.{section_begins, section_loaded, section_whole, no_section, bad_section}
use Rattle.checkpoint_file.proofs.one_section.section.Goals as goal

pub returns-in_err-mark-clause-err : goal.returns-in_err-mark-clause-err
returns-in_err-mark-clause-err g c =
    let q = err_from_is_err_and c.from_residual.result c.from_residual.ensures.1 in
    rw (q.1, q.2)
    (refuses_more c.args.unread.file c.args.unread.file _ _ _ refl
    (λ offset why honest rest is size. no_section (layout_of c.args.unread.version) c.args.stripe.of.count c.args.stripe.number c.requires.some offset c.args.unread.at rest (why honest rest is size))
    c.in_err-mark.ensures.err)

pub returns-in_err-entries-clause-looks : goal.returns-in_err-entries-clause-looks
returns-in_err-entries-clause-looks g c =
    let q = err_from_is_err_and c.from_residual-in_err-entries.result c.from_residual-in_err-entries.ensures.1 in
    rw (q.1, q.2)
    (looks_on g.D.Disk.states g.D.Disk.failures g.D.Disk.honest _ c.args.disk.now c.section_head.new.disk c.entries.new.disk c.in_ok-mark.ensures.looks c.in_err-entries.ensures.looks)

pub returns-in_err-entries-clause-err : goal.returns-in_err-entries-clause-err
returns-in_err-entries-clause-err g c =
    let q = err_from_is_err_and c.from_residual-in_err-entries.result c.from_residual-in_err-entries.ensures.1 in
    let mark = c.in_ok-mark.mark in
    let count = c.in_ok-mark.count in
    let head : List ℕ = big_bytes 8 mark ++ big_bytes 4 count in
    let same = c.behind-behind.ensures.same.file in
    rw (q.1, q.2)
    (refuses_more c.args.unread.file c.behind-behind.result.file _ _ _ same
    (λ offset why honest rest is size.
    let spelled = c.in_ok-mark.ensures.ok (c.in_err-entries.ensures.looks.was_honest honest) rest is size in
    let first = section_begins (layout_of c.args.unread.version) c.args.stripe.of.count c.args.stripe.number mark count _ rest (drop 12 rest) c.args.unread c.behind-behind.result is size spelled c.behind-behind.ensures.place c.behind-behind.ensures.left in
    bad_section (layout_of c.args.unread.version) c.args.stripe.of.count c.args.stripe.number c.requires.some mark count offset c.args.unread.at c.behind-behind.result.at rest first.left c.in_ok-mark.ensures.fits.0 c.in_ok-mark.ensures.fits.1 first.spelled
    c.behind-behind.ensures.place
    (subst (λ v. (distance : ℕ) × (offset ≡ c.behind-behind.result.at + distance) × HasFewer (layout_of v) c.args.stripe.of.count c.args.stripe.number count first.left distance) c.behind-behind.ensures.same.version
    (at_rest_of g.D.Disk.states g.D.Disk.failures g.D.Disk.honest c.args.disk.now c.section_head.new.disk c.args.unread c.behind-behind.result head rest _ c.in_ok-mark.ensures.looks same first (why honest))))
    c.in_err-entries.ensures.err)

pub returns-clause-looks : goal.returns-clause-looks
returns-clause-looks g c =
    looks_on g.D.Disk.states g.D.Disk.failures g.D.Disk.honest 0 c.args.disk.now c.section_head.new.disk c.entries.new.disk c.in_ok-mark.ensures.looks c.in_ok-entries.ensures.looks

pub returns-clause-ok : goal.returns-clause-ok
returns-clause-ok g c = λ honest rest is size.
    let mark = c.in_ok-mark.mark in
    let count = c.in_ok-mark.count in
    let head : List ℕ = big_bytes 8 mark ++ big_bytes 4 count in
    let same = c.behind-behind.ensures.same.file in
    let version = c.behind-behind.ensures.same.version in
    let read : LoadedSection = record { mark = mark; entries = c.in_ok-entries.entries } in
    let spelled = c.in_ok-mark.ensures.ok (c.in_ok-entries.ensures.looks.was_honest honest) rest is size in
    let first = section_begins (layout_of c.args.unread.version) c.args.stripe.of.count c.args.stripe.number mark count _ rest (drop 12 rest) c.args.unread c.behind-behind.result is size spelled c.behind-behind.ensures.place c.behind-behind.ensures.left in
    section_whole (layout_of c.args.unread.version) c.args.stripe.of.count c.args.stripe.number read count (seen_in g.D.Disk.states c.args.disk.now c.args.unread.file) (seen_in g.D.Disk.states c.section_head.new.disk c.behind-behind.result.file) rest
    c.behind-behind.result c.in_ok-entries.rest
    (same_seen g.D.Disk.states g.D.Disk.failures g.D.Disk.honest c.args.disk.now c.section_head.new.disk c.args.unread.file c.behind-behind.result.file same c.in_ok-mark.ensures.looks)
    (subst (λ v. AreSoMany (layout_of v) c.args.stripe.of.count c.args.stripe.number count read.entries.items) version c.in_ok-entries.ensures.many) first
    (subst (λ v. GoesOn (seen_in g.D.Disk.states c.section_head.new.disk c.behind-behind.result.file) (entries_bytes (layout_of v) read.entries.items) first.left c.in_ok-entries.rest) version
    (at_rest_of g.D.Disk.states g.D.Disk.failures g.D.Disk.honest c.args.disk.now c.section_head.new.disk c.args.unread c.behind-behind.result head rest _ c.in_ok-mark.ensures.looks same first (c.in_ok-entries.ensures.ok honest)))

pub returns-clause-loaded : goal.returns-clause-loaded
returns-clause-loaded g c =
    let read : LoadedSection = record { mark = c.in_ok-mark.mark; entries = c.in_ok-entries.entries } in
    section_loaded (layout_of c.args.unread.version) c.args.stripe.of.count c.args.stripe.number read c.in_ok-mark.count c.in_ok-mark.ensures.fits.0 c.in_ok-mark.ensures.fits.1
    (subst (λ v. AreSoMany (layout_of v) c.args.stripe.of.count c.args.stripe.number c.in_ok-mark.count read.entries.items) c.behind-behind.ensures.same.version c.in_ok-entries.ensures.many)
