use Rattle.std.proofs.Common.{◌≡◌, ◌+◌, ◌++◌, ◌∷◌, [], ℕ, List, length, refl, sym, ap, subst, arith, ◌∙◌}
use Rattle.std.proofs.lemmas.List.{length-append}
use Rattle.std.proofs.lemmas.Result.{err_from_is_err_and}
use Rattle.log_records.specs.Layout.{layout_of}
use Rattle.store_layout.specs.Checkpoints.{section_bytes, sections_bytes}
use Rattle.store_layout.specs.Faults.{IsFault}
use Rattle.checkpoint_file.specs.declared.loading.LoadedSection.{LoadedSection}
use Rattle.checkpoint_file.specs.Loads.{section_of, sections_of, seen_in, GoesOn, IsLoaded}
use Rattle.file_pieces.specs.Pieces.{Holds}
use Rattle.disk_model.proofs.LookLemmas.{no_look, looks_on}
use Rattle.checkpoint_file.proofs.LookLemmas.{same_seen}
use Rattle.checkpoint_file.proofs.PlaceLemmas.{at_rest_of, refuses_more}
use Rattle.checkpoint_file.proofs.SectionReading.{no_sections, no_section_bytes, sections_step, section_bytes_more, sections_fault}
use Rattle.checkpoint_file.proofs.loading.all_sections.Goals as goal

pub loop-number-init : goal.loop-number-init
loop-number-init g c = record {
  looks = no_look g.D.Disk.states g.D.Disk.failures g.D.Disk.honest c.args.disk.now;
  behind = record { file = refl; version = refl; end = refl };
  so_many = let none = ap (λ (l : List LoadedSection). length l) c.new-sections.ensures.items in omega (arith, none);
  loaded = no_sections (layout_of c.args.unread.version) c.args.stripes.count c.new-sections.result.items c.new-sections.ensures.items;
  at = c.requires.at;
  called = refl;
  held = c.requires.held;
  read = λ honest rest is size. no_section_bytes (layout_of c.args.unread.version) c.new-sections.result.items c.new-sections.ensures.items _ rest c.args.unread is size;
}

pub returns-in_err-section-clause-looks : goal.returns-in_err-section-clause-looks
returns-in_err-section-clause-looks g c =
    let q = err_from_is_err_and c.from_residual.result c.from_residual.ensures.1 in
    rw (q.1, q.2)
    (looks_on g.D.Disk.states g.D.Disk.failures g.D.Disk.honest _ c.args.disk.now c.loop-number.disk c.section.new.disk c.loop-number.invariant.looks c.in_err-section.ensures.looks)

pub returns-in_err-section-clause-err : goal.returns-in_err-section-clause-err
returns-in_err-section-clause-err g c =
    let q = err_from_is_err_and c.from_residual.result c.from_residual.ensures.1 in
    let reads : List LoadedSection = c.loop-number.sections.items in
    let inv = c.loop-number.invariant in
    rw (q.1, q.2)
    (refuses_more c.args.unread.file c.loop-number.rest.file _ _ _ inv.behind.file
    (λ offset why honest rest is size.
    let so_far = inv.read (c.in_err-section.ensures.looks.was_honest honest) rest is size in
    sections_fault (layout_of c.args.unread.version) c.args.stripes.count reads c.loop-number.number offset _ rest c.args.unread c.loop-number.rest inv.so_many inv.behind size inv.loaded so_far
    (subst (λ v. (distance : ℕ) × (offset ≡ c.loop-number.rest.at + distance) × IsFault (layout_of v) c.args.stripes.count c.loop-number.number so_far.left distance) inv.behind.version
    (at_rest_of g.D.Disk.states g.D.Disk.failures g.D.Disk.honest c.args.disk.now c.loop-number.disk c.args.unread c.loop-number.rest (sections_bytes (layout_of c.args.unread.version) (sections_of reads)) rest _ inv.looks inv.behind.file so_far (why honest))))
    c.in_err-section.ensures.err)

pub returns-in_err-push-clause-looks : goal.returns-in_err-push-clause-looks
returns-in_err-push-clause-looks g c =
    let q = err_from_is_err_and c.from_residual-in_err-push.result c.from_residual-in_err-push.ensures.1 in
    rw (q.1, q.2)
    (looks_on g.D.Disk.states g.D.Disk.failures g.D.Disk.honest 0 c.args.disk.now c.loop-number.disk c.section.new.disk c.loop-number.invariant.looks c.in_ok-section.ensures.looks)

pub loop-number-preserved : goal.loop-number-preserved
loop-number-preserved g c =
    let inv = c.loop-number.invariant in
    let counted = inv.so_many in
    let reads : List LoadedSection = c.loop-number.sections.items in
    let read : LoadedSection = c.in_ok-section.section in
    let items : c.push.new.self.items ≡ reads ++ read ∷ [] = c.in_ok-push.ensures.items in
    let end_before = inv.behind.end in
    let end_after = c.in_ok-section.ensures.behind.end in
    let layout = layout_of c.args.unread.version in
    record {
      looks = looks_on g.D.Disk.states g.D.Disk.failures g.D.Disk.honest 0 c.args.disk.now c.loop-number.disk c.section.new.disk inv.looks c.in_ok-section.ensures.looks;
      behind = record { file = c.in_ok-section.ensures.behind.file ∙ inv.behind.file; version = c.in_ok-section.ensures.behind.version ∙ inv.behind.version; end = omega (arith, end_before, end_after) };
      so_many = omega (arith, counted, length-append reads (read ∷ []), ap (λ (l : List LoadedSection). length l) items);
      loaded = sections_step layout c.args.stripes.count reads read c.loop-number.number counted inv.loaded
          (subst (λ v. IsLoaded (layout_of v) c.args.stripes.count c.loop-number.number read) inv.behind.version c.in_ok-section.ensures.loaded) c.push.new.self.items items;
      at = c.in_ok-section.ensures.at;
      called = let so_far = inv.called in let more = c.in_ok-section.ensures.called in omega (arith, so_far, more);
      held = λ honest. subst (λ (n : ℕ). Holds (seen_in g.D.Disk.states c.section.new.disk n) c.section.new.reader) (sym c.in_ok-section.ensures.behind.file) (c.in_ok-section.ensures.held honest);
      read = λ honest rest is size.
          let so_far = inv.read (c.in_ok-section.ensures.looks.was_honest honest) rest is size in
          section_bytes_more layout reads read _ (seen_in g.D.Disk.states c.loop-number.disk c.loop-number.rest.file) rest c.loop-number.rest c.in_ok-section.behind
          (same_seen g.D.Disk.states g.D.Disk.failures g.D.Disk.honest c.args.disk.now c.loop-number.disk c.args.unread.file c.loop-number.rest.file inv.behind.file inv.looks)
          so_far
          (subst (λ v. GoesOn (seen_in g.D.Disk.states c.loop-number.disk c.loop-number.rest.file) (section_bytes (layout_of v) (section_of read)) so_far.left c.in_ok-section.behind) inv.behind.version
          (at_rest_of g.D.Disk.states g.D.Disk.failures g.D.Disk.honest c.args.disk.now c.loop-number.disk c.args.unread c.loop-number.rest (sections_bytes layout (sections_of reads)) rest _ inv.looks inv.behind.file so_far
          (c.in_ok-section.ensures.ok honest)))
          c.push.new.self.items items;
    }
