use Rattle.std.proofs.Common.{◌≡◌, ◌≢◌, ◌⊎◌, ℕ, List, inl, inr, refl, sym, ap, subst, ◌∙◌, arith}
use Rattle.std.proofs.lemmas.Result.{err_from_is_err_and}
use Rattle.log_records.specs.Layout.{layout_of}
use Rattle.store_layout.specs.Checkpoints.{AreMarkedFrom, greatest_mark}
use Rattle.store_layout.specs.Failures.{IsFileRefused}
use Rattle.store_layout.specs.Faults.{body_in}
use Rattle.checkpoint_file.specs.declared.loading.LoadedSection.{LoadedSection}
use Rattle.checkpoint_file.specs.declared.loading.LoadedCheckpoint.{LoadedCheckpoint}
use Rattle.checkpoint_file.specs.Loads.{sections_of, seen_in, IsBodyOf}
use Rattle.disk_model.proofs.LookLemmas.{looks_on}
use Rattle.checkpoint_file.proofs.WholeFiles.{all_bytes, place_refused, size_refused, sections_refused, of_file, has_bad_marks, is_checkpoint}
use Rattle.checkpoint_file.proofs.loading.load_body.Goals as goal

pub returns-in_err-stripes-clause-err : goal.returns-in_err-stripes-clause-err
returns-in_err-stripes-clause-err g c =
    let q = err_from_is_err_and c.from_residual.result c.from_residual.ensures.1 in
    rw (q.1, q.2) (size_refused c.args.file (seen_in g.D.Disk.states c.args.disk.now c.args.file) c.args.head.now _ _ c.in_err-stripes.ensures.err)

pub returns-in_err-sections-clause-looks : goal.returns-in_err-sections-clause-looks
returns-in_err-sections-clause-looks g c =
    let q = err_from_is_err_and c.from_residual-in_err-sections.result c.from_residual-in_err-sections.ensures.1 in
    rw (q.1, q.2)
    (looks_on g.D.Disk.states g.D.Disk.failures g.D.Disk.honest _ c.args.disk.now c.sized_body.new.disk c.whole_body.new.disk c.in_ok-stripes.ensures.looks c.in_err-sections.ensures.looks)

pub returns-in_err-sections-clause-err : goal.returns-in_err-sections-clause-err
returns-in_err-sections-clause-err g c =
    let q = err_from_is_err_and c.from_residual-in_err-sections.result c.from_residual-in_err-sections.ensures.1 in
    rw (q.1, q.2)
    (sections_refused g.D.Disk.states g.D.Disk.failures g.D.Disk.honest c.args.disk.now c.sized_body.new.disk c.args.file c.args.head.now c.in_ok-stripes.body c.in_ok-stripes.stripes.count _ _
    c.in_ok-stripes.ensures.looks c.in_ok-stripes.ensures.place.0 c.in_ok-stripes.ensures.place.1
    (λ honest fields. c.in_ok-stripes.ensures.ok (c.in_err-sections.ensures.looks.was_honest honest) fields)
    (λ honest. c.in_ok-stripes.ensures.inside (c.in_err-sections.ensures.looks.was_honest honest))
    c.in_err-sections.ensures.err)

pub returns-then-greatest-head-clause-looks : goal.returns-then-greatest-head-clause-looks
returns-then-greatest-head-clause-looks g c =
    looks_on g.D.Disk.states g.D.Disk.failures g.D.Disk.honest 0 c.args.disk.now c.sized_body.new.disk c.whole_body.new.disk c.in_ok-stripes.ensures.looks c.in_ok-sections.ensures.looks

pub returns-then-greatest-head-clause-err : goal.returns-then-greatest-head-clause-err
returns-then-greatest-head-clause-err g c = inr (inr (λ honest is.
    let reads : List LoadedSection = c.in_ok-sections.sections.items in
    let loaded : LoadedCheckpoint = record { version = c.args.head.now.version; generation = c.args.head.now.generation; low = c.args.head.now.low; stripes = c.in_ok-stripes.stripes; sections = c.in_ok-sections.sections } in
    let first = c.in_ok-sections.ensures.looks.was_honest honest in
    let place = c.in_ok-stripes.ensures.place in
    let body = subst (λ v. IsBodyOf (layout_of v) c.in_ok-stripes.stripes.count reads (body_in (seen_in g.D.Disk.states c.args.disk.now c.args.file))) place.1.version_is
    (of_file g.D.Disk.states g.D.Disk.failures g.D.Disk.honest c.args.disk.now c.sized_body.new.disk c.args.file c.args.head.now c.in_ok-stripes.body (IsBodyOf (layout_of c.in_ok-stripes.body.version) c.in_ok-stripes.stripes.count reads)
    c.in_ok-stripes.ensures.looks is.fields place.1 (c.in_ok-stripes.ensures.inside first) (c.in_ok-sections.ensures.ok honest)) in
    let greatest : c.greatest_mark-greatest.result ≡ greatest_mark (sections_of reads) = c.greatest_mark-greatest.ensures ∙ ap (λ (l : List LoadedSection). greatest_mark (sections_of l)) c.deref.ensures.value in
    let marked = c.are_marked_from-is_marked.ensures in
    let wrong : (greatest_mark (sections_of reads) ≢ c.args.head.now.greatest_mark) ⊎ (AreMarkedFrom c.args.head.now.low (sections_of reads) → ⊥) = elim c.then-greatest-head.either [
      | inl other ↦ inl (λ e. other (greatest ∙ e))
      | inr both ↦ inr (λ all. absurd (let unmarked = both.1 in let yes = marked.1 (subst (λ (l : List LoadedSection). AreMarkedFrom c.args.head.now.low (sections_of l)) (sym c.deref-2.ensures.value) all) in cc))
    ] in
    has_bad_marks c.args.file (seen_in g.D.Disk.states c.args.disk.now c.args.file) c.args.head.now is (c.in_ok-stripes.ensures.ok first is.fields) loaded refl refl place.0 body _ refl wrong))

pub returns-clause-looks : goal.returns-clause-looks
returns-clause-looks g c =
    looks_on g.D.Disk.states g.D.Disk.failures g.D.Disk.honest 0 c.args.disk.now c.sized_body.new.disk c.whole_body.new.disk c.in_ok-stripes.ensures.looks c.in_ok-sections.ensures.looks

pub returns-clause-ok : goal.returns-clause-ok
returns-clause-ok g c = λ honest is.
    let reads : List LoadedSection = c.in_ok-sections.sections.items in
    let loaded : LoadedCheckpoint = record { version = c.args.head.now.version; generation = c.args.head.now.generation; low = c.args.head.now.low; stripes = c.in_ok-stripes.stripes; sections = c.in_ok-sections.sections } in
    let first = c.in_ok-sections.ensures.looks.was_honest honest in
    let place = c.in_ok-stripes.ensures.place in
    let body = subst (λ v. IsBodyOf (layout_of v) c.in_ok-stripes.stripes.count reads (body_in (seen_in g.D.Disk.states c.args.disk.now c.args.file))) place.1.version_is
    (of_file g.D.Disk.states g.D.Disk.failures g.D.Disk.honest c.args.disk.now c.sized_body.new.disk c.args.file c.args.head.now c.in_ok-stripes.body (IsBodyOf (layout_of c.in_ok-stripes.body.version) c.in_ok-stripes.stripes.count reads)
    c.in_ok-stripes.ensures.looks is.fields place.1 (c.in_ok-stripes.ensures.inside first) (c.in_ok-sections.ensures.ok honest)) in
    let greatest : c.greatest_mark-greatest.result ≡ greatest_mark (sections_of reads) = c.greatest_mark-greatest.ensures ∙ ap (λ (l : List LoadedSection). greatest_mark (sections_of l)) c.deref.ensures.value in
    let marks = subst (λ (l : List LoadedSection). AreMarkedFrom c.args.head.now.low (sections_of l)) c.deref-2.ensures.value (c.are_marked_from-is_marked.ensures.0 c.if-not-is_marked.false) in
    let low = c.requires in
    is_checkpoint c.args.file (seen_in g.D.Disk.states c.args.disk.now c.args.file) c.args.head.now is (c.in_ok-stripes.ensures.ok first is.fields) loaded refl refl place.0 body
    (all_bytes (g.D.Disk.states c.args.disk.now) c.args.file (omega (arith, low)) (g.met.D.Disk.are_coherent c.args.disk.now))
    (sym greatest ∙ c.if-greatest-head.false) marks

pub returns-in_err-sections-clause-listed : goal.returns-in_err-sections-clause-listed
returns-in_err-sections-clause-listed g c =
    let q = err_from_is_err_and c.from_residual-in_err-sections.result c.from_residual-in_err-sections.ensures.1 in
    let file = c.in_ok-stripes.ensures.place.1.file_is in
    rw (q.1, q.2) (subst (λ (n : ℕ). IsFileRefused n c.in_err-sections.field-0.0) file (place_refused c.in_ok-stripes.body.file _ c.in_err-sections.field-0.0 c.in_err-sections.ensures.err))

pub returns-then-greatest-head-clause-listed : goal.returns-then-greatest-head-clause-listed
returns-then-greatest-head-clause-listed g c = inr (inr (inr (18, refl)))
