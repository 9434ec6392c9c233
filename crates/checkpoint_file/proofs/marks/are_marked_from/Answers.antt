use Rattle.std.proofs.Common.{◌≡◌, List, true, false, ap, arith}
use Rattle.checkpoint_file.specs.declared.loading.LoadedSection.{LoadedSection}
use Rattle.checkpoint_file.proofs.WholeFiles.{mark_at}
use Rattle.checkpoint_file.proofs.marks.are_marked_from.Goals as goal

pub returns-then-section-low : goal.returns-then-section-low
returns-then-section-low c =
    let reads : List LoadedSection = c.args.sections.now in
    let read : LoadedSection = c.section-item.result in
    let same = ap (λ (r : LoadedSection). r.mark) c.section-item.is in
    let low = c.if-section-low.true in (
      λ no. absurd (let never : false ≡ true = no in cc),
      λ all. absurd (let high = mark_at c.args.low reads c.loop-section.section-index read (omega arith) all in omega (arith, same, low, high)),
    )
