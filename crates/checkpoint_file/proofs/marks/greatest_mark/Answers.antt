use Rattle.std.proofs.Common.{List, arith}
use Rattle.checkpoint_file.specs.declared.loading.LoadedSection.{LoadedSection}
use Rattle.checkpoint_file.proofs.WholeFiles.{greatest_more}
use Rattle.checkpoint_file.proofs.marks.greatest_mark.Goals as goal

pub loop-section-preserved : goal.loop-section-preserved
loop-section-preserved c =
    let reads : List LoadedSection = c.args.sections.now in
    let more = greatest_more reads c.loop-section.section-index c.section-item.result (omega arith) c.section-item.is in
    let so_far = c.loop-section.invariant in
    let new = c.max-greatest.ensures in
    omega (arith, more, so_far, new)
