use Rattle.std.proofs.Common.{◌∷◌, ap, ◌∙◌}
use Rattle.recovery.specs.Counting.{entries_in}
use Rattle.recovery.proofs.DividingLemmas.{split_more}
use Rattle.recovery.proofs.GroupingLemmas.{distinct_last, groups_more}
use Rattle.recovery.proofs.grouping.Groups.divided_anew.Goals as goal

pub loop-section-preserved : goal.loop-section-preserved
loop-section-preserved c =
    let inv = c.loop-section.invariant in
    let section = c.in-Some.section in
    let split = split_more c.args.sections.items _ _ inv.done section inv.split c.in-Some.ensures.items in
    record {
      stripes = c.in_ok-add_all.ensures.stripes ∙ inv.stripes;
      done = section ∷ inv.done;
      split = split;
      grouped = groups_more c.args.stripes.count c.loop-section.groups.stripes.count (ap (λ s. s.count) inv.stripes) _ _ section.entries.items (entries_in inv.done)
          c.in_ok-add_all.ensures.ok (distinct_last c.args.sections.items _ (section ∷ inv.done) split c.requires) inv.grouped;
    }
