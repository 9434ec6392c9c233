use Rattle.std.proofs.Common.{[], ◌∷◌, ◌++◌, ap, ◌∙◌}
use Rattle.recovery.proofs.DividingLemmas.{split_more}
use Rattle.recovery.proofs.GroupingLemmas.{groups_more}
use Rattle.recovery.proofs.grouping.Groups.add_all.Goals as goal

pub loop-entry-preserved : goal.loop-entry-preserved
loop-entry-preserved c =
    let inv = c.loop-entry.invariant in
    let entry = c.in-Some.entry in
    record {
      stripes = c.in_ok-add.ensures.stripes ∙ inv.stripes;
      done = entry ∷ inv.done;
      split = split_more c.args.entries.items _ _ inv.done entry inv.split c.in-Some.ensures.items;
      grouped = λ behind one are. groups_more c.args.self.now.stripes.count c.loop-entry.self.stripes.count (ap (λ s. s.count) inv.stripes) _ _ (entry ∷ []) (inv.done ++ behind)
          c.in_ok-add.ensures.ok one (inv.grouped behind one.1 are);
    }
