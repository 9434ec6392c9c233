use Rattle.std.proofs.Common.{rules, ◌≡◌, [], ◌∷◌, ◌++◌, sym, ap, subst, ◌∙◌, append_assoc, arith}
use Rattle.std.proofs.lemmas.Grind.{common_steps}
use Rattle.std.specs.Vec.Iter.{into_iter_items}
use Rattle.map_types.specs.declared.commands.Command.{Command}
use Rattle.map_model.specs.Maps.{Map}
use Rattle.map_model.specs.Steps.{map_after, step}
use Rattle.recovery.specs.declared.divided.Divided.{Divided}
use Rattle.recovery.specs.Counting.{counted_of}
use Rattle.recovery.specs.Lanes.{AreLanesOf}
use Rattle.recovery.specs.Restoring.{HasMap}
use Rattle.recovery.proofs.CountingLemmas.{passed_one, queued_one}
use Rattle.recovery.proofs.restoring.Restoring.queue.Goals as goal

pub loop-entry-preserved-then-not-counts : goal.loop-entry-preserved-then-not-counts
loop-entry-preserved-then-not-counts c =
    let inv = c.loop-entry.invariant in
    let entry = c.in-Some.entry in
    let left = into_iter_items c.next.new.self in
    let front : into_iter_items c.loop-entry.entry-iterator ≡ entry ∷ left = search rules in
    let whole : c.loop-entry.yielded ++ entry ∷ left ≡ c.args.entries.items = ap (λ r. c.loop-entry.yielded ++ r) (sym front) ∙ inv.rest in
    record {
      can = tt;
      ends = tt;
      rest = append_assoc c.loop-entry.yielded (entry ∷ []) left ∙ whole;
      same = inv.same;
      applied = λ m has. passed_one c.args.self.now c.loop-entry.self c.loop-entry.yielded entry inv.same inv.applied c.counts.result c.counts.ensures c.if-not-counts.true m has;
    }

pub loop-entry-preserved : goal.loop-entry-preserved
loop-entry-preserved c =
    let inv = c.loop-entry.invariant in
    let entry = c.in-Some.entry in
    let divided : Divided = c.loop-entry.self.divided in
    let queued : Divided = c.queue.new.self in
    let left = into_iter_items c.next.new.self in
    let front : into_iter_items c.loop-entry.entry-iterator ≡ entry ∷ left = search rules in
    let whole : c.loop-entry.yielded ++ entry ∷ left ≡ c.args.entries.items = ap (λ r. c.loop-entry.yielded ++ r) (sym front) ∙ inv.rest in
    let ok : (m : Map) → AreLanesOf divided.stripes.count m divided.lanes.items → AreLanesOf divided.stripes.count (step m entry.command).map queued.lanes.items =
    subst (λ (command : Command). (m : Map) → AreLanesOf divided.stripes.count m divided.lanes.items → AreLanesOf divided.stripes.count (step m command).map queued.lanes.items)
    c.command_of.ensures c.in_ok-queue.ensures.ok in
    record {
      can = tt;
      ends = tt;
      rest = append_assoc c.loop-entry.yielded (entry ∷ []) left ∙ whole;
      same = record { stripes = c.in_ok-queue.ensures.stripes ∙ inv.same.stripes; of = inv.same.of; marks = inv.same.marks };
      applied = λ m has. queued_one c.args.self.now c.loop-entry.self c.loop-entry.yielded entry inv.same inv.applied c.counts.result c.counts.ensures c.if-not-counts.false
          queued c.in_ok-queue.ensures.stripes ok m has;
    }

pub returns-clause-ok : goal.returns-clause-ok
returns-clause-ok c = λ m has.
    let inv = c.loop-entry.invariant in
    let all : c.loop-entry.yielded ≡ c.args.entries.items = grind (arith, common_steps) in
    subst (λ l. HasMap c.loop-entry.self (map_after m (counted_of c.args.self.now.of.count c.args.self.now.marks.items l))) all (inv.applied m has)
