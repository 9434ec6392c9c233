use Rattle.std.proofs.Common.{rules, ◌≡◌, [], ◌∷◌, ◌++◌, ap, sym, subst, ◌∙◌, append_assoc, arith}
use Rattle.std.proofs.lemmas.Grind.{common_steps}
use Rattle.std.specs.Vec.Iter.{into_iter_items}
use Rattle.recovery.specs.Lanes.{AreTaken}
use Rattle.recovery.proofs.LaneLemmas.{one_taken}
use Rattle.recovery.proofs.lanes.parts_of.Goals as goal

pub loop-lane-preserved : goal.loop-lane-preserved
loop-lane-preserved c =
    let inv = c.loop-lane.invariant in
    let lane = c.in-Some.lane in
    let left = into_iter_items c.next.new.self in
    let front : into_iter_items c.loop-lane.lane-iterator ≡ lane ∷ left = search rules in
    let whole : c.loop-lane.yielded ++ lane ∷ left ≡ c.args.lanes.items = ap (λ r. c.loop-lane.yielded ++ r) (sym front) ∙ inv.rest in
    record {
      can = tt;
      ends = tt;
      rest = append_assoc c.loop-lane.yielded (lane ∷ []) left ∙ whole;
      taken = subst (λ l. AreTaken (c.loop-lane.yielded ++ lane ∷ []) l) (sym c.in_ok-push.ensures.items)
          (one_taken c.loop-lane.yielded c.loop-lane.parts.items lane _ inv.taken c.in_ok-part_of.ensures.map c.in_ok-part_of.ensures.laid);
    }

pub returns-clause-ok : goal.returns-clause-ok
returns-clause-ok c =
    let inv = c.loop-lane.invariant in
    let all : c.loop-lane.yielded ≡ c.args.lanes.items = grind (arith, common_steps) in
    subst (λ l. AreTaken l c.loop-lane.parts.items) all inv.taken
