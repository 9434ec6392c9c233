use Rattle.std.proofs.Common.{rules, ◌≡◌, ℕ, List, [], ◌∷◌, ◌++◌, map, ap, sym, subst, ◌∙◌, append_assoc, arith}
use Rattle.std.proofs.lemmas.Grind.{common_steps}
use Rattle.std.specs.Global.{Vec}
use Rattle.std.specs.List.{AllByRecursion}
use Rattle.std.specs.Vec.Iter.{into_iter_items}
use Rattle.map_types.specs.declared.texts.Value.{Value}
use Rattle.bin_table.specs.Chains.{Entries, HasDistinctKeys}
use Rattle.recovery.specs.declared.lanes.Lane.{Lane}
use Rattle.recovery.specs.Dividing.{AreGroups}
use Rattle.recovery.specs.Lanes.{IsLaidFor, promised}
use Rattle.recovery.proofs.DividingLemmas.{all_push}
use Rattle.recovery.proofs.GroupingLemmas.{all_distinct, distinct_in, made_of, many_made, maps_push}
use Rattle.recovery.proofs.divided.Divided.with_entries.Goals as goal

abbrev entries_of : Vec (List ℕ × Value) → Entries
entries_of list = list.items

pub new-requires : goal.new-requires
new-requires c =
    let inv = c.loop-list.invariant in
    let left = into_iter_items c.next.new.self in
    let front : into_iter_items c.loop-list.list-iterator ≡ c.in-Some.list ∷ left = search rules in
    let whole : c.loop-list.yielded ++ c.in-Some.list ∷ left ≡ c.args.groups.lists.items = ap (λ r. c.loop-list.yielded ++ r) (sym front) ∙ inv.rest in
    distinct_in entries_of c.loop-list.yielded left c.in-Some.list
    (subst (λ lists. AllByRecursion HasDistinctKeys (map entries_of lists)) (sym whole) (all_distinct c.args.groups.stripes.count c.requires.0 _ c.requires.1))

pub loop-list-preserved : goal.loop-list-preserved
loop-list-preserved c =
    let inv = c.loop-list.invariant in
    let left = into_iter_items c.next.new.self in
    let front : into_iter_items c.loop-list.list-iterator ≡ c.in-Some.list ∷ left = search rules in
    let whole : c.loop-list.yielded ++ c.in-Some.list ∷ left ≡ c.args.groups.lists.items = ap (λ r. c.loop-list.yielded ++ r) (sym front) ∙ inv.rest in
    let lane : Lane = c.new.result in
    record {
      can = tt;
      ends = tt;
      rest = append_assoc c.loop-list.yielded (c.in-Some.list ∷ []) left ∙ whole;
      maps = ap (map promised) c.in_ok-push.ensures.items ∙ maps_push promised entries_of c.loop-list.lanes.items lane c.loop-list.yielded c.in-Some.list inv.maps c.new.ensures.map;
      laid = subst (λ lanes. AllByRecursion (IsLaidFor c.args.groups.stripes.count) lanes) (sym c.in_ok-push.ensures.items)
          (all_push _ c.loop-list.lanes.items lane inv.laid (record { stripes_are = ap (λ s. s.count) c.new.ensures.stripes; laid = c.new.ensures.laid }));
    }

pub returns-clause-ok : goal.returns-clause-ok
returns-clause-ok c = λ m are.
    let inv = c.loop-list.invariant in
    let all : c.loop-list.yielded ≡ c.args.groups.lists.items = grind (arith, common_steps) in
    let here = subst (λ lists. AreGroups c.args.groups.stripes.count m (map entries_of lists)) (sym all) are in
    record { maps = made_of promised entries_of c.args.groups.stripes.count m c.loop-list.lanes.items c.loop-list.yielded inv.maps here; laid = inv.laid }

pub invariant_of-result : goal.invariant_of-result
invariant_of-result c =
    let inv = c.loop-list.invariant in
    let n = c.args.groups.stripes.count in
    let m = c.requires.0 in
    let all : c.loop-list.yielded ≡ c.args.groups.lists.items = grind (arith, common_steps) in
    let here = subst (λ lists. AreGroups n m (map entries_of lists)) (sym all) c.requires.1 in
    record { one_each = many_made promised n m c.loop-list.lanes.items (made_of promised entries_of n m c.loop-list.lanes.items c.loop-list.yielded inv.maps here) }
