-- The least key with a value is the first one in byte order.
use Rattle.std.proofs.Common.{◌≡◌, ℕ, Bool, true, false, cond, Option, None, Some, List, [], ◌∷◌, fold, refl, sym, ap, ◌∙◌, Ordering, Less, Equal, Greater}
use Rattle.std.specs.Prelude.{T}
use Rattle.std.specs.Option.{option_map}
use Rattle.std.specs.List as lists
use Rattle.std.specs.Ordering.{nat_cmp, is_lt, is_eq, ordering_reverse, min_by_ordering}
use Rattle.std.specs.Cmp.Lexicographic.{slice_cmp, nat_list_cmp_total}
use Rattle.std.specs.FinMap as finite
use Rattle.std.specs.FinMap.Entries.{below_all}
use Rattle.rayon.proofs.Order.{pick_min-associative}
use Rattle.map_types.specs.declared.texts.Value.{Value}
use Rattle.map_types.specs.ValueEq.{value_eq}
use Rattle.map_model.specs.Maps.{Map}
use Rattle.map_model.proofs.EntryLaws.{first_holds, second_holds}
use Rattle.map_model.proofs.MapLaws.{same_from_ties}
use Rattle.bin_table.specs.Chains.{Entries, HasDistinctKeys}
use Rattle.bulk_tasks.specs.Nearest.{lesser, nearer, candidate, approached, nearest_of}
use Rattle.bulk_tasks.specs.Bulk.{key_of_value}
use Rattle.bulk_tasks.proofs.AnyOrder.{in_any_order}

lesser_assoc : (a b c : List ℕ) → lesser (lesser a b) c ≡ lesser a (lesser b c)
lesser_assoc a b c = pick_min-associative (slice_cmp nat_cmp) nat_list_cmp_total a b c

by_cmp : (a b : List ℕ) (o : Ordering) → slice_cmp nat_cmp a b ≡ o → min_by_ordering o a b ≡ min_by_ordering (ordering_reverse o) b a
by_cmp a b Less is = refl
by_cmp a b Equal is = same_from_ties a b (ap is_eq is)
by_cmp a b Greater is = refl

lesser_comm : (a b : List ℕ) → lesser a b ≡ lesser b a
lesser_comm a b = by_cmp a b (slice_cmp nat_cmp a b) refl ∙ ap (λ o. min_by_ordering o b a) (sym (nat_list_cmp_total.antisymm b a))

pub nearer_assoc : (a b c : Option (List ℕ)) → nearer (nearer a b) c ≡ nearer a (nearer b c)
nearer_assoc None b c = refl
nearer_assoc (Some a) None c = refl
nearer_assoc (Some a) (Some b) None = refl
nearer_assoc (Some a) (Some b) (Some c) = ap Some (lesser_assoc a b c)

pub nearer_comm : (a b : Option (List ℕ)) → nearer a b ≡ nearer b a
nearer_comm None None = refl
nearer_comm None (Some b) = refl
nearer_comm (Some a) None = refl
nearer_comm (Some a) (Some b) = ap Some (lesser_comm a b)

pub nearer_unit : (a : Option (List ℕ)) → nearer a None ≡ a
nearer_unit None = refl
nearer_unit (Some a) = refl

approached_swaps : (sought : Value) (a : Option (List ℕ)) (d e : List ℕ × Value) → approached sought (approached sought a d) e ≡ approached sought (approached sought a e) d
approached_swaps sought a d e =
    nearer_assoc a (candidate sought d) (candidate sought e) ∙ ap (nearer a) (nearer_comm (candidate sought d) (candidate sought e)) ∙ sym (nearer_assoc a (candidate sought e) (candidate sought d))

below_keeps : (k q : List ℕ) (o : Ordering) → slice_cmp nat_cmp k q ≡ o → T (is_lt o) → lesser k q ≡ k
below_keeps k q Less is below = ap (λ o. min_by_ordering o k q) is
below_keeps k q Equal is below = absurd below
below_keeps k q Greater is below = absurd below

one_above : (k q : List ℕ) (b : Bool) → T (is_lt (slice_cmp nat_cmp k q)) → nearer (Some k) (cond b (Some q) None) ≡ Some k
one_above k q true below = ap Some (below_keeps k q (slice_cmp nat_cmp k q) refl below)
one_above k q false below = refl

-- no key above takes the place of one that was found
all_above : (sought : Value) (k : List ℕ) (es : Entries) → T (below_all (slice_cmp nat_cmp) k es) → fold (approached sought) (Some k) es ≡ Some k
all_above sought k [] below = refl
all_above sought k (e ∷ es) below =
    ap (λ a. fold (approached sought) a es) (one_above k e.0 (value_eq e.1 sought) (first_holds _ _ below)) ∙ all_above sought k es (second_holds _ _ below)

at_head : (sought : Value) (e : List ℕ × Value) (es : Entries) (b : Bool) → T (below_all (slice_cmp nat_cmp) e.0 es)
    → fold (approached sought) None es ≡ option_map (λ (e : List ℕ × Value). e.0) (lists.find (λ (e : List ℕ × Value). value_eq e.1 sought) es)
    → fold (approached sought) (cond b (Some e.0) None) es ≡ option_map (λ (e : List ℕ × Value). e.0) (cond b (Some e) (lists.find (λ (e : List ℕ × Value). value_eq e.1 sought) es))
at_head sought e es true below rest = all_above sought e.0 es below
at_head sought e es false below rest = rest

first_is_least : (sought : Value) (es : Entries) → T (finite.is_sorted (slice_cmp nat_cmp) es) → nearest_of sought es ≡ option_map (λ (e : List ℕ × Value). e.0) (lists.find (λ (e : List ℕ × Value). value_eq e.1 sought) es)
first_is_least sought [] sorted = refl
first_is_least sought (e ∷ es) sorted = at_head sought e es (value_eq e.1 sought) (first_holds _ _ sorted) (first_is_least sought es (second_holds _ _ sorted))

-- the least key among the entries, in whatever order they stand, is the first one in byte order
pub finds : (sought : Value) (es : Entries) → HasDistinctKeys es → nearest_of sought es ≡ key_of_value sought (finite.from_entries es)
finds sought es one =
    let m : Map = finite.from_entries es in
    sym (in_any_order (approached sought) (approached_swaps sought) es None one) ∙ first_is_least sought (finite.entries m) (finite.entries_sorted m)
