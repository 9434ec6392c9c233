-- The entries of all parts, sorted by their keys, are those of the whole map.
use Rattle.std.proofs.Common.{◌≡◌, ℕ, zero, suc, ◌+◌, ◌<◌, ◌≤◌, true, false, List, [], ◌∷◌, ◌++◌, length, map, refl, sym, ap, subst, ◌∙◌, arith}
use Rattle.std.specs.Prelude.{pos}
use lib.ListN.{get_or}
use Rattle.std.specs.Ordering.{nat_cmp, is_lt}
use Rattle.std.specs.Cmp.Lexicographic.{slice_cmp, nat_list_cmp_total}
use Rattle.std.specs.FinMap as finite
use Rattle.std.specs.List.{IsDistinct, AllByRecursion, flat_map, range_with_len}
use Rattle.std.specs.List.Sorted.{IsPermutation, IsSortedByKey, IsStrictlySortedBy}
use Rattle.std.specs.Map.{keys_of}
use Rattle.std.proofs.lemmas.Cmp.{eq_by_cmp_equiv}
use Rattle.std.proofs.lemmas.List.Sorted.{IsPermutation-map}
use Rattle.std.proofs.lemmas.Map.Keys.{IsDistinct-from_sorted, IsDistinct-IsPermutation, apart_from_distinct, sorted_from_all_adjacent}
use Rattle.java_hash.specs.Stripes.{stripe_of}
use Rattle.map_types.specs.declared.texts.Value.{Value}
use Rattle.map_types.specs.declared.texts.Value.TheVariants.{Int}
use Rattle.map_model.specs.Maps.{Map, Entries}
use Rattle.map_model.specs.Parts.{part_of, parts_of, union_of}
use Rattle.map_model.proofs.EntryLaws.{map_of, get-map_of, entries-map_of, lookup-permutation}
use Rattle.map_model.proofs.MapLaws.{ties, same_from_ties, same_gets}
use Rattle.map_model.proofs.KeyLaws.{less_from}
use Rattle.store_layout.proofs.EntryRows.{rising_from_sorted}
use Rattle.checkpoint_file.specs.States.{AreKeysOf}
use Rattle.checkpoint_walk.proofs.Keys.{keys_of_part}
use Rattle.sim_rules.specs.declared.outcome.MapEntry.{MapEntry}
use Rattle.sim_rules.specs.Cases.{entry_of}

-- ---- the keys of different parts differ

-- no key of the entries is q
abbrev Differ : List ℕ → Entries → Type 0
Differ q es = AllByRecursion (λ k. ties q k ≡ false) (keys_of es)

-- the stripes of the keys are from a on
abbrev AreFrom : ℕ → ℕ → Entries → Type 0
AreFrom n a es = AllByRecursion (λ (e : List ℕ × Value). a ≤ stripe_of n e.0) es

differ_by_stripe : (n : ℕ) (q k : List ℕ) → (stripe_of n q ≡ stripe_of n k → ⊥) → ties q k ≡ false
differ_by_stripe n q k apart = elim (ties q k) as (λ b. ties q k ≡ b → b ≡ false) [
  | true ↦ λ e. absurd (apart (ap (stripe_of n) (same_from_ties q k e)))
  | false ↦ λ e. refl
] refl

differ_from : (n a : ℕ) (q : List ℕ) (es : Entries) → stripe_of n q ≡ a → AreFrom n (a + 1) es → Differ q es
differ_from n a q [] own above = tt
differ_from n a q (e ∷ es) own above =
    let high : a + 1 ≤ stripe_of n e.0 = above.0 in
    (differ_by_stripe n q e.0 (λ same. omega (arith, own, high, same)), differ_from n a q es own above.1)

differ_append : (q : List ℕ) (es fs : Entries) → Differ q es → Differ q fs → Differ q (es ++ fs)
differ_append q [] fs here there = there
differ_append q (e ∷ es) fs here there = (here.0, differ_append q es fs here.1 there)

distinct_append : (n a : ℕ) (es fs : Entries) → AreKeysOf n a es → IsDistinct ties (keys_of es) → AreFrom n (a + 1) fs → IsDistinct ties (keys_of fs)
    → IsDistinct ties (keys_of (es ++ fs))
unfolding IsDistinct
distinct_append n a [] fs own one above other = other
distinct_append n a (e ∷ es) fs own one above other =
    (differ_append e.0 es fs one.0 (differ_from n a e.0 fs own.0 above), distinct_append n a es fs own.1 one.1 above other)

from_append : (n a : ℕ) (es fs : Entries) → AreKeysOf n a es → AreFrom n (a + 1) fs → AreFrom n a (es ++ fs)
from_append n a [] [] own above = tt
from_append n a [] (f ∷ fs) own above =
    let high : a + 1 ≤ stripe_of n f.0 = above.0 in
    (omega (arith, high), from_append n a [] fs own above.1)
from_append n a (e ∷ es) fs own above =
    let same : stripe_of n e.0 ≡ a = own.0 in
    (omega (arith, same), from_append n a es fs own.1 above)

-- the entries of the parts of the stripes from a up to a + k
entries_from : ℕ → ℕ → ℕ → Map → Entries
entries_from n a k m = flat_map finite.entries (map (λ s. part_of n s m) (range_with_len a k))

from_a : (n a k : ℕ) (m : Map) → AreFrom n a (entries_from n a k m)
unfolding entries_from
from_a n a zero m = tt
from_a n a (suc k) m = from_append n a (finite.entries (part_of n a m)) (entries_from n (a + 1) k m) (keys_of_part n a m) (from_a n (a + 1) k m)

distinct_from : (n a k : ℕ) (m : Map) → IsDistinct ties (keys_of (entries_from n a k m))
unfolding entries_from IsDistinct
distinct_from n a zero m = tt
distinct_from n a (suc k) m =
    let part = part_of n a m in
    distinct_append n a (finite.entries part) (entries_from n (a + 1) k m) (keys_of_part n a m)
    (IsDistinct-from_sorted (slice_cmp nat_cmp) (keys_of (finite.entries part)) (rising_from_sorted (finite.entries part) (finite.entries_sorted part)))
    (from_a n (a + 1) k m) (distinct_from n (a + 1) k m)

distinct_parts : (n : ℕ) (m : Map) → IsDistinct ties (keys_of (flat_map finite.entries (parts_of n m)))
unfolding entries_from
distinct_parts n m = distinct_from n 0 n m

-- ---- entries with distinct keys, sorted, are those of their map

no_entry : MapEntry
no_entry = record { key = []; value = Int (pos 0) }

-- keys that don't fall and differ rise
keys_rise : (es : List MapEntry) → IsSortedByKey (λ (e : MapEntry). e.key) (slice_cmp nat_cmp) es → IsDistinct ties (keys_of (map entry_of es))
    → IsStrictlySortedBy (slice_cmp nat_cmp) (keys_of (map entry_of es))
keys_rise es sorted one = sorted_from_all_adjacent nat_list_cmp_total (keys_of (map entry_of es)) [] (λ k within.
    let keys = keys_of (map entry_of es) in
    let count : length keys ≡ length es = length-keys es in
    let shorter : k + 1 < length es = omega (arith, count, within) in
    let here = get_or es k no_entry in
    let next = get_or es (k + 1) no_entry in
    let here_is : get_or keys k [] ≡ here.key = key_at es k (omega (arith, shorter)) in
    let next_is : get_or keys (k + 1) [] ≡ next.key = key_at es (k + 1) shorter in
    let apart : ties (get_or keys k []) (get_or keys (k + 1) []) ≡ false = apart_from_distinct ties keys k (k + 1) [] one (omega arith) within in
    let below : is_lt (slice_cmp nat_cmp (get_or keys (k + 1) []) (get_or keys k [])) ≡ false = rw (here_is, next_is) (sorted k no_entry (omega arith) shorter) in
    less_from (slice_cmp nat_cmp (get_or keys k []) (get_or keys (k + 1) [])) (slice_cmp nat_cmp (get_or keys (k + 1) []) (get_or keys k []))
    (nat_list_cmp_total.antisymm (get_or keys (k + 1) []) (get_or keys k [])) below apart)
  where
    length-keys : (xs : List MapEntry) → length (keys_of (map entry_of xs)) ≡ length xs
    length-keys [] = refl
    length-keys (x ∷ xs) = ap suc (length-keys xs)

    key_at : (xs : List MapEntry) (k : ℕ) → k < length xs → get_or (keys_of (map entry_of xs)) k [] ≡ (get_or xs k no_entry).key
    key_at [] k within = absurd (omega (arith, within))
    key_at (x ∷ xs) zero within = refl
    key_at (x ∷ xs) (suc k) within = key_at xs k (omega (arith, within))

-- sorted entries that are those of a map's parts, in any order, are the entries of the parts' union
pub sorted_is_union : (n : ℕ) (m : Map) (es fs : List MapEntry) → map entry_of es ≡ flat_map finite.entries (parts_of n m) → IsPermutation es fs
    → IsSortedByKey (λ (e : MapEntry). e.key) (slice_cmp nat_cmp) fs → map entry_of fs ≡ finite.entries (union_of (parts_of n m))
sorted_is_union n m es fs are moved sorted =
    let whole = flat_map finite.entries (parts_of n m) in
    let last = map entry_of fs in
    let before : IsDistinct ties (keys_of whole) = distinct_parts n m in
    let turned : IsPermutation whole last = subst (λ xs. IsPermutation xs last) are (IsPermutation-map entry_of es fs moved) in
    let after : IsDistinct ties (keys_of last) =
    IsDistinct-IsPermutation ties (λ x y. (eq_by_cmp_equiv nat_list_cmp_total).symm x y) (keys_of whole) (keys_of last) (IsPermutation-map (λ (e : List ℕ × Value). e.0) whole last turned) before in
    sym (entries-map_of last (keys_rise fs sorted after))
    ∙ ap finite.entries (same_gets (map_of last) (map_of whole) (λ q. get-map_of last q ∙ sym (lookup-permutation q whole last before after turned) ∙ sym (get-map_of whole q)))
