-- The map of an ordered list of entries, as std's ordered map keeps them.
use Rattle.std.proofs.Common.{◌≡◌, ℕ, Bool, true, false, ◌&&◌, cond, Option, None, Some, List, [], ◌∷◌, refl, sym, ap, ◌∙◌, Less}
use Rattle.std.specs.Prelude.{T}
use Rattle.std.specs.Ordering.{nat_cmp, eq_by_cmp}
use Rattle.std.specs.Cmp.Lexicographic.{slice_cmp, nat_list_cmp_total}
use Rattle.std.specs.FinMap as finite
use Rattle.std.specs.FinMap.Entries.{below_all}
use Rattle.std.specs.List.{AllByRecursion, Contains, IsDistinct}
use Rattle.std.specs.List.Sorted.{IsPermutation, IsStrictlySortedBy}
use Rattle.std.specs.BTreeMap as tree
use Rattle.std.specs.Map.{lookup, keys_of}
use Rattle.std.proofs.lemmas.Cmp.{eq_by_cmp_equiv}
use Rattle.std.proofs.lemmas.List.Sorted.{Contains-permutation, IsPermutation-sym}
use Rattle.std.proofs.lemmas.Map.Views.{Contains-from_lookup, lookup-from_Contains}
use Rattle.map_types.specs.declared.texts.Value.{Value}
use Rattle.map_model.specs.Maps.{Map, assign}
use Rattle.map_model.proofs.MapLaws.{ties, same_from_ties, same_gets, get-assign}

-- the map of the entries
abbrev pub map_of : List (List ℕ × Value) → Map
map_of es = finite.from_entries es

find-lookup : (es : List (List ℕ × Value)) (q : List ℕ) → finite.find (slice_cmp nat_cmp) q es ≡ lookup (tree.is_at (slice_cmp nat_cmp q)) es
find-lookup [] q = refl
find-lookup (e ∷ es) q = ap (cond (tree.is_at (slice_cmp nat_cmp q) e.0) (Some e.1)) (find-lookup es q)

pub get-map_of : (es : List (List ℕ × Value)) (q : List ℕ) → finite.get (map_of es) q ≡ lookup (tree.is_at (slice_cmp nat_cmp q)) es
get-map_of es q = finite.get-from_entries nat_list_cmp_total es q ∙ find-lookup es q

-- entries that differ at key k alone, where they have o, are the map with o at k
pub map_of-updated : (es fs : List (List ℕ × Value)) (k : List ℕ) (o : Option Value) → ((q : List ℕ) → lookup (tree.is_at (slice_cmp nat_cmp q)) fs ≡ cond (tree.is_at (slice_cmp nat_cmp k) q) o (lookup (tree.is_at (slice_cmp nat_cmp q)) es)) → map_of fs ≡ assign (map_of es) k o
map_of-updated es fs k o is = same_gets _ _ (λ q.
    get-map_of fs q ∙ is q
    ∙ ap (λ b. cond b o (lookup (tree.is_at (slice_cmp nat_cmp q)) es)) ((eq_by_cmp_equiv nat_list_cmp_total).symm k q)
    ∙ sym (get-assign (map_of es) k o q ∙ ap (cond (eq_by_cmp (slice_cmp nat_cmp) q k) o) (get-map_of es q)))

-- of two tests that hold, each does
pub first_holds : (a b : Bool) → T (a && b) → T a
first_holds true b h = tt
first_holds false b h = h

pub second_holds : (a b : Bool) → T (a && b) → T b
second_holds true b h = h
second_holds false b h = absurd h

both : (a b : Bool) → T a → T b → T (a && b)
both true b p q = q
both false b p q = p

below_from_rising : (k : List ℕ) (es : List (List ℕ × Value)) → AllByRecursion (λ q. slice_cmp nat_cmp k q ≡ Less) (keys_of es) → T (below_all (slice_cmp nat_cmp) k es)
below_from_rising k [] rising = tt
below_from_rising k (e ∷ es) (here, rising) = both _ _ (rw here tt) (below_from_rising k es rising)

pub sorted_from_rising : (es : List (List ℕ × Value)) → IsStrictlySortedBy (slice_cmp nat_cmp) (keys_of es) → T (finite.is_sorted (slice_cmp nat_cmp) es)
unfolding IsStrictlySortedBy
sorted_from_rising [] rising = tt
sorted_from_rising (e ∷ es) (below, rising) = both _ _ (below_from_rising e.0 es below) (sorted_from_rising es rising)

-- entries whose keys rise are those of their map
pub entries-map_of : (es : List (List ℕ × Value)) → IsStrictlySortedBy (slice_cmp nat_cmp) (keys_of es) → finite.entries (map_of es) ≡ es
entries-map_of es rising =
    let sorted : T (finite.is_sorted (slice_cmp nat_cmp) es) = sorted_from_rising es rising in
    ap finite.entries (same_gets (map_of es) (finite.from_sorted es) (λ q. finite.get-from_entries nat_list_cmp_total es q ∙ sym (finite.get-from_sorted (slice_cmp nat_cmp) es q sorted)))
    ∙ finite.entries-from_sorted (slice_cmp nat_cmp) es sorted

abbrev found : List ℕ → List (List ℕ × Value) → Option Value
found q es = lookup (ties q) es

-- with distinct keys, a look-up finds what the list has
found_is : (q : List ℕ) (v : Value) (es : List (List ℕ × Value)) → IsDistinct ties (keys_of es) → Contains es (q, v) → found q es ≡ Some v
found_is q v es one has = lookup-from_Contains (eq_by_cmp_equiv nat_list_cmp_total) q v es one has

has_found : (q : List ℕ) (v : Value) (es : List (List ℕ × Value)) → found q es ≡ Some v → Contains es (q, v)
has_found q v es is = Contains-from_lookup same_from_ties q v es is

-- a look-up finds the same in any order of the entries
pub lookup-permutation : (q : List ℕ) (es fs : List (List ℕ × Value)) → IsDistinct ties (keys_of es) → IsDistinct ties (keys_of fs) → IsPermutation es fs → lookup (ties q) es ≡ lookup (ties q) fs
lookup-permutation q es fs one two moved =
    elim (found q es) as (λ o. found q es ≡ o → o ≡ found q fs) [
      | Some v ↦ λ is. sym (found_is q v fs two (Contains-permutation es fs (q, v) moved (has_found q v es is)))
      | None ↦ λ none. elim (found q fs) as (λ o. found q fs ≡ o → None ≡ o) [
        | Some v ↦ λ is. sym none ∙ found_is q v es one (Contains-permutation fs es (q, v) (IsPermutation-sym es fs moved) (has_found q v fs is))
        | None ↦ λ is. refl
      ] refl
    ] refl
