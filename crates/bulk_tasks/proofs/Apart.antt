-- No key stands in the parts of two stripes.
use Rattle.std.proofs.Common.{◌≡◌, ℕ, ◌+◌, ◌<◌, Bool, true, false, cond, None, Some, List, [], ◌∷◌, ◌++◌, refl, sym, ap, subst, ◌∙◌, arith}
use Rattle.std.specs.List.{flat_map}
use Rattle.std.specs.Ordering.{nat_cmp, eq_by_cmp, is_eq}
use Rattle.std.specs.Cmp.{tied_itself}
use Rattle.std.specs.Cmp.Lexicographic.{slice_cmp, nat_list_cmp_total}
use Rattle.std.specs.FinMap as finite
use Rattle.std.proofs.lemmas.Bool.{ne_eqb, eqb-true}
use Rattle.java_hash.specs.Stripes.{stripe_of}
use Rattle.map_types.specs.declared.texts.Value.{Value}
use Rattle.map_model.specs.Maps.{Map}
use Rattle.map_model.specs.Parts.{part_of, is_in_stripe}
use Rattle.map_model.proofs.MapLaws.{get-part_of}
use Rattle.bin_table.specs.Chains.{Entries, find_in, HasDistinctKeys}
use Rattle.bin_table.proofs.SortLaws.{distinct_sorted, head_differs, none_behind}
use Rattle.view_walk.specs.declared.walk.Captured.{Captured}
use Rattle.bulk_tasks.specs.Parts.{entries_of, AreParts, parts_from}

-- a key of another stripe isn't found
none_of_others : (n i : ℕ) (m : Map) (q : List ℕ) → is_in_stripe n i q ≡ false → find_in q (finite.entries (part_of n i m)) ≡ None
none_of_others n i m q other = sym (finite.get-entries (part_of n i m) q) ∙ get-part_of n i m q ∙ ap (λ b. cond b (finite.get m q) None) other

found_itself : (e : List ℕ × Value) (es : Entries) → find_in e.0 (e ∷ es) ≡ Some e.1
found_itself e es = ap (λ o. cond (is_eq o) (Some e.1) (find_in e.0 es)) (tied_itself nat_list_cmp_total e.0)

abbrev Outside : ℕ → ℕ → Entries → Type 0
Outside n i es = (q : List ℕ) → is_in_stripe n i q ≡ false → find_in q es ≡ None

outside_behind : (n i : ℕ) (e : List ℕ × Value) (es : Entries) → Outside n i (e ∷ es) → Outside n i es
outside_behind n i e es out q other = none_behind (eq_by_cmp (slice_cmp nat_cmp) q e.0) e.1 (find_in q es) (out q other)

is_within : (n i : ℕ) (e : List ℕ × Value) (es : Entries) (b : Bool) → is_in_stripe n i e.0 ≡ b → Outside n i (e ∷ es) → is_in_stripe n i e.0 ≡ true
is_within n i e es true is out = is
is_within n i e es false is out = let no : Some e.1 ≡ None = sym (found_itself e es) ∙ out e.0 is in cc

none_both : (q : List ℕ) (es fs : Entries) → find_in q es ≡ None → find_in q fs ≡ None → find_in q (es ++ fs) ≡ None
none_both q [] fs none rest = rest
none_both q (e ∷ es) fs none rest =
    ap (λ b. cond b (Some e.1) (find_in q (es ++ fs))) (head_differs (eq_by_cmp (slice_cmp nat_cmp) q e.0) e.1 (find_in q es) none)
    ∙ none_both q es fs (none_behind (eq_by_cmp (slice_cmp nat_cmp) q e.0) e.1 (find_in q es) none) rest

-- a key of stripe i isn't found in later stripes
none_later : (n i j : ℕ) (ms : List Map) (q : List ℕ) → i < j → is_in_stripe n i q ≡ true → find_in q (flat_map finite.entries (parts_from n j ms)) ≡ None
none_later n i j [] q later own = refl
none_later n i j (m ∷ ms) q later own =
    let at : stripe_of n q ≡ i = eqb-true _ _ own in
    let other : is_in_stripe n j q ≡ false = ne_eqb (stripe_of n q) j (λ e. omega arith) in
    none_both q (finite.entries (part_of n j m)) (flat_map finite.entries (parts_from n (j + 1) ms)) (none_of_others n j m q other) (none_later n i (j + 1) ms q (omega arith) own)

distinct_both : (n i : ℕ) (es fs : Entries) → Outside n i es → ((q : List ℕ) → is_in_stripe n i q ≡ true → find_in q fs ≡ None) → HasDistinctKeys es → HasDistinctKeys fs → HasDistinctKeys (es ++ fs)
distinct_both n i [] fs out apart one two = two
distinct_both n i (e ∷ es) fs out apart one two = (
  none_both e.0 es fs one.0 (apart e.0 (is_within n i e es (is_in_stripe n i e.0) refl out)),
  distinct_both n i es fs (outside_behind n i e es out) apart one.1 two,
)

-- the entries of all parts have distinct keys
pub distinct_parts : (n i : ℕ) (ms : List Map) → HasDistinctKeys (flat_map finite.entries (parts_from n i ms))
distinct_parts n i [] = tt
distinct_parts n i (m ∷ ms) =
    let es : Entries = finite.entries (part_of n i m) in
    let one : HasDistinctKeys es = distinct_sorted es (finite.entries_sorted (part_of n i m)) in
    distinct_both n i es (flat_map finite.entries (parts_from n (i + 1) ms)) (λ q other. none_of_others n i m q other) (λ q at. none_later n i (i + 1) ms q (omega arith) at) one (distinct_parts n (i + 1) ms)

-- the entries of all stripes make the union of the parts
pub united : (n i : ℕ) (zs : List Captured) (ms : List Map) → AreParts n i zs ms → entries_of zs ≡ flat_map finite.entries (parts_from n i ms)
united n i [] [] parts = refl
united n i [] (m ∷ ms) parts = absurd parts
united n i (z ∷ zs) [] parts = absurd parts
united n i (z ∷ zs) (m ∷ ms) parts = ap (λ l. l ++ entries_of zs) parts.0 ∙ ap (λ l. finite.entries (part_of n i m) ++ l) (united n (i + 1) zs ms parts.1)

-- and have distinct keys
pub distinct : (n i : ℕ) (zs : List Captured) (ms : List Map) → AreParts n i zs ms → HasDistinctKeys (entries_of zs)
distinct n i zs ms parts = subst HasDistinctKeys (sym (united n i zs ms parts)) (distinct_parts n i ms)
