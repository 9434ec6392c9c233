-- A fold whose steps may change places gives the same over entries in any order, and so over the stripes one after another as over all keys in byte order.
use Rattle.std.proofs.Common.{◌≡◌, ℕ, ◌+◌, true, false, cond, is_some, None, List, [], ◌∷◌, length, fold, refl, sym, ap, ◌∙◌, Ordering, Less, Equal, Greater, arith}
use Rattle.std.specs.Ordering.{nat_cmp, eq_by_cmp, is_eq}
use Rattle.std.specs.Cmp.Lexicographic.{slice_cmp, nat_list_cmp_total}
use Rattle.std.specs.FinMap as finite
use Rattle.std.specs.FinMap.Entries.{by_order}
use Rattle.map_types.specs.declared.texts.Value.{Value}
use Rattle.bin_table.specs.Chains.{Entries, find_in, HasDistinctKeys, map_of}
use Rattle.bin_table.proofs.SortLaws.{head_differs, none_behind}

no_length : {A : Type 0} (es : List A) → length es ≡ 0 → es ≡ []
no_length [] e = refl
no_length (x ∷ es) e = absurd (omega arith)

entries-empty : finite.entries (finite.empty {X = Value} {R = slice_cmp nat_cmp}) ≡ []
entries-empty = no_length _ (sym (finite.len-entries (finite.empty {X = Value} {R = slice_cmp nat_cmp})) ∙ finite.len-empty (slice_cmp nat_cmp) Value)

none_in : (es : Entries) (q : List ℕ) → find_in q es ≡ None → find_in q (finite.entries (map_of es)) ≡ None
none_in es q none = sym (finite.get-entries (map_of es) q) ∙ finite.get-from_entries nat_list_cmp_total es q ∙ none

-- how many entries the map has
pub len-map_of : (es : Entries) → HasDistinctKeys es → finite.len (map_of es) ≡ length es
len-map_of [] one = finite.len-empty (slice_cmp nat_cmp) Value
len-map_of (e ∷ es) one =
    let m = map_of es in
    let longer : finite.len (finite.insert m e.0 e.1) ≡ finite.len m + 1 = finite.len-insert nat_list_cmp_total m e.0 e.1 ∙ ap (λ o. cond (is_some o) (finite.len m) (finite.len m + 1)) (finite.get-from_entries nat_list_cmp_total es e.0 ∙ one.0) in
    let rest : finite.len m ≡ length es = len-map_of es one.1 in
    omega arith

module _ {B : Type 0} (step : B → List ℕ × Value → B) (swaps : (b : B) (d e : List ℕ × Value) → step (step b d) e ≡ step (step b e) d) where
  put_at : (k : List ℕ) (v : Value) (e : List ℕ × Value) (es : Entries) (b : B) (o : Ordering) → slice_cmp nat_cmp k e.0 ≡ o → is_eq (slice_cmp nat_cmp k e.0) ≡ false
      → fold step (step b e) (finite.put (slice_cmp nat_cmp) k v es) ≡ fold step (step (step b e) (k, v)) es
      → fold step b (by_order o ((k, v) ∷ e ∷ es) ((e.0, v) ∷ es) (e ∷ finite.put (slice_cmp nat_cmp) k v es)) ≡ fold step (step (step b (k, v)) e) es
  put_at k v e es b Less is apart rest = refl
  put_at k v e es b Equal is apart rest = let no : true ≡ false = ap is_eq (sym is) ∙ apart in cc
  put_at k v e es b Greater is apart rest = rest ∙ ap (λ a. fold step a es) (swaps b e (k, v))

  -- where the new entry is put among the others doesn't matter
  fold-put : (k : List ℕ) (v : Value) (es : Entries) (b : B) → find_in k es ≡ None → fold step b (finite.put (slice_cmp nat_cmp) k v es) ≡ fold step (step b (k, v)) es
  fold-put k v [] b none = refl
  fold-put k v (e ∷ es) b none =
      put_at k v e es b (slice_cmp nat_cmp k e.0) refl (head_differs (eq_by_cmp (slice_cmp nat_cmp) k e.0) e.1 (find_in k es) none)
      (fold-put k v es (step b e) (none_behind (eq_by_cmp (slice_cmp nat_cmp) k e.0) e.1 (find_in k es) none))

  -- in byte order of the keys, or as they come
  pub in_any_order : (es : Entries) (b : B) → HasDistinctKeys es → fold step b (finite.entries (map_of es)) ≡ fold step b es
  in_any_order [] b one = ap (fold step b) entries-empty
  in_any_order (e ∷ es) b one =
      ap (fold step b) (finite.entries-insert nat_list_cmp_total (map_of es) e.0 e.1)
      ∙ fold-put e.0 e.1 (finite.entries (map_of es)) b (none_in es e.0 one.0)
      ∙ in_any_order es (step b e) one.1
