-- The entry that comes next, or none.
use Rattle.std.proofs.Common.{◌≡◌, ◌<◌, ℕ, zero, suc, ◌+◌, ◌-◌, min, true, Ordering, Less, Equal, Greater, List, [], ◌∷◌, ◌++◌, length, take, drop, get_or, Some, refl, sym, ap, ap₂, subst, ◌∙◌, append_assoc, arith}
use Rattle.std.proofs.lemmas.List.{length-append, take-append-drop}
use Rattle.std.proofs.Math.Seq.{take-append-add}
use Rattle.std.specs.List.{AllByRecursion}
use Rattle.std.specs.List.Sorted.{IsStrictlySortedBy}
use Rattle.std.specs.Map.{keys_of}
use Rattle.std.specs.Ordering.{nat_cmp, is_lt}
use Rattle.std.specs.Cmp.Lexicographic.{slice_cmp, nat_list_cmp_total}
use Rattle.java_hash.specs.Stripes.{stripe_of}
use Rattle.map_types.specs.declared.texts.Value.{Value}
use Rattle.log_records.specs.Layout.{Layout, IsLayout}
use Rattle.log_records.specs.Spelling.{IsText, IsValue, key_bytes, value_bytes}
use Rattle.log_records.specs.Reading.{both_at, key_at, some_value_at}
use Rattle.log_records.specs.Agreement.{Agrees}
use Rattle.log_records.proofs.Agreeing.{both_agree, same_meaning}
use Rattle.log_records.proofs.Fields.{key_agrees, some_value_agrees}
use Rattle.store_layout.specs.Checkpoints.{IsEntryOf, entry_bytes}
use Rattle.store_layout.specs.Faults.{AreEntries}
use Rattle.store_layout.proofs.Looking.{all_push, all_last}
use Rattle.checkpoint_file.specs.Front.{most_entry_bytes}
use Rattle.checkpoint_file.specs.Loads.{IsAbove, HasNoNext}
use Rattle.checkpoint_file.proofs.Bounds.{IsShort, entry_bound}

abbrev Entry : Type 0
Entry = List ℕ × Value

abbrev pub IsWellFormed : Layout → List ℕ × Value → Type 0
IsWellFormed layout entry = IsText layout.key_limit entry.0 × IsValue entry.1

pub entry_agrees : (layout : Layout) → IsLayout layout → Agrees (both_at (key_at layout) some_value_at) (entry_bytes layout) (IsWellFormed layout)
entry_agrees layout room =
    both_agree (key_at layout) some_value_at (key_bytes layout) (λ v. value_bytes (Some v)) (IsText layout.key_limit) IsValue (key_agrees layout room) some_value_agrees

-- ---- rising entries

keys_push : (es : List Entry) (e : Entry) → keys_of (es ++ e ∷ []) ≡ keys_of es ++ e.0 ∷ []
keys_push [] e = refl
keys_push (x ∷ es) e = ap (λ (l : List (List ℕ)). x.0 ∷ l) (keys_push es e)

less_from_test : (o : Ordering) → is_lt o ≡ true → o ≡ Less
less_from_test Less e = refl
less_from_test Equal e = absurd cc
less_from_test Greater e = absurd cc

abbrev IsLess : List ℕ → List ℕ → Type 0
IsLess a b = slice_cmp nat_cmp a b ≡ Less

-- each of them is below the last
below_last : (es : List Entry) (e : Entry) (i : ℕ) (d : Entry) → IsStrictlySortedBy (slice_cmp nat_cmp) (keys_of (es ++ e ∷ [])) → i < length es → is_lt (slice_cmp nat_cmp (get_or es i d).0 e.0) ≡ true
unfolding IsStrictlySortedBy
below_last [] e i d rising h = absurd (omega (arith, h))
below_last (x ∷ es) e zero d rising h = ap is_lt (all_last (IsLess x.0) (keys_of es) e.0 (subst (λ (l : List (List ℕ)). AllByRecursion (IsLess x.0) l) (keys_push es e) rising.0))
below_last (x ∷ es) e (suc i) d rising h = below_last es e i d rising.1 (omega (arith, h))

pub is_above : (es : List Entry) (e : Entry) → IsStrictlySortedBy (slice_cmp nat_cmp) (keys_of (es ++ e ∷ [])) → IsAbove es e.0
is_above es e rising d some = below_last es e (length es - 1) d rising (omega (arith, some))

rising_push : (es : List Entry) (e : Entry) → IsStrictlySortedBy (slice_cmp nat_cmp) (keys_of es)
    → ((i : ℕ) (d : Entry) → i + 1 ≡ length es → is_lt (slice_cmp nat_cmp (get_or es i d).0 e.0) ≡ true) → IsStrictlySortedBy (slice_cmp nat_cmp) (keys_of (es ++ e ∷ []))
unfolding IsStrictlySortedBy
rising_push [] e rising above = (tt, tt)
rising_push (x ∷ []) e rising above = ((less_from_test _ (above 0 x refl), tt), (tt, tt))
rising_push (x ∷ (y ∷ es)) e rising above =
    let more = rising_push (y ∷ es) e rising.1 (λ i d h. above (suc i) d (omega (arith, h))) in
    let last : IsLess y.0 e.0 = all_last (IsLess y.0) (keys_of es) e.0 (subst (λ (l : List (List ℕ)). AllByRecursion (IsLess y.0) l) (keys_push es e) more.0) in
    let far : IsLess x.0 e.0 = nat_list_cmp_total.trans x.0 y.0 e.0 rising.0.0 last in
    (subst (λ (l : List (List ℕ)). AllByRecursion (IsLess x.0) l) (sym (keys_push (y ∷ es) e)) (all_push (IsLess x.0) (keys_of (y ∷ es)) e.0 rising.0 far), more)

module _ (layout : Layout) (stripes stripe : ℕ) where
  pub entries_next : (es : List Entry) (e : Entry) → IsText layout.key_limit e.0 → IsValue e.1 → stripe_of stripes e.0 ≡ stripe → IsAbove es e.0 → AreEntries layout stripes stripe es
      → AreEntries layout stripes stripe (es ++ e ∷ [])
  entries_next es e text value own above are = record {
    each = all_push (IsEntryOf layout stripes stripe) es e are.each (text, value, own);
    rising = rising_push es e are.rising (λ i d h. subst (λ (n : ℕ). is_lt (slice_cmp nat_cmp (get_or es n d).0 e.0) ≡ true) (omega (arith, h)) (above d (omega (arith, h))));
  }

  pub last_fits : (es : List Entry) (e : Entry) → AreEntries layout stripes stripe (es ++ e ∷ []) → IsEntryOf layout stripes stripe e
  last_fits es e are = all_last (IsEntryOf layout stripes stripe) es e are.each

  -- ---- no entry

  -- none stands in the window
  pub none_in_window : IsShort layout → (before : List Entry) (window rest : List ℕ) → window ≡ take (length window) rest → length window ≡ min (length rest) most_entry_bytes
      → ((entry : Entry) (others : List ℕ) → IsText layout.key_limit entry.0 → IsValue entry.1 → window ≡ entry_bytes layout entry ++ others → ⊥) → HasNoNext layout stripes stripe before rest
  none_in_window short before window rest is size none entry others spelled are =
      let fits = last_fits before entry are in
      let bytes = entry_bytes layout entry in
      let bound = entry_bound layout short entry fits.0 fits.1 in
      let whole : length rest ≡ length bytes + length others = ap (λ (l : List ℕ). length l) spelled ∙ length-append bytes others in
      let n : ℕ = length window - length bytes in
      let parts : length window ≡ length bytes + n = omega (arith, size, whole, bound) in
      none entry (take n others) fits.0 fits.1
      (is ∙ ap₂ (λ (k : ℕ) (l : List ℕ). take k l) parts spelled ∙ take-append-add bytes others n)

  -- another one does, or one that may not follow
  pub none_follows : IsLayout layout → (before : List Entry) (found : Entry) (behind rest : List ℕ) → IsText layout.key_limit found.0 → IsValue found.1 → rest ≡ entry_bytes layout found ++ behind
      → ((stripe_of stripes found.0 ≡ stripe) × IsAbove before found.0 → ⊥) → HasNoNext layout stripes stripe before rest
  none_follows room before found behind rest text value spelled never entry others also are =
      let fits = last_fits before entry are in
      let same = same_spelled found entry behind others text value fits.0 fits.1 (sym spelled ∙ also) in
      let own : stripe_of stripes found.0 ≡ stripe = ap (λ (x : Entry). stripe_of stripes x.0) same ∙ fits.2 in
      never (own, subst (λ (x : Entry). IsAbove before x.0) (sym same) (is_above before entry are.rising))
    where
      same_spelled : (x y : Entry) (s t : List ℕ) → IsText layout.key_limit x.0 → IsValue x.1 → IsText layout.key_limit y.0 → IsValue y.1 → entry_bytes layout x ++ s ≡ entry_bytes layout y ++ t → x ≡ y
      same_spelled x y s t text_x value_x text_y value_y e = same_meaning (both_at (key_at layout) some_value_at) (entry_bytes layout) (IsWellFormed layout) (entry_agrees layout room) x y s t (text_x, value_x) (text_y, value_y) e

-- what stands behind the front of a window
pub behind_front : (window rest bytes others : List ℕ) → window ≡ take (length window) rest → window ≡ bytes ++ others → rest ≡ bytes ++ (others ++ drop (length window) rest)
behind_front window rest bytes others is spelled =
    sym (take-append-drop (length window) rest) ∙ ap (λ (l : List ℕ). l ++ drop (length window) rest) (sym is ∙ spelled) ∙ append_assoc bytes others (drop (length window) rest)
