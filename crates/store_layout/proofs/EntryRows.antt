-- Entries of a section: one way to read them.
use Rattle.std.proofs.Common.{◌≡◌, ◌≤◌, ◌<◌, ℕ, ◌+◌, inl, inr, Ordering, Less, Equal, Greater, List, [], ◌∷◌, ◌++◌, length, Some, Result, refl, sym, ap, ap₂, subst, ◌∙◌, append_assoc, arith}
use Rattle.std.proofs.lemmas.List.{length-append, append-nil}
use Rattle.std.proofs.lemmas.Bool.{cases_lt}
use Rattle.std.specs.Prelude.{T}
use Rattle.std.specs.List.{AllByRecursion}
use Rattle.std.specs.List.Sorted.{IsStrictlySortedBy}
use Rattle.std.specs.Map.{keys_of}
use Rattle.std.specs.Ordering.{nat_cmp, is_lt}
use Rattle.std.specs.Cmp.Lexicographic.{slice_cmp}
use Rattle.std.specs.FinMap as finite
use Rattle.std.specs.FinMap.Entries.{below_all}
use Rattle.byteorder.specs.Endian.{big_bytes}
use Rattle.map_types.specs.declared.refusals.Refusal.{Refusal}
use Rattle.map_types.specs.declared.texts.Value.{Value}
use Rattle.map_model.proofs.EntryLaws.{first_holds, second_holds}
use Rattle.log_records.specs.Layout.{Layout, IsLayout}
use Rattle.log_records.specs.Spelling.{IsText, IsValue, key_bytes, value_bytes}
use Rattle.log_records.specs.Reading.{key_at, some_value_at}
use Rattle.log_records.specs.Agreement.{Agrees}
use Rattle.log_records.proofs.Agreeing.{ok_is}
use Rattle.log_records.proofs.Fields.{key_agrees, some_value_agrees}
use Rattle.store_layout.specs.Checkpoints.{Section, entry_bytes, entries_bytes, marked_bytes, section_bytes, IsEntryOf, IsSection}
use Rattle.store_layout.specs.Faults.{AreEntries, HasBadEntry}
use Rattle.store_layout.proofs.FrameLemmas.{same_number}

-- ---- one entry

pub same_spelled : {A : Type 0} (read : List ℕ → Result (A × List ℕ) Refusal) (bytes_of : A → List ℕ) (Fits : A → Type 0) → Agrees read bytes_of Fits
    → (x y : A) (s t : List ℕ) → Fits x → Fits y → bytes_of x ++ s ≡ bytes_of y ++ t → (x ≡ y) × (s ≡ t)
same_spelled {A = A} read bytes_of Fits agrees x y s t p q e =
    let is = ok_is (x, s) (y, t) (sym (agrees.again x s p) ∙ ap read e ∙ agrees.again y t q) in
    (ap (λ (z : A × List ℕ). z.0) is, ap (λ (z : A × List ℕ). z.1) is)

module _ (layout : Layout) (room : IsLayout layout) (stripes stripe : ℕ) where
  abbrev AreAll : List (List ℕ × Value) → Type 0
  AreAll entries = AllByRecursion (IsEntryOf layout stripes stripe) entries

  -- no entry begins another
  pub same_entry : (a b : List ℕ × Value) (x y : List ℕ) → IsEntryOf layout stripes stripe a → IsEntryOf layout stripes stripe b → entry_bytes layout a ++ x ≡ entry_bytes layout b ++ y → (a ≡ b) × (x ≡ y)
  same_entry a b x y p q e =
      let keys = same_spelled (key_at layout) (key_bytes layout) (IsText layout.key_limit) (key_agrees layout room) a.0 b.0 (value_bytes (Some a.1) ++ x) (value_bytes (Some b.1) ++ y) p.0 q.0
      (sym (append_assoc (key_bytes layout a.0) (value_bytes (Some a.1)) x) ∙ e ∙ append_assoc (key_bytes layout b.0) (value_bytes (Some b.1)) y) in
      let values = same_spelled some_value_at (λ v. value_bytes (Some v)) IsValue some_value_agrees a.1 b.1 x y p.1 q.1 keys.1 in
      (ap₂ (λ (k : List ℕ) (v : Value). let entry : List ℕ × Value = (k, v) in entry) keys.0 values.0, values.1)

  -- Of two rows of entries at the front of the same bytes the longer begins with the shorter.
  pub entries_part : (a b : List (List ℕ × Value)) (x y : List ℕ) → AreAll a → AreAll b → length a ≤ length b → entries_bytes layout a ++ x ≡ entries_bytes layout b ++ y
      → (more : List (List ℕ × Value)) × (b ≡ a ++ more) × (x ≡ entries_bytes layout more ++ y)
  entries_part [] b x y all_a all_b len e = (b, refl, e)
  entries_part (c ∷ a) [] x y all_a all_b len e = absurd (omega arith)
  entries_part (c ∷ a) (d ∷ b) x y all_a all_b len e =
      let one = same_entry c d (entries_bytes layout a ++ x) (entries_bytes layout b ++ y) all_a.0 all_b.0
      (sym (append_assoc (entry_bytes layout c) (entries_bytes layout a) x) ∙ e ∙ append_assoc (entry_bytes layout d) (entries_bytes layout b) y) in
      let rest = entries_part a b x y all_a.1 all_b.1 (omega arith) one.1 in
      (rest.0, ap₂ (λ (h : List ℕ × Value) (t : List (List ℕ × Value)). h ∷ t) (sym one.0) rest.1, rest.2)

  -- so many entries at the front of the same bytes are the same
  pub same_entries : (a b : List (List ℕ × Value)) (x y : List ℕ) → AreAll a → AreAll b → length a ≡ length b → entries_bytes layout a ++ x ≡ entries_bytes layout b ++ y → (a ≡ b) × (x ≡ y)
  same_entries a b x y all_a all_b len e =
      let part = entries_part a b x y all_a all_b (omega (arith, len)) e in
      let size : length b ≡ length a + length part.0 = ap (λ (l : List (List ℕ × Value)). length l) part.1 ∙ length-append a part.0 in
      let empty : part.0 ≡ [] = none part.0 (omega (arith, size, len)) in
      (sym (part.1 ∙ ap (λ (l : List (List ℕ × Value)). a ++ l) empty ∙ append-nil a), part.2 ∙ ap (λ (l : List (List ℕ × Value)). entries_bytes layout l ++ y) empty)
    where
      none : (l : List (List ℕ × Value)) → length l ≡ 0 → l ≡ []
      none [] e = refl
      none (c ∷ l) e = absurd (omega (arith, e))

-- ---- rising entries

less_from_is_lt : (r : Ordering) → T (is_lt r) → r ≡ Less
less_from_is_lt Less h = refl
less_from_is_lt Equal h = absurd h
less_from_is_lt Greater h = absurd h

above_all : (k : List ℕ) (es : List (List ℕ × Value)) → T (below_all (slice_cmp nat_cmp) k es) → AllByRecursion (λ q. slice_cmp nat_cmp k q ≡ Less) (keys_of es)
above_all k [] h = tt
above_all k (e ∷ es) h = (less_from_is_lt _ (first_holds _ _ h), above_all k es (second_holds _ _ h))

pub rising_from_sorted : (es : List (List ℕ × Value)) → T (finite.is_sorted (slice_cmp nat_cmp) es) → IsStrictlySortedBy (slice_cmp nat_cmp) (keys_of es)
unfolding IsStrictlySortedBy
rising_from_sorted [] h = tt
rising_from_sorted (e ∷ es) h = (above_all e.0 es (first_holds _ _ h), rising_from_sorted es (second_holds _ _ h))

-- the entries of a map rise
pub rising_entries : (layout : Layout) (stripes stripe : ℕ) (section : Section) → IsSection layout stripes stripe section → AreEntries layout stripes stripe (finite.entries section.map)
rising_entries layout stripes stripe section is = record { each = is.entries; rising = rising_from_sorted (finite.entries section.map) (finite.entries_sorted section.map) }

all_front : {A : Type 0} (P : A → Type 0) (a b : List A) → AllByRecursion P (a ++ b) → AllByRecursion P a
all_front P [] b all = tt
all_front P (x ∷ a) b all = (all.0, all_front P a b all.1)

keys_front : (k : List ℕ) (a b : List (List ℕ × Value)) → AllByRecursion (λ q. slice_cmp nat_cmp k q ≡ Less) (keys_of (a ++ b)) → AllByRecursion (λ q. slice_cmp nat_cmp k q ≡ Less) (keys_of a)
keys_front k [] b all = tt
keys_front k (x ∷ a) b all = (all.0, keys_front k a b all.1)

rising_front : (a b : List (List ℕ × Value)) → IsStrictlySortedBy (slice_cmp nat_cmp) (keys_of (a ++ b)) → IsStrictlySortedBy (slice_cmp nat_cmp) (keys_of a)
unfolding IsStrictlySortedBy
rising_front [] b rising = tt
rising_front (x ∷ a) b rising = (keys_front x.0 a b rising.0, rising_front a b rising.1)

pub entries_front : (layout : Layout) (stripes stripe : ℕ) (a b : List (List ℕ × Value)) → AreEntries layout stripes stripe (a ++ b) → AreEntries layout stripes stripe a
entries_front layout stripes stripe a b are = record { each = all_front (IsEntryOf layout stripes stripe) a b are.each; rising = rising_front a b are.rising }

-- ---- a section, part by part

pub section_parts : (layout : Layout) (mark : ℕ) (entries : List (List ℕ × Value)) (x : List ℕ)
    → marked_bytes layout mark entries ++ x ≡ big_bytes 8 mark ++ (big_bytes 4 (length entries) ++ (entries_bytes layout entries ++ x))
unfolding marked_bytes
section_parts layout mark entries x =
    append_assoc (big_bytes 8 mark) (big_bytes 4 (length entries) ++ entries_bytes layout entries) x
    ∙ ap (λ (l : List ℕ). big_bytes 8 mark ++ l) (append_assoc (big_bytes 4 (length entries)) (entries_bytes layout entries) x)

module _ (layout : Layout) (room : IsLayout layout) (stripes stripe : ℕ) where
  -- entries of which one more may come next
  goes_on : (before more : List (List ℕ × Value)) (rest x : List ℕ) → 0 < length more → AreEntries layout stripes stripe (before ++ more) → rest ≡ entries_bytes layout more ++ x
      → ((entry : List ℕ × Value) (others : List ℕ) → rest ≡ entry_bytes layout entry ++ others → AreEntries layout stripes stripe (before ++ entry ∷ []) → ⊥) → ⊥
  goes_on before [] rest x some are is none = absurd (omega (arith, some))
  goes_on before (e ∷ more) rest x some are is none =
      none e (entries_bytes layout more ++ x) (is ∙ append_assoc (entry_bytes layout e) (entries_bytes layout more) x)
      (entries_front layout stripes stripe (before ++ e ∷ []) more (subst (AreEntries layout stripes stripe) (sym (append_assoc before (e ∷ []) more)) are))

  -- a section that is whole has no bad entry
  pub no_bad_entry : (section : Section) (bytes x : List ℕ) (offset : ℕ) → IsSection layout stripes stripe section → bytes ≡ section_bytes layout section ++ x
      → HasBadEntry layout stripes stripe bytes offset → ⊥
  no_bad_entry section bytes x offset is e bad =
      let es = finite.entries section.map in
      let whole = sym bad.spelled ∙ e ∙ section_parts layout section.mark es x in
      let mark_small = bad.mark_fits in
      let count_small = bad.count_fits in
      let fits = is.mark_fits in
      let few = is.count_fits in
      let marks = same_number 8 bad.mark section.mark _ _ (omega arith) (omega arith) whole in
      let counts = same_number 4 bad.count (length es) _ _ (omega arith) (omega arith) marks.1 in
      let fewer = bad.fewer in
      let same_count = counts.0 in
      let part = entries_part layout room stripes stripe bad.before es bad.rest x bad.are.each is.entries (omega arith) counts.1 in
      let size : length es ≡ length bad.before + length part.0 = ap (λ (l : List (List ℕ × Value)). length l) part.1 ∙ length-append bad.before part.0 in
      goes_on bad.before part.0 bad.rest x (omega arith)
      (subst (AreEntries layout stripes stripe) part.1 (rising_entries layout stripes stripe section is)) part.2 bad.none_next

  -- the entries before a bad one
  same_before : (bytes : List ℕ) (o o' : ℕ) (p : HasBadEntry layout stripes stripe bytes o) (q : HasBadEntry layout stripes stripe bytes o')
      → (entries_bytes layout p.before ++ p.rest ≡ entries_bytes layout q.before ++ q.rest)
  same_before bytes o o' p q =
      let p_mark = p.mark_fits in
      let p_count = p.count_fits in
      let q_mark = q.mark_fits in
      let q_count = q.count_fits in
      let whole = sym p.spelled ∙ q.spelled in
      let marks = same_number 8 p.mark q.mark _ _ (omega arith) (omega arith) whole in
      (same_number 4 p.count q.count _ _ (omega arith) (omega arith) marks.1).1

  never_longer : (bytes : List ℕ) (o o' : ℕ) (p : HasBadEntry layout stripes stripe bytes o) (q : HasBadEntry layout stripes stripe bytes o') → length p.before < length q.before → ⊥
  never_longer bytes o o' p q longer =
      let part = entries_part layout room stripes stripe p.before q.before p.rest q.rest p.are.each q.are.each (omega (arith, longer)) (same_before bytes o o' p q) in
      let size : length q.before ≡ length p.before + length part.0 = ap (λ (l : List (List ℕ × Value)). length l) part.1 ∙ length-append p.before part.0 in
      goes_on p.before part.0 p.rest q.rest (omega (arith, size, longer)) (subst (AreEntries layout stripes stripe) part.1 q.are) part.2 p.none_next

  -- the first bad entry stands in one place
  pub one_bad_entry : (bytes : List ℕ) (o o' : ℕ) → HasBadEntry layout stripes stripe bytes o → HasBadEntry layout stripes stripe bytes o' → o ≡ o'
  one_bad_entry bytes o o' p q =
      elim (cases_lt (length p.before) (length q.before)) [
        | inl shorter ↦ absurd (never_longer bytes o o' p q shorter)
        | inr ge ↦ elim (cases_lt (length q.before) (length p.before)) [
          | inl longer ↦ absurd (never_longer bytes o' o q p longer)
          | inr le ↦
              let same = same_entries layout room stripes stripe p.before q.before p.rest q.rest p.are.each q.are.each (omega (arith, ge, le)) (same_before bytes o o' p q) in
              p.place ∙ ap (λ (l : List (List ℕ × Value)). 12 + length (entries_bytes layout l)) same.0 ∙ sym q.place
        ]
      ]
