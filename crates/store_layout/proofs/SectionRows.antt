-- Sections of a body: one way to read them, and one first fault.
use Rattle.std.proofs.Common.{◌≡◌, ◌≤◌, ◌<◌, ℕ, ◌+◌, inl, inr, List, [], ◌∷◌, ◌++◌, length, refl, sym, ap, ap₂, subst, ◌∙◌, append_assoc, arith}
use Rattle.std.proofs.lemmas.Bool.{cases_lt}
use Rattle.std.proofs.lemmas.List.{length-append, append-nil}
use Rattle.std.specs.FinMap as finite
use Rattle.byteorder.specs.Endian.{big_bytes}
use Rattle.byteorder.specs.Numbers.{length-bytes_high_first}
use Rattle.map_model.specs.Maps.{Map}
use Rattle.log_records.specs.Layout.{Layout, IsLayout}
use Rattle.store_layout.specs.Checkpoints.{Section, entries_bytes, section_bytes, sections_bytes, IsSection, AreSections}
use Rattle.store_layout.specs.Faults.{HasBadEntry, IsFault, no_head, bad_entry, left_over, HasFault}
use Rattle.store_layout.proofs.FrameLemmas.{same_number}
use Rattle.store_layout.proofs.EntryRows.{same_entries, section_parts, no_bad_entry, one_bad_entry}

-- ---- sections

twelve : (mark count : ℕ) (rest : List ℕ) → 12 ≤ length (big_bytes 8 mark ++ (big_bytes 4 count ++ rest))
twelve mark count rest =
    let a = length-append (big_bytes 8 mark) (big_bytes 4 count ++ rest) in
    let b = length-append (big_bytes 4 count) rest in
    let c = length-bytes_high_first 8 mark in
    let d = length-bytes_high_first 4 count in
    omega arith

-- a section has its mark and its count
section_long : (layout : Layout) (section : Section) (x : List ℕ) → 12 ≤ length (section_bytes layout section ++ x)
section_long layout section x =
    let es = finite.entries section.map in
    subst (λ (l : List ℕ). 12 ≤ length l) (sym (section_parts layout section.mark es x)) (twelve section.mark (length es) (entries_bytes layout es ++ x))

module _ (layout : Layout) (room : IsLayout layout) (stripes : ℕ) where
  same_section : (stripe : ℕ) (a b : Section) (x y : List ℕ) → IsSection layout stripes stripe a → IsSection layout stripes stripe b → section_bytes layout a ++ x ≡ section_bytes layout b ++ y → (a ≡ b) × (x ≡ y)
  same_section stripe a b x y p q e =
      let es = finite.entries a.map in
      let ds = finite.entries b.map in
      let whole = sym (section_parts layout a.mark es x) ∙ e ∙ section_parts layout b.mark ds y in
      let fits_a = p.mark_fits in
      let fits_b = q.mark_fits in
      let few_a = p.count_fits in
      let few_b = q.count_fits in
      let marks = same_number 8 a.mark b.mark _ _ (omega arith) (omega arith) whole in
      let counts = same_number 4 (length es) (length ds) _ _ (omega arith) (omega arith) marks.1 in
      let entries = same_entries layout room stripes stripe es ds x y p.entries q.entries counts.0 counts.1 in
      let made : ℕ → Map → Section = λ mark map. record { mark = mark; map = map } in
      (ap₂ made marks.0 (finite.same_entries_map a.map b.map entries.0), entries.1)

  -- what is left of a row of sections behind its beginning
  record IsMore (stripe : ℕ) (a b : List Section) (x y : List ℕ) : Type 0 where
    more : List Section
    whole : b ≡ a ++ more
    bytes : x ≡ sections_bytes layout more ++ y
    are : AreSections layout stripes (stripe + length a) more

  -- Of two rows of sections at the front of the same bytes the longer begins with the shorter.
  sections_part : (stripe : ℕ) (a b : List Section) (x y : List ℕ) → AreSections layout stripes stripe a → AreSections layout stripes stripe b → length a ≤ length b
      → sections_bytes layout a ++ x ≡ sections_bytes layout b ++ y → IsMore stripe a b x y
  sections_part stripe [] b x y are_a are_b len e =
      record { more = b; whole = refl; bytes = e; are = subst (λ n. AreSections layout stripes n b) (omega arith) are_b }
  sections_part stripe (c ∷ a) [] x y are_a are_b len e = absurd (omega (arith, len))
  sections_part stripe (c ∷ a) (d ∷ b) x y are_a are_b len e =
      let one = same_section stripe c d (sections_bytes layout a ++ x) (sections_bytes layout b ++ y) are_a.0 are_b.0
      (sym (append_assoc (section_bytes layout c) (sections_bytes layout a) x) ∙ e ∙ append_assoc (section_bytes layout d) (sections_bytes layout b) y) in
      let rest = sections_part (stripe + 1) a b x y are_a.1 are_b.1 (omega (arith, len)) one.1 in
      record {
        more = rest.more;
        whole = ap₂ (λ (h : Section) (t : List Section). h ∷ t) (sym one.0) rest.whole;
        bytes = rest.bytes;
        are = subst (λ n. AreSections layout stripes n rest.more) (omega arith) rest.are;
      }

  is_empty : (l : List Section) → length l ≡ 0 → l ≡ []
  is_empty [] e = refl
  is_empty (c ∷ l) e = absurd (omega (arith, e))

  -- so many sections at the front of the same bytes are the same
  pub same_sections : (a b : List Section) (x y : List ℕ) → AreSections layout stripes 0 a → AreSections layout stripes 0 b → length a ≡ length b
      → sections_bytes layout a ++ x ≡ sections_bytes layout b ++ y → (a ≡ b) × (x ≡ y)
  same_sections a b x y are_a are_b len e =
      let part = sections_part 0 a b x y are_a are_b (omega (arith, len)) e in
      let size : length b ≡ length a + length part.more = ap (λ (l : List Section). length l) part.whole ∙ length-append a part.more in
      let empty = is_empty part.more (omega (arith, size, len)) in
      (sym (part.whole ∙ ap (λ (l : List Section). a ++ l) empty ∙ append-nil a), part.bytes ∙ ap (λ (l : List Section). sections_bytes layout l ++ y) empty)

  -- ---- faults

  -- no fault stands where a whole section does
  section_whole : (stripe : ℕ) (section : Section) (bytes x : List ℕ) (offset : ℕ) → stripe < stripes → IsSection layout stripes stripe section → bytes ≡ section_bytes layout section ++ x
      → IsFault layout stripes stripe bytes offset → ⊥
  section_whole stripe section bytes x offset below is e (no_head low short place) =
      let long = subst (λ (l : List ℕ). 12 ≤ length l) (sym e) (section_long layout section x) in omega (arith, short, long)
  section_whole stripe section bytes x offset below is e (bad_entry low bad) = no_bad_entry layout room stripes stripe section bytes x offset is e bad
  section_whole stripe section bytes x offset below is e (left_over all some place) = omega (arith, all, below)

  -- nor where the sections that are left end with the body
  more_whole : (stripe : ℕ) (more : List Section) (bytes : List ℕ) (offset : ℕ) → stripe + length more ≡ stripes → AreSections layout stripes stripe more → bytes ≡ sections_bytes layout more ++ []
      → IsFault layout stripes stripe bytes offset → ⊥
  more_whole stripe [] bytes offset all are e (no_head low short place) = omega (arith, low, all)
  more_whole stripe [] bytes offset all are e (bad_entry low bad) = omega (arith, low, all)
  more_whole stripe [] bytes offset all are e (left_over is some place) = let none = subst (λ (l : List ℕ). 0 < length l) e some in omega (arith, none)
  more_whole stripe (c ∷ more) bytes offset all are e fault =
      section_whole stripe c bytes (sections_bytes layout more ++ []) offset (omega (arith, all)) are.0 (e ∙ append_assoc (section_bytes layout c) (sections_bytes layout more) []) fault

  within : (stripe : ℕ) (bytes : List ℕ) (offset : ℕ) → IsFault layout stripes stripe bytes offset → stripe ≤ stripes
  within stripe bytes offset (no_head low short place) = omega (arith, low)
  within stripe bytes offset (bad_entry low bad) = omega (arith, low)
  within stripe bytes offset (left_over is some place) = omega (arith, is)

  bad_long : (stripe : ℕ) (bytes : List ℕ) (offset : ℕ) → HasBadEntry layout stripes stripe bytes offset → 12 ≤ length bytes
  bad_long stripe bytes offset bad = subst (λ (l : List ℕ). 12 ≤ length l) (sym bad.spelled) (twelve bad.mark bad.count (entries_bytes layout bad.before ++ bad.rest))

  one_distance : (stripe : ℕ) (bytes : List ℕ) (o o' : ℕ) → IsFault layout stripes stripe bytes o → IsFault layout stripes stripe bytes o' → o ≡ o'
  one_distance stripe bytes o o' (no_head _ _ p) (no_head _ _ q) = p ∙ sym q
  one_distance stripe bytes o o' (no_head _ short _) (bad_entry _ bad) = let long = bad_long stripe bytes o' bad in absurd (omega (arith, short, long))
  one_distance stripe bytes o o' (no_head low _ _) (left_over is _ _) = absurd (omega (arith, low, is))
  one_distance stripe bytes o o' (bad_entry _ bad) (no_head _ short _) = let long = bad_long stripe bytes o bad in absurd (omega (arith, short, long))
  one_distance stripe bytes o o' (bad_entry _ p) (bad_entry _ q) = one_bad_entry layout room stripes stripe bytes o o' p q
  one_distance stripe bytes o o' (bad_entry low _) (left_over is _ _) = absurd (omega (arith, low, is))
  one_distance stripe bytes o o' (left_over is _ _) (no_head low _ _) = absurd (omega (arith, low, is))
  one_distance stripe bytes o o' (left_over is _ _) (bad_entry low _) = absurd (omega (arith, low, is))
  one_distance stripe bytes o o' (left_over _ _ p) (left_over _ _ q) = p ∙ sym q

  never_more : (body : List ℕ) (o o' : ℕ) (p : HasFault layout stripes body o) (q : HasFault layout stripes body o') → length p.before < length q.before → ⊥
  never_more body o o' p q longer =
      let part = sections_part 0 p.before q.before p.rest q.rest p.are q.are (omega (arith, longer)) (sym p.spelled ∙ q.spelled) in
      let size : length q.before ≡ length p.before + length part.more = ap (λ (l : List Section). length l) part.whole ∙ length-append p.before part.more in
      let below = within (length q.before) q.rest q.distance q.fault in
      next part.more (omega (arith, size, longer)) (subst (λ n. AreSections layout stripes n part.more) (omega arith) part.are) part.bytes (omega (arith, longer, below))
    where
      next : (more : List Section) → 0 < length more → AreSections layout stripes (length p.before) more → p.rest ≡ sections_bytes layout more ++ q.rest → length p.before < stripes → ⊥
      next [] some are e below = omega (arith, some)
      next (c ∷ more) some are e below =
          section_whole (length p.before) c p.rest (sections_bytes layout more ++ q.rest) p.distance below are.0 (e ∙ append_assoc (section_bytes layout c) (sections_bytes layout more) q.rest) p.fault

  -- the first fault of a body stands in one place
  pub one_fault : (body : List ℕ) (o o' : ℕ) → HasFault layout stripes body o → HasFault layout stripes body o' → o ≡ o'
  one_fault body o o' p q =
      elim (cases_lt (length p.before) (length q.before)) [
        | inl shorter ↦ absurd (never_more body o o' p q shorter)
        | inr ge ↦ elim (cases_lt (length q.before) (length p.before)) [
          | inl longer ↦ absurd (never_more body o' o q p longer)
          | inr le ↦
              let same = same_sections p.before q.before p.rest q.rest p.are q.are (omega (arith, ge, le)) (sym p.spelled ∙ q.spelled) in
              let fault : IsFault layout stripes (length p.before) p.rest q.distance =
              subst (λ (l : List ℕ). IsFault layout stripes (length p.before) l q.distance) (sym same.1) (subst (λ (l : List Section). IsFault layout stripes (length l) q.rest q.distance) (sym same.0) q.fault) in
              p.place ∙ ap₂ (λ (l : List Section) (n : ℕ). length (sections_bytes layout l) + n) same.0 (one_distance (length p.before) p.rest p.distance q.distance p.fault fault) ∙ sym q.place
        ]
      ]

  -- a body of whole sections has no fault
  pub no_fault : (sections : List Section) (body : List ℕ) (offset : ℕ) → AreSections layout stripes 0 sections → length sections ≡ stripes → body ≡ sections_bytes layout sections
      → HasFault layout stripes body offset → ⊥
  no_fault sections body offset are all e bad =
      let below = within (length bad.before) bad.rest bad.distance bad.fault in
      let part = sections_part 0 bad.before sections bad.rest [] bad.are are (omega (arith, below, all)) (sym bad.spelled ∙ e ∙ sym (append-nil (sections_bytes layout sections))) in
      let size : length sections ≡ length bad.before + length part.more = ap (λ (l : List Section). length l) part.whole ∙ length-append bad.before part.more in
      more_whole (length bad.before) part.more bad.rest bad.distance (omega (arith, size, all)) (subst (λ n. AreSections layout stripes n part.more) (omega arith) part.are) part.bytes bad.fault
