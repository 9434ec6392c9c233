-- A sealed file holds a checkpoint, or has a fault.
use Rattle.std.proofs.Common.{◌≡◌, ◌≢◌, ◌⊎◌, inl, inr, ◌≤◌, ◌<◌, ℕ, zero, suc, ◌+◌, Bool, true, false, ◌==◌, Option, None, Some, List, [], ◌∷◌, ◌++◌, length, drop, refl, sym, ap, subst, ◌∙◌, append_assoc, arith}
use Rattle.std.proofs.lemmas.Bool.{cases_lt, eqb-true, eqb-false}
use Rattle.std.proofs.lemmas.List.{append-nil}
use Rattle.std.specs.List.{AllByRecursion}
use Rattle.std.specs.List.Sorted.{IsStrictlySortedBy}
use Rattle.std.specs.FinMap as finite
use Rattle.byteorder.specs.Endian.{big_number, big_bytes}
use Rattle.map_types.specs.declared.refusals.Refusal.{Refusal}
use Rattle.map_types.specs.declared.refusals.Refusal.TheVariants.{Damaged}
use Rattle.map_types.specs.declared.texts.Value.{Value}
use Rattle.map_model.specs.Maps.{Entries}
use Rattle.map_model.proofs.EntryLaws.{entries-map_of}
use Rattle.log_records.specs.Layout.{Layout, IsLayout}
use Rattle.log_records.specs.Agreement.{IsBytes}
use Rattle.log_records.proofs.Digits.{IsBytes-drop, IsBytes-take}
use Rattle.store_layout.specs.Checkpoints.{Section, Checkpoint, entry_bytes, entries_bytes, marked_bytes, section_bytes, sections_bytes, greatest_mark, IsEntryOf, IsSection, AreSections, AreMarkedFrom, IsCheckpoint, is_sealed}
use Rattle.store_layout.specs.Faults.{AreEntries, IsFault, no_head, bad_entry, left_over, HasFault, version_in, low_in, greatest_in, stripes_in, body_length_in, body_in, checkpoint_in, head_fault, size_fault, IsBadCheckpoint, bad_size, bad_section, bad_marks}
use Rattle.store_layout.proofs.EntryRows.{section_parts}
use Rattle.store_layout.proofs.CheckpointReading.{next_field, number_fits, fields_make}
use Rattle.store_layout.proofs.Looking.{More, read_entries}

module _ (layout : Layout) (room : IsLayout layout) (stripes : ℕ) where
  -- ---- a section

  record Whole (stripe : ℕ) (bytes : List ℕ) : Type 0 where
    section : Section
    rest : List ℕ
    is : IsSection layout stripes stripe section
    spelled : bytes ≡ section_bytes layout section ++ rest
    rest_fits : IsBytes rest

  abbrev ReadSection : ℕ → List ℕ → Type 0
  ReadSection stripe bytes = Whole stripe bytes ⊎ ((offset : ℕ) × IsFault layout stripes stripe bytes offset)

  module _ (stripe : ℕ) (below : stripe < stripes) (bytes : List ℕ) (fits : IsBytes bytes) (long : 12 ≤ length bytes) where
    abbrev mark : ℕ
    mark = big_number 8 (drop 0 bytes)

    abbrev count : ℕ
    count = big_number 4 (drop 8 bytes)

    head : bytes ≡ big_bytes 8 mark ++ (big_bytes 4 count ++ drop 12 bytes)
    head = next_field 8 0 bytes (omega (arith, long)) fits ∙ ap (λ (l : List ℕ). big_bytes 8 mark ++ l) (next_field 4 8 bytes (omega (arith, long)) fits)

    read_all : (m : More layout room stripes stripe [] (drop 12 bytes)) → length m.more ≡ count → Whole stripe bytes
    read_all m size =
        let same : finite.entries (finite.from_entries m.more) ≡ m.more = entries-map_of m.more m.are.rising in
        let mark_fits = number_fits 8 0 bytes fits in
        let count_fits = number_fits 4 8 bytes fits in
        let len : length (finite.entries (finite.from_entries m.more)) ≡ length m.more = ap (λ (es : Entries). length es) same in
        record {
          section = record { mark = mark; map = finite.from_entries m.more };
          rest = m.rest;
          is = record {
            mark_fits = omega (arith, mark_fits);
            count_fits = omega (arith, count_fits, size, len);
            entries = subst (λ (es : Entries). AllByRecursion (IsEntryOf layout stripes stripe) es) (sym same) m.are.each;
          };
          spelled = head
              ∙ ap (λ (l : List ℕ). big_bytes 8 mark ++ (big_bytes 4 count ++ l)) m.spelled
              ∙ ap (λ (n : ℕ). big_bytes 8 mark ++ (big_bytes 4 n ++ (entries_bytes layout m.more ++ m.rest))) (sym size)
              ∙ sym (section_parts layout mark m.more m.rest)
              ∙ ap (λ (es : Entries). marked_bytes layout mark es ++ m.rest) (sym same);
          rest_fits = m.rest_fits;
        }

    read_some : (m : More layout room stripes stripe [] (drop 12 bytes)) → length m.more < count
        → ((entry : List ℕ × Value) (others : List ℕ) → m.rest ≡ entry_bytes layout entry ++ others → AreEntries layout stripes stripe (m.more ++ entry ∷ []) → ⊥)
        → IsFault layout stripes stripe bytes (12 + length (entries_bytes layout m.more))
    read_some m fewer none =
        let mark_fits = number_fits 8 0 bytes fits in
        let count_fits = number_fits 4 8 bytes fits in
        bad_entry below (record {
          mark = mark;
          count = count;
          mark_fits = omega (arith, mark_fits);
          count_fits = omega (arith, count_fits);
          before = m.more;
          are = m.are;
          rest = m.rest;
          spelled = head ∙ ap (λ (l : List ℕ). big_bytes 8 mark ++ (big_bytes 4 count ++ l)) m.spelled;
          fewer = fewer;
          none_next = none;
          place = refl;
        })

    read_long : ReadSection stripe bytes
    unfolding IsStrictlySortedBy
    read_long = elim (read_entries layout room stripes stripe count [] (drop 12 bytes) (IsBytes-drop 12 bytes fits) (record { each = tt; rising = tt })) as (λ _. ReadSection stripe bytes) [
      | inl all ↦ inl (read_all all.0 all.1)
      | inr few ↦ inr (12 + length (entries_bytes layout few.0.more), read_some few.0 few.1 few.2)
    ]

  read_section : (stripe : ℕ) (bytes : List ℕ) → stripe < stripes → IsBytes bytes → ReadSection stripe bytes
  read_section stripe bytes below fits = elim (cases_lt (length bytes) 12) as (λ _. ReadSection stripe bytes) [
    | inl short ↦ inr (0, no_head below short refl)
    | inr long ↦ read_long stripe below bytes fits long
  ]

  -- ---- the sections of a body

  record All (stripe left : ℕ) (bytes : List ℕ) : Type 0 where
    sections : List Section
    rest : List ℕ
    are : AreSections layout stripes stripe sections
    so_many : length sections ≡ left
    spelled : bytes ≡ sections_bytes layout sections ++ rest

  record Faulty (stripe : ℕ) (bytes : List ℕ) : Type 0 where
    before : List Section
    rest : List ℕ
    distance : ℕ
    are : AreSections layout stripes stripe before
    spelled : bytes ≡ sections_bytes layout before ++ rest
    fault : IsFault layout stripes (stripe + length before) rest distance

  more_faulty : (stripe : ℕ) (bytes : List ℕ) (w : Whole stripe bytes) → Faulty (stripe + 1) w.rest → Faulty stripe bytes
  more_faulty stripe bytes w f = record {
    before = w.section ∷ f.before;
    rest = f.rest;
    distance = f.distance;
    are = (w.is, f.are);
    spelled = w.spelled ∙ ap (λ (l : List ℕ). section_bytes layout w.section ++ l) f.spelled ∙ sym (append_assoc (section_bytes layout w.section) (sections_bytes layout f.before) f.rest);
    fault = subst (λ n. IsFault layout stripes n f.rest f.distance) (omega arith) f.fault;
  }

  more_all : (stripe left : ℕ) (bytes : List ℕ) (w : Whole stripe bytes) → All (stripe + 1) left w.rest → All stripe (suc left) bytes
  more_all stripe left bytes w a = record {
    sections = w.section ∷ a.sections;
    rest = a.rest;
    are = (w.is, a.are);
    so_many = let size = a.so_many in omega (arith, size);
    spelled = w.spelled ∙ ap (λ (l : List ℕ). section_bytes layout w.section ++ l) a.spelled ∙ sym (append_assoc (section_bytes layout w.section) (sections_bytes layout a.sections) a.rest);
  }

  read_sections : (left stripe : ℕ) (bytes : List ℕ) → stripe + left ≡ stripes → IsBytes bytes → All stripe left bytes ⊎ Faulty stripe bytes
  read_sections zero stripe bytes all fits = inl (record { sections = []; rest = bytes; are = tt; so_many = refl; spelled = refl })
  read_sections (suc left) stripe bytes all fits = elim (read_section stripe bytes (omega (arith, all)) fits) as (λ _. All stripe (suc left) bytes ⊎ Faulty stripe bytes) [
    | inr bad ↦ inr (record { before = []; rest = bytes; distance = bad.0; are = tt; spelled = refl; fault = subst (λ n. IsFault layout stripes n bytes bad.0) (omega arith) bad.1 })
    | inl w ↦ elim (read_sections left (stripe + 1) w.rest (omega (arith, all)) w.rest_fits) as (λ _. All stripe (suc left) bytes ⊎ Faulty stripe bytes) [
      | inl a ↦ inl (more_all stripe left bytes w a)
      | inr f ↦ inr (more_faulty stripe bytes w f)
    ]
  ]

  record Sections (body : List ℕ) : Type 0 where
    sections : List Section
    are : AreSections layout stripes 0 sections
    one_each : length sections ≡ stripes
    spelled : body ≡ sections_bytes layout sections

  end_of : (body : List ℕ) (a : All 0 stripes body) → Sections body ⊎ ((offset : ℕ) × HasFault layout stripes body offset)
  end_of body a = by a.rest refl
    where
      by : (rest : List ℕ) → a.rest ≡ rest → Sections body ⊎ ((offset : ℕ) × HasFault layout stripes body offset)
      by [] e = inl (record { sections = a.sections; are = a.are; one_each = a.so_many; spelled = a.spelled ∙ ap (λ (l : List ℕ). sections_bytes layout a.sections ++ l) e ∙ append-nil (sections_bytes layout a.sections) })
      by (x ∷ xs) e = inr (
        length (sections_bytes layout a.sections) + 0,
        record {
          before = a.sections;
          are = a.are;
          rest = x ∷ xs;
          spelled = a.spelled ∙ ap (λ (l : List ℕ). sections_bytes layout a.sections ++ l) e;
          distance = 0;
          fault = left_over a.so_many (omega arith) refl;
          place = refl;
        },
      )

  read_body : (body : List ℕ) → IsBytes body → Sections body ⊎ ((offset : ℕ) × HasFault layout stripes body offset)
  read_body body fits = elim (read_sections stripes 0 body (omega arith) fits) as (λ _. Sections body ⊎ ((offset : ℕ) × HasFault layout stripes body offset)) [
    | inl a ↦ end_of body a
    | inr f ↦ inr (
      length (sections_bytes layout f.before) + f.distance,
      record {
        before = f.before;
        are = f.are;
        rest = f.rest;
        spelled = f.spelled;
        distance = f.distance;
        fault = subst (λ n. IsFault layout stripes n f.rest f.distance) (omega arith) f.fault;
        place = refl;
      },
    )
  ]

-- ---- the file

marks_told : (low : ℕ) (sections : List Section) → AreMarkedFrom low sections ⊎ (AreMarkedFrom low sections → ⊥)
marks_told low [] = inl tt
marks_told low (x ∷ xs) = elim (cases_lt x.mark low) as (λ _. AreMarkedFrom low (x ∷ xs) ⊎ (AreMarkedFrom low (x ∷ xs) → ⊥)) [
  | inl less ↦ inr (λ all. let h = all.0 in omega (arith, h, less))
  | inr up ↦ elim (marks_told low xs) as (λ _. AreMarkedFrom low (x ∷ xs) ⊎ (AreMarkedFrom low (x ∷ xs) → ⊥)) [
    | inl rest ↦ inl (up, rest)
    | inr never ↦ inr (λ all. never all.1)
  ]
]

module _ (layout : Layout) (room : IsLayout layout) (file : ℕ) (content : List ℕ) (fits : IsBytes content) (s : is_sealed content ≡ true) (head : head_fault file content ≡ None) (is_version : version_in content ≡ layout.version) where
  abbrev pub Told : Type 0
  Told = ((k : Checkpoint) × IsCheckpoint layout k content) ⊎ ((refusal : Refusal) × IsBadCheckpoint layout file content refusal)

  by_marks : size_fault file content ≡ None → Sections layout room (stripes_in content) (body_in content) → Told
  by_marks size b = by (greatest_mark b.sections == greatest_in content) refl (marks_told (low_in content) b.sections)
    where
      bad : (greatest_mark b.sections ≢ greatest_in content) ⊎ (AreMarkedFrom (low_in content) b.sections → ⊥) → Told
      bad wrong = inr (Damaged file 18, bad_marks size (record { sections = b.sections; are = b.are; one_each = b.one_each; spelled = b.spelled; wrong = wrong }) refl)

      by : (x : Bool) → (greatest_mark b.sections == greatest_in content) ≡ x → AreMarkedFrom (low_in content) b.sections ⊎ (AreMarkedFrom (low_in content) b.sections → ⊥) → Told
      by false e told = bad (inl (eqb-false _ _ e))
      by true e (inr never) = bad (inr never)
      by true e (inl marks) = inl (checkpoint_in content b.sections, fields_make layout file content b.sections fits s head is_version size b.spelled b.one_each b.are (eqb-true _ _ e) marks)

  by_body : size_fault file content ≡ None → Told
  by_body size = elim (read_body layout room (stripes_in content) (body_in content) (IsBytes-take (body_length_in content) (drop 36 content) (IsBytes-drop 36 content fits))) as (λ _. Told) [
    | inl b ↦ by_marks size b
    | inr f ↦ inr (Damaged file (36 + f.0), bad_section f.0 size f.1 refl)
  ]

  pub read_checkpoint : Told
  read_checkpoint = by (size_fault file content) refl
    where
      by : (o : Option Refusal) → size_fault file content ≡ o → Told
      by None e = by_body e
      by (Some r) e = inr (r, bad_size e)
