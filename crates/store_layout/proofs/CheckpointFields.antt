-- A sealed checkpoint reads as what it is, and as nothing else.
use Rattle.std.proofs.Common.{◌≡◌, ◌≢◌, ◌⊎◌, inl, inr, ◌<◌, ℕ, ◌+◌, ◌%◌, ◌^◌, Bool, true, false, not, cond, ◌&&◌, ◌==◌, nat_le, nat_lt, None, Some, List, [], ◌∷◌, ◌++◌, length, take, drop, refl, sym, ap, ap₂, subst, ◌∙◌, arith}
use Rattle.std.proofs.lemmas.Bool.Decides.{nat_tests}
use Rattle.std.proofs.lemmas.List.{length-append}
use Rattle.std.proofs.Math.Seq.{take-append_seam}
use Rattle.byteorder.specs.Endian.{big_bytes}
use Rattle.byteorder.specs.Numbers.{big_number-reads_back}
use Rattle.java_hash.specs.Stripes.{is_stripe_count}
use Rattle.map_types.specs.declared.refusals.Refusal.{Refusal}
use Rattle.map_types.specs.declared.refusals.Refusal.TheVariants.{Damaged, WrongVersion}
use Rattle.log_records.specs.Layout.{Layout, IsLayout}
use Rattle.store_layout.specs.Logs.{is_read}
use Rattle.store_layout.specs.Checkpoints.{Section, Checkpoint, checkpoint_bytes, checkpoint_header, sections_bytes, greatest_mark, AreSections, AreMarkedFrom, IsCheckpoint, is_sealed}
use Rattle.store_layout.specs.Faults.{version_in, generation_in, low_in, greatest_in, stripes_in, body_length_in, body_in, head_fault, size_fault, HasFault, HasBadMarks, IsBadCheckpoint, bad_size, bad_section, bad_marks}
use Rattle.store_layout.proofs.SectionRows.{same_sections, no_fault, one_fault}

-- ---- the fields of a checkpoint

-- what stands behind the length of the body
abbrev pub body_and : Layout → Checkpoint → List ℕ → List ℕ
body_and layout k rest = sections_bytes layout k.sections ++ rest

abbrev pub body_size : Layout → Checkpoint → ℕ
body_size layout k = length (sections_bytes layout k.sections)

abbrev pub from_28 : Layout → Checkpoint → List ℕ → List ℕ
from_28 layout k rest = big_bytes 8 (body_size layout k) ++ body_and layout k rest

abbrev pub from_26 : Layout → Checkpoint → List ℕ → List ℕ
from_26 layout k rest = big_bytes 2 k.stripes ++ from_28 layout k rest

abbrev pub from_18 : Layout → Checkpoint → List ℕ → List ℕ
from_18 layout k rest = big_bytes 8 (greatest_mark k.sections) ++ from_26 layout k rest

abbrev pub from_10 : Layout → Checkpoint → List ℕ → List ℕ
from_10 layout k rest = big_bytes 8 k.low ++ from_18 layout k rest

-- a sealed file, field by field
abbrev pub fields_bytes : Layout → Checkpoint → List ℕ → List ℕ
fields_bytes layout k rest = 165 ∷ (layout.version ∷ (big_bytes 8 k.generation ++ from_10 layout k rest))

pub fields : (layout : Layout) (k : Checkpoint) (rest : List ℕ) → 165 ∷ (checkpoint_bytes layout k ++ rest) ≡ fields_bytes layout k rest
unfolding checkpoint_header
fields layout k rest = refl

marks_fit : (layout : Layout) (stripes stripe : ℕ) (sections : List Section) → AreSections layout stripes stripe sections → greatest_mark sections < 2 ^ 64
marks_fit layout stripes stripe [] are = omega arith
marks_fit layout stripes stripe (x ∷ xs) are =
    let here = are.0.mark_fits in
    let rest = marks_fit layout stripes (stripe + 1) xs are.1 in
    omega (arith, here, rest)

stripes_fit : (n : ℕ) → is_stripe_count n ≡ true → n < 2 ^ 16
stripes_fit n e = grind (arith, nat_tests)

module _ (layout : Layout) (k : Checkpoint) (content : List ℕ) (is : IsCheckpoint layout k content) where
  spelled : content ≡ fields_bytes layout k is.rest
  spelled = is.bytes ∙ fields layout k is.rest

  pub has_version : version_in content ≡ layout.version
  has_version = ap version_in spelled

  pub has_generation : generation_in content ≡ k.generation
  has_generation =
      let fits = is.whole.generation_fits in
      ap generation_in spelled ∙ big_number-reads_back 8 k.generation (from_10 layout k is.rest) (omega arith)

  pub has_low : low_in content ≡ k.low
  has_low =
      let fits = is.whole.low_fits in
      ap low_in spelled ∙ big_number-reads_back 8 k.low (from_18 layout k is.rest) (omega arith)

  pub has_greatest : greatest_in content ≡ greatest_mark k.sections
  has_greatest =
      let fits = marks_fit layout k.stripes 0 k.sections is.whole.sections in
      ap greatest_in spelled ∙ big_number-reads_back 8 (greatest_mark k.sections) (from_26 layout k is.rest) (omega arith)

  pub has_stripes : stripes_in content ≡ k.stripes
  has_stripes =
      let fits = stripes_fit k.stripes is.whole.stripes in
      ap stripes_in spelled ∙ big_number-reads_back 2 k.stripes (from_28 layout k is.rest) (omega arith)

  pub has_body_length : body_length_in content ≡ body_size layout k
  has_body_length =
      let fits = is.whole.body_fits in
      ap body_length_in spelled ∙ big_number-reads_back 8 (body_size layout k) (body_and layout k is.rest) (omega arith)

  pub has_body : body_in content ≡ sections_bytes layout k.sections
  has_body = ap₂ (λ (n : ℕ) (l : List ℕ). take n (drop 36 l)) has_body_length spelled ∙ take-append_seam (sections_bytes layout k.sections) is.rest

  long_enough : length content ≡ 36 + (body_size layout k + length is.rest)
  long_enough =
      let all : length content ≡ length (fields_bytes layout k is.rest) = ap (λ (l : List ℕ). length l) spelled in
      let body = length-append (sections_bytes layout k.sections) is.rest in
      omega (arith, all, body)

  first_open : is_sealed content ≡ nat_le 36 (length content) && true
  first_open = ap (λ (l : List ℕ). is_sealed l) spelled ∙ ap (λ (l : List ℕ). nat_le 36 (length l) && true) (sym spelled)

  pub sealed : is_sealed content ≡ true
  sealed =
      let enough : nat_le 36 (length content) ≡ true = (let long = long_enough in grind (arith, nat_tests)) in
      first_open ∙ ap (λ b. b && true) enough

  -- the file that it belongs into finds no fault in its head
  pub has_head : is_read layout.version ≡ true → (file : ℕ) → k.generation % 2 ≡ file → head_fault file content ≡ None
  has_head is_version file is_file =
      head_by (is_sealed content) (is_read (version_in content)) (generation_in content % 2) file sealed (ap is_read has_version ∙ is_version) (ap (λ n. n % 2) has_generation ∙ is_file)
    where
      head_by : (sealed one : Bool) (parity file : ℕ) → sealed ≡ true → one ≡ true → parity ≡ file
          → cond (not sealed) None (cond (not one) (Some WrongVersion) (cond (not (parity == file)) (Some (Damaged file 2)) None)) ≡ None
      head_by sealed one parity file s v p =
          let same : (parity == file) ≡ true = grind (arith, nat_tests) in
          ap (λ b. cond (not b) None (cond (not one) (Some WrongVersion) (cond (not (parity == file)) (Some (Damaged file 2)) None))) s
          ∙ ap (λ b. cond (not b) (Some WrongVersion) (cond (not (parity == file)) (Some (Damaged file 2)) None)) v
          ∙ ap (λ b. cond (not b) (Some (Damaged file 2)) None) same

  pub has_size : (file : ℕ) → size_fault file content ≡ None
  has_size file =
      let stripes : is_stripe_count (stripes_in content) ≡ true = ap is_stripe_count has_stripes ∙ is.whole.stripes in
      let inside : nat_lt (length content) (36 + body_length_in content) ≡ false = (let long = long_enough in let body = has_body_length in grind (arith, nat_tests)) in
      ap (λ b. cond (not b) (Some (Damaged file 26)) (cond (nat_lt (length content) (36 + body_length_in content)) (Some (Damaged file 28)) None)) stripes
      ∙ ap (λ b. cond b (Some (Damaged file 28)) None) inside

-- ---- one checkpoint

pub one_checkpoint : (layout : Layout) → IsLayout layout → (k j : Checkpoint) (content : List ℕ) → IsCheckpoint layout k content → IsCheckpoint layout j content → k ≡ j
one_checkpoint layout room k j content p q =
    let generation = sym (has_generation layout k content p) ∙ has_generation layout j content q in
    let low = sym (has_low layout k content p) ∙ has_low layout j content q in
    let stripes = sym (has_stripes layout k content p) ∙ has_stripes layout j content q in
    let body = sym (has_body layout k content p) ∙ has_body layout j content q in
    let sections = same_sections layout room k.stripes k.sections j.sections [] [] p.whole.sections
    (subst (λ n. AreSections layout n 0 j.sections) (sym stripes) q.whole.sections) (p.whole.one_each ∙ stripes ∙ sym q.whole.one_each) (ap (λ (l : List ℕ). l ++ []) body) in
    λ i. record { generation = generation i; low = low i; stripes = stripes i; sections = sections.0 i }

-- ---- or one fault

some_not_none : (r : Refusal) → Some r ≡ None → ⊥
some_not_none r e = absurd cc

same_some : (r r' : Refusal) → Some r ≡ Some r' → r ≡ r'
same_some r r' e = cc

module _ (layout : Layout) (room : IsLayout layout) (file : ℕ) (content : List ℕ) where
  pub never_bad : (k : Checkpoint) (refusal : Refusal) → IsCheckpoint layout k content → IsBadCheckpoint layout file content refusal → ⊥
  never_bad k refusal is (bad_size e) = some_not_none refusal (sym e ∙ has_size layout k content is file)
  never_bad k refusal is (bad_section offset _ bad place) =
      no_fault layout room k.stripes k.sections (body_in content) offset is.whole.sections is.whole.one_each (has_body layout k content is)
      (subst (λ n. HasFault layout n (body_in content) offset) (has_stripes layout k content is) bad)
  never_bad k refusal is (bad_marks _ bad place) =
      let stripes = has_stripes layout k content is in
      let same = same_sections layout room k.stripes bad.sections k.sections [] [] (subst (λ n. AreSections layout n 0 bad.sections) stripes bad.are) is.whole.sections
      (bad.one_each ∙ stripes ∙ sym is.whole.one_each) (ap (λ (l : List ℕ). l ++ []) (sym bad.spelled ∙ has_body layout k content is)) in
      right_marks bad.sections same.0 bad.wrong
    where
      right_marks : (sections : List Section) → sections ≡ k.sections → (greatest_mark sections ≢ greatest_in content) ⊎ (AreMarkedFrom (low_in content) sections → ⊥) → ⊥
      right_marks sections e (inl wrong) = wrong (ap greatest_mark e ∙ sym (has_greatest layout k content is))
      right_marks sections e (inr wrong) =
          wrong (subst (λ (l : List Section). AreMarkedFrom (low_in content) l) (sym e) (subst (λ n. AreMarkedFrom n k.sections) (sym (has_low layout k content is)) is.whole.marks))

  marks_whole : (offset : ℕ) → HasBadMarks layout content → HasFault layout (stripes_in content) (body_in content) offset → ⊥
  marks_whole offset marks bad = no_fault layout room (stripes_in content) marks.sections (body_in content) offset marks.are marks.one_each marks.spelled bad

  pub one_bad : (r r' : Refusal) → IsBadCheckpoint layout file content r → IsBadCheckpoint layout file content r' → r ≡ r'
  one_bad r r' (bad_size p) (bad_size q) = same_some r r' (sym p ∙ q)
  one_bad r r' (bad_size p) (bad_section _ q _ _) = absurd (some_not_none r (sym p ∙ q))
  one_bad r r' (bad_size p) (bad_marks q _ _) = absurd (some_not_none r (sym p ∙ q))
  one_bad r r' (bad_section _ p _ _) (bad_size q) = absurd (some_not_none r' (sym q ∙ p))
  one_bad r r' (bad_section o _ p e) (bad_section o' _ q e') = e ∙ ap (λ n. Damaged file (36 + n)) (one_fault layout room (stripes_in content) (body_in content) o o' p q) ∙ sym e'
  one_bad r r' (bad_section o _ p e) (bad_marks _ q e') = absurd (marks_whole o q p)
  one_bad r r' (bad_marks p _ _) (bad_size q) = absurd (some_not_none r' (sym q ∙ p))
  one_bad r r' (bad_marks _ p e) (bad_section o _ q e') = absurd (marks_whole o p q)
  one_bad r r' (bad_marks _ _ e) (bad_marks _ _ e') = e ∙ sym e'
