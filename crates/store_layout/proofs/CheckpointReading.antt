-- A file whose fields have no fault holds the checkpoint that they name.
use Rattle.std.proofs.Common.{◌≡◌, ◌≤◌, ◌<◌, ℕ, ◌+◌, ◌^◌, Bool, true, false, not, cond, ◌&&◌, ◌==◌, nat_le, nat_lt, Option, None, Some, List, [], ◌∷◌, ◌++◌, length, drop, refl, sym, ap, ap₂, ◌∙◌, length-drop, take-append-drop, arith}
use Rattle.std.proofs.lemmas.Bool.{eqb-true}
use Rattle.std.proofs.lemmas.Bool.Decides.{nat_tests}
use Rattle.std.proofs.lemmas.List.{drop-drop, length-take-le}
use Rattle.byteorder.specs.Endian.{big_number, big_bytes}
use Rattle.byteorder.specs.Numbers.{big_from-lt}
use Rattle.java_hash.specs.Stripes.{is_stripe_count}
use Rattle.map_types.specs.declared.refusals.Refusal.{Refusal}
use Rattle.map_types.specs.declared.refusals.Refusal.TheVariants.{Damaged, WrongVersion}
use Rattle.log_records.specs.Agreement.{IsBytes}
use Rattle.log_records.specs.Layout.{Layout}
use Rattle.log_records.proofs.Digits.{IsBytes-rest, IsBytes-drop, big_bytes-big_number}
use Rattle.store_layout.specs.Logs.{is_read}
use Rattle.store_layout.specs.Checkpoints.{Section, sections_bytes, greatest_mark, AreSections, AreMarkedFrom, IsCheckpoint, is_sealed}
use Rattle.store_layout.specs.Faults.{version_in, generation_in, low_in, greatest_in, stripes_in, body_length_in, body_in, checkpoint_in, head_fault, size_fault}
use Rattle.store_layout.specs.OpeningLaws.{FieldsMakeCheckpoint}
use Rattle.store_layout.proofs.CheckpointFields.{fields}

some_not_none : (r : Refusal) → Some r ≡ None → ⊥
some_not_none r e = absurd cc

-- the number that stands here, and what is behind it
pub next_field : (n i : ℕ) (rest : List ℕ) → i + n ≤ length rest → IsBytes rest → drop i rest ≡ big_bytes n (big_number n (drop i rest)) ++ drop (i + n) rest
next_field n i rest long fits =
    let here : n ≤ length (drop i rest) = omega (arith, length-drop i rest, long) in
    sym (take-append-drop n (drop i rest))
    ∙ ap₂ (λ (x y : List ℕ). x ++ y) (sym (big_bytes-big_number n (drop i rest) here (IsBytes-drop i rest fits))) (drop-drop n i rest)

pub number_fits : (n i : ℕ) (rest : List ℕ) → IsBytes rest → big_number n (drop i rest) < 256 ^ n
number_fits n i rest fits = big_from-lt 0 n (drop i rest) (IsBytes-drop i rest fits)

-- ---- what the tests say

pub both_true : (x y : Bool) → (x && y) ≡ true → (x ≡ true) × (y ≡ true)
both_true true true e = (refl, refl)
both_true true false e = absurd cc
both_true false y e = absurd cc

pub read_version : (file : ℕ) (content : List ℕ) → is_sealed content ≡ true → head_fault file content ≡ None → is_read (version_in content) ≡ true
read_version file content s e = by (is_sealed content) (is_read (version_in content)) _ s e
  where
    by : (x one : Bool) (rest : Option Refusal) → x ≡ true → cond (not x) None (cond (not one) (Some WrongVersion) rest) ≡ None → one ≡ true
    by false one rest s e = absurd cc
    by true false rest s e = absurd (some_not_none WrongVersion e)
    by true true rest s e = refl

record IsSized (content : List ℕ) : Type 0 where
  stripes : is_stripe_count (stripes_in content) ≡ true
  inside : 36 + body_length_in content ≤ length content

sized : (file : ℕ) (content : List ℕ) → size_fault file content ≡ None → IsSized content
sized file content e = by (is_stripe_count (stripes_in content)) (nat_lt (length content) (36 + body_length_in content)) refl refl e
  where
    by : (x y : Bool) → is_stripe_count (stripes_in content) ≡ x → nat_lt (length content) (36 + body_length_in content) ≡ y
        → cond (not x) (Some (Damaged file 26)) (cond y (Some (Damaged file 28)) None) ≡ None → IsSized content
    by false y p q e = absurd (some_not_none (Damaged file 26) e)
    by true true p q e = absurd (some_not_none (Damaged file 28) e)
    by true false p q e = record { stripes = p; inside = grind (arith, nat_tests, q) }

-- ---- the checkpoint

module _ (layout : Layout) (file : ℕ) (sections : List Section) (first version : ℕ) (rest : List ℕ) where
  abbrev all : List ℕ
  all = first ∷ version ∷ rest

  made : IsBytes all → is_sealed all ≡ true → version ≡ layout.version → size_fault file all ≡ None → body_in all ≡ sections_bytes layout sections → length sections ≡ stripes_in all
      → AreSections layout (stripes_in all) 0 sections → greatest_mark sections ≡ greatest_in all → AreMarkedFrom (low_in all) sections → IsCheckpoint layout (checkpoint_in all sections) all
  made fits s one size body many are greatest marks =
      let tests = both_true (nat_le 36 (length all)) (first == 165) s in
      let open_gate : first ≡ 165 = eqb-true _ _ tests.1 in
      let sizes = sized file all size in
      let inside = sizes.inside in
      let long : 34 + body_length_in all ≤ length rest = omega (arith, inside) in
      let bytes = IsBytes-rest version rest (IsBytes-rest first (version ∷ rest) fits) in
      let whole : length (sections_bytes layout sections) ≡ body_length_in all =
      ap (λ (l : List ℕ). length l) (sym body) ∙ length-take-le (body_length_in all) (drop 34 rest) (omega (arith, length-drop 34 rest, long)) in
      let behind = drop (body_length_in all) (drop 34 rest) in
      let from_36 : drop 34 rest ≡ sections_bytes layout sections ++ behind = sym (take-append-drop (body_length_in all) (drop 34 rest)) ∙ ap (λ (l : List ℕ). l ++ behind) body in
      let from_28 = next_field 8 26 rest (omega (arith, long)) bytes ∙ ap₂ (λ (n : ℕ) (l : List ℕ). big_bytes 8 n ++ l) (sym whole) from_36 in
      let from_26 = next_field 2 24 rest (omega (arith, long)) bytes ∙ ap (λ (l : List ℕ). big_bytes 2 (stripes_in all) ++ l) from_28 in
      let from_18 = next_field 8 16 rest (omega (arith, long)) bytes ∙ ap₂ (λ (n : ℕ) (l : List ℕ). big_bytes 8 n ++ l) (sym greatest) from_26 in
      let from_10 = next_field 8 8 rest (omega (arith, long)) bytes ∙ ap (λ (l : List ℕ). big_bytes 8 (low_in all) ++ l) from_18 in
      let from_2 = next_field 8 0 rest (omega (arith, long)) bytes ∙ ap (λ (l : List ℕ). big_bytes 8 (generation_in all) ++ l) from_10 in
      let fits_g : generation_in all < 256 ^ 8 = number_fits 8 0 rest bytes in
      let fits_l : low_in all < 256 ^ 8 = number_fits 8 8 rest bytes in
      let fits_b : body_length_in all < 256 ^ 8 = number_fits 8 26 rest bytes in
      record {
        rest = behind;
        bytes = ap₂ (λ (x y : ℕ). x ∷ y ∷ rest) open_gate one ∙ ap (λ (l : List ℕ). 165 ∷ (layout.version ∷ l)) from_2 ∙ sym (fields layout (checkpoint_in all sections) behind);
        whole = record {
          generation_fits = omega (arith, fits_g);
          low_fits = omega (arith, fits_l);
          body_fits = omega (arith, fits_b, whole);
          stripes = sizes.stripes;
          one_each = many;
          sections = are;
          marks = marks;
        };
      }

pub fields_make : FieldsMakeCheckpoint
fields_make layout file [] sections fits s head = absurd (let tests = both_true (nat_le 36 0) false s in cc)
fields_make layout file (first ∷ []) sections fits s head = absurd (let tests = both_true (nat_le 36 1) (first == 165) s in cc)
fields_make layout file (first ∷ version ∷ rest) sections fits s head = made layout file sections first version rest fits s
