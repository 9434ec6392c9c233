-- The first bytes of a file, and its head.
use Rattle.std.proofs.Common.{◌≡◌, ◌≢◌, ◌≤◌, ℕ, ◌+◌, ◌%◌, Bool, true, false, not, cond, ◌&&◌, ◌==◌, nat_le, None, Some, List, length, take, drop, slice_index_or, refl, sym, ap, subst, ◌∙◌, arith}
use Rattle.std.proofs.lemmas.Bool.Decides.{nat_tests}
use Rattle.std.proofs.lemmas.List.{drop-take, get_or-take}
use Rattle.byteorder.specs.Endian.{big_from}
use Rattle.byteorder.specs.Numbers.{big_from-take}
use Rattle.map_types.specs.declared.refusals.Refusal.TheVariants.{Damaged, WrongVersion}
use Rattle.store_layout.specs.Checkpoints.{is_sealed}
use Rattle.store_layout.specs.Logs.{is_read}
use Rattle.store_layout.specs.Faults.{generation_in, head_fault, number_in, version_in}
use Rattle.checkpoint_file.specs.declared.head.Head.{Head}
use Rattle.checkpoint_file.specs.Heads.{HasFields}

module _ (buf content : List ℕ) (same : take 36 buf ≡ take 36 content) where
  pub byte_kept : (i : ℕ) → i + 1 ≤ 36 → slice_index_or buf i 0 ≡ slice_index_or content i 0
  byte_kept i h = sym (get_or-take 36 buf i 0 (omega (arith, h))) ∙ ap (λ (l : List ℕ). slice_index_or l i 0) same ∙ get_or-take 36 content i 0 (omega (arith, h))

  -- a number within them
  pub number_kept : (n k m : ℕ) → n ≤ m → k + m ≡ 36 → number_in n k buf ≡ number_in n k content
  number_kept n k m h whole = side buf ∙ ap (λ (l : List ℕ). big_from 0 n (drop k l)) (subst (λ j. take j buf ≡ take j content) (sym whole) same) ∙ sym (side content)
    where
      side : (xs : List ℕ) → number_in n k xs ≡ big_from 0 n (drop k (take (k + m) xs))
      side xs = sym (big_from-take 0 n m (drop k xs) (omega (arith, h))) ∙ ap (λ (l : List ℕ). big_from 0 n l) (sym (drop-take k m xs))

  pub fields_kept : (head : Head) → HasFields head buf → HasFields head content
  fields_kept head has = record {
    generation = has.generation ∙ number_kept 8 2 34 (omega arith) refl;
    low = has.low ∙ number_kept 8 10 26 (omega arith) refl;
    greatest = has.greatest ∙ number_kept 8 18 18 (omega arith) refl;
    stripes = has.stripes ∙ number_kept 2 26 10 (omega arith) refl;
    body = has.body ∙ number_kept 8 28 8 (omega arith) refl;
  }

-- all of them were read
pub whole_read : (buf content : List ℕ) (count : ℕ) → 36 ≤ count → count ≤ 36 → take count buf ≡ take count (drop 0 content) → take 36 buf ≡ take 36 content
whole_read buf content count low high read =
    let is : count ≡ 36 = omega (arith, low, high) in
    subst (λ n. take n buf ≡ take n content) is read

pub opened : (content : List ℕ) → 36 ≤ length content → slice_index_or content 0 0 ≡ 165 → is_sealed content ≡ true
opened content long first = both (nat_le 36 (length content)) (slice_index_or content 0 0 == 165) (grind (arith, nat_tests)) (grind (arith, nat_tests))
  where
    both : (a b : Bool) → a ≡ true → b ≡ true → (a && b) ≡ true
    both true b p q = q
    both false b p q = p

same_test : (x y : ℕ) → x ≡ y → (x == y) ≡ true
same_test x y e = grind (arith, nat_tests)

other_test : (x y : ℕ) → x ≢ y → (x == y) ≡ false
other_test x y e = grind (arith, nat_tests)

pub faultless : (file : ℕ) (content : List ℕ) → is_sealed content ≡ true → is_read (version_in content) ≡ true → generation_in content % 2 ≡ file → head_fault file content ≡ None
faultless file content s v g = by (is_sealed content) (is_read (version_in content)) (generation_in content % 2 == file) s v (same_test (generation_in content % 2) file g)
  where
    by : (x y z : Bool) → x ≡ true → y ≡ true → z ≡ true → cond (not x) None (cond (not y) (Some WrongVersion) (cond (not z) (Some (Damaged file 2)) None)) ≡ None
    by true true true p q r = refl
    by true true false p q r = absurd cc
    by true false z p q r = absurd cc
    by false y z p q r = absurd cc

pub misplaced : (file : ℕ) (content : List ℕ) → is_sealed content ≡ true → is_read (version_in content) ≡ true → generation_in content % 2 ≢ file → head_fault file content ≡ Some (Damaged file 2)
misplaced file content s v g = by (is_sealed content) (is_read (version_in content)) (generation_in content % 2 == file) s v (other_test (generation_in content % 2) file g)
  where
    by : (x y z : Bool) → x ≡ true → y ≡ true → z ≡ false → cond (not x) None (cond (not y) (Some WrongVersion) (cond (not z) (Some (Damaged file 2)) None)) ≡ Some (Damaged file 2)
    by true true false p q r = refl
    by true true true p q r = absurd cc
    by true false z p q r = absurd cc
    by false y z p q r = absurd cc
