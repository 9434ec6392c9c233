-- What is read of numbers.
use Rattle.std.proofs.Common.{◌≡◌, ℕ, ◌^◌, Bool, true, false, List, Result, Ok, Err, Option, Some, nat_lt, refl, sym, ◌∙◌, ap, subst}
use Rattle.std.specs.Result.{result_ok}
use Rattle.std.specs.Str.Parse.{digits_value, without_leading_plus, ParsesUnsigned}
use Rattle.std.proofs.Math.Bool.{Bool-set}
use Rattle.std.proofs.lemmas.Bool.{false≢true}
use Rattle.java_hash.specs.Stripes.{is_stripe_count}
use Rattle.java_hash.specs.declared.stripe_count.StripeCount.{StripeCount}
use Rattle.std.specs.Option.{ok_or}
use Rattle.call_text.specs.Values.{◌>>=◌}
use Rattle.call_text.specs.Whole.{is_unsigned}
use Rattle.call_text.proofs.ValueWords.{both, choose_no, choose_yes, left_of, right_of}
use Rattle.call_text.proofs.Thresholds.{unsigned_is, numeral_is, below, is_below}
use Rattle.sim_script.specs.declared.bad_line.BadLine.{BadLine}
use Rattle.sim_script.specs.declared.bad_line.BadLine.TheVariants.{Stripes}
use Rattle.sim_script.specs.LineWords.{counted, number_of, stripes_of}

pub number_gives : {E : Type 0} (bits : ℕ) (word : List ℕ) (r : Result ℕ E) → ParsesUnsigned bits 10 word r → result_ok r ≡ number_of bits word
unfolding number_of
number_gives bits word (Ok number) h =
    ap Some h.1 ∙ sym (choose_yes _ _ _ (both _ _ (unsigned_is word h.0.0) (below _ _ h.0.1)))
number_gives bits word (Err error) h =
    let value = digits_value 10 (without_leading_plus word) in
    sym (choose_no _ _ _ (λ e. h (numeral_is word (left_of _ (nat_lt value (2 ^ bits)) e), is_below _ _ (right_of (is_unsigned word) _ e))))

-- ---- numbers of stripes

one_proof : (b : Bool) (p q : b ≡ true) → p ≡ q
one_proof b p q = Bool-set b true p q

counted_itself : (stripes : StripeCount) (b : Bool) (e : is_stripe_count stripes.count ≡ b) → counted stripes.count b e ≡ Ok stripes
unfolding counted
counted_itself stripes true e = ap (λ p. Ok (record { count = stripes.count; allowed = p })) (one_proof _ e stripes.allowed)
counted_itself stripes false e = absurd (false≢true (sym e ∙ stripes.allowed))

pub counted_is : (count : ℕ) (stripes : StripeCount) → stripes.count ≡ count → (b : Bool) (e : is_stripe_count count ≡ b) → counted count b e ≡ Ok stripes
counted_is count stripes same = subst (λ n. (b : Bool) (e : is_stripe_count n ≡ b) → counted n b e ≡ Ok stripes) same (counted_itself stripes)

pub counted_not : (count : ℕ) → (is_stripe_count count ≡ true → ⊥) → (b : Bool) (e : is_stripe_count count ≡ b) → counted count b e ≡ Err Stripes
unfolding counted
counted_not count refused true e = absurd (refused e)
counted_not count refused false e = refl

abbrev counted_from : Option ℕ → Result StripeCount BadLine
counted_from number = ok_or number Stripes >>= λ count. counted count (is_stripe_count count) refl

pub stripes_found : (word : List ℕ) (count : ℕ) (stripes : StripeCount) → Some count ≡ number_of 16 word → stripes.count ≡ count → stripes_of word ≡ Ok stripes
unfolding stripes_of
stripes_found word count stripes found same = ap counted_from (sym found) ∙ counted_is count stripes same _ refl

pub stripes_refused : (word : List ℕ) (count : ℕ) → Some count ≡ number_of 16 word → (is_stripe_count count ≡ true → ⊥) → stripes_of word ≡ Err Stripes
unfolding stripes_of
stripes_refused word count found refused = ap counted_from (sym found) ∙ counted_not count refused _ refl
