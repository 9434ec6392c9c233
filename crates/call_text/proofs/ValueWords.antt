-- What is read of numbers and values.
use Rattle.std.proofs.Common.{◌≡◌, ◌≢◌, ◌<◌, ℕ, ◌+◌, ◌*◌, ◌-◌, ◌^◌, ℤ, pos, negsuc, Bool, true, false, cond, ◌&&◌, List, [], ◌∷◌, length, Result, Ok, Err, Option, Some, None, nat_lt, zero, refl, sym, ◌∙◌, ap, rules, w64}
use Rattle.std.proofs.lemmas.Bool.{false≢true, eqb-true}
use Rattle.std.specs.Prelude.{FitsSigned}
use Rattle.std.specs.Result.{result_ok}
use Rattle.std.specs.Option.{ok_or}
use Rattle.std.specs.Prelude.{if◌then◌else◌}
use Rattle.std.specs.Fmt.{signed_decimal}
use Rattle.std.proofs.lemmas.Fmt.{parse-signed_decimal}
use lib.Signed.{mag}
use Rattle.std.specs.Str.{all_ascii_digits}
use Rattle.std.specs.Str.Parse.{signed_digits_value, without_leading_sign, IsNumeral, ParsesSigned}
use Rattle.std.proofs.lemmas.Str.Parse.{IsNumeralModel, numerals_by_fold}
use Rattle.call_text.specs.Values.{is_decimal, fits_i64, lettered, number_of}
use Rattle.call_text.specs.declared.bad_word.BadWord.TheVariants.{Value as NoValue}

abbrev read_on : ℕ → List ℕ → ℕ
read_on n [] = n
read_on n (c ∷ cs) = read_on (10 * n + (c - 48)) cs

pub own : IsNumeralModel (λ ds. all_ascii_digits ds ≡ true) (read_on 0)
own = numerals_by_fold _ (search rules) read_on (search rules)

pub both : (a b : Bool) → a ≡ true → b ≡ true → (a && b) ≡ true
both a b p q = search rules

pub left_of : (a b : Bool) → (a && b) ≡ true → a ≡ true
left_of true b h = refl
left_of false b h = h

pub right_of : (a b : Bool) → (a && b) ≡ true → b ≡ true
right_of true b h = h
right_of false b h = absurd (false≢true h)

decimal_is : (word : List ℕ) → IsNumeral 10 (without_leading_sign word) → is_decimal word ≡ true
decimal_is word h = both _ _ (search (rules, h.0)) (own.from (without_leading_sign word) h.1)

numeral_is : (word : List ℕ) → is_decimal word ≡ true → IsNumeral 10 (without_leading_sign word)
numeral_is word h =
    let some : nat_lt 0 (length (without_leading_sign word)) ≡ true = left_of _ (all_ascii_digits (without_leading_sign word)) h in
    let digits : all_ascii_digits (without_leading_sign word) ≡ true = right_of (nat_lt 0 (length (without_leading_sign word))) _ h in
    (search (rules, some), own.to (without_leading_sign word) digits)

fits_is : (number : ℤ) → FitsSigned w64 number → fits_i64 number ≡ true
fits_is (pos n) h = let p = h.sfits in search (rules, p)
fits_is (negsuc n) h = let p = h.sfits in search (rules, p)

is_fit : (number : ℤ) → fits_i64 number ≡ true → FitsSigned w64 number
is_fit (pos n) h = record { sfits = search (rules, h) }
is_fit (negsuc n) h = record { sfits = search (rules, h) }

pub choose_yes : {A : Type 0} (b : Bool) (x y : A) → b ≡ true → cond b x y ≡ x
choose_yes true x y h = refl
choose_yes false x y h = absurd (false≢true h)

pub choose_no : {A : Type 0} (b : Bool) (x y : A) → (b ≡ true → ⊥) → cond b x y ≡ y
choose_no true x y h = absurd (h refl)
choose_no false x y h = refl

pub number_gives : {E : Type 0} (word : List ℕ) (r : Result ℤ E) → ParsesSigned w64 10 word r → result_ok r ≡ number_of word
unfolding number_of
number_gives word (Ok number) h =
    ap Some h.1 ∙ sym (choose_yes _ _ _ (both _ _ (decimal_is word h.0.0) (fits_is _ h.0.1)))
number_gives word (Err error) h =
    sym (choose_no _ _ _ (λ e. h (numeral_is word (left_of _ (fits_i64 (signed_digits_value 10 word)) e), is_fit _ (right_of (is_decimal word) _ e))))

pub unlettered : (word : List ℕ) → ((rest : List ℕ) → word ≢ 105 ∷ rest) → ((rest : List ℕ) → word ≢ 116 ∷ rest) → lettered word ≡ Err NoValue
unlettered [] i t = refl
unlettered (letter ∷ rest) i t = choose_no _ _ _ (λ e. i rest (ap (λ c. c ∷ rest) (eqb-true letter 105 e))) ∙ choose_no _ _ _ (λ e. t rest (ap (λ c. c ∷ rest) (eqb-true letter 116 e)))

-- `number_of` is what `parse` gives
parses : {E : Type 0} (word : List ℕ) (e : E) → (b : Bool) → (is_decimal word && fits_i64 (signed_digits_value 10 word)) ≡ b → ParsesSigned w64 10 word (ok_or (if b then Some (signed_digits_value 10 word) else None) e)
parses word e true h = ((numeral_is word (left_of _ (fits_i64 (signed_digits_value 10 word)) h), is_fit _ (right_of (is_decimal word) _ h)), refl)
parses word e false h = λ p. false≢true (sym h ∙ both _ _ (decimal_is word p.0) (fits_is _ p.1))

small : (number : ℤ) → FitsSigned w64 number → mag number < 2 ^ 63
small number fits = fits.sfits

pub ok_inner : {X E : Type 0} (o : Option X) (e : E) (x : X) → ok_or o e ≡ Ok x → o ≡ Some x
ok_inner None e x h = cc
ok_inner (Some y) e x h = ap result_ok h

-- what is printed of a number is read as it
pub printed_number : (number : ℤ) → FitsSigned w64 number → number_of (signed_decimal number) ≡ Some number
unfolding number_of
printed_number number fits =
    ok_inner _ zero number (parse-signed_decimal w64 number (signed_decimal number) _ fits (small number fits) refl (parses (signed_decimal number) zero _ refl))
