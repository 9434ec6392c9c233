-- What is read of a number without a sign.
use Rattle.std.proofs.Common.{◌≡◌, ◌<◌, ℕ, ◌^◌, Bool, true, false, ◌&&◌, List, length, Result, Ok, Err, Some, None, nat_lt, zero, refl, sym, ◌∙◌, ap, rules}
use Rattle.std.proofs.lemmas.Bool.{false≢true}
use Rattle.std.proofs.lemmas.Fmt.{parse-decimal}
use Rattle.std.specs.Fmt.{decimal}
use Rattle.std.specs.Option.{ok_or}
use Rattle.std.specs.Prelude.{if◌then◌else◌}
use Rattle.std.specs.Result.{result_ok}
use Rattle.std.specs.Str.{all_ascii_digits}
use Rattle.std.specs.Str.Parse.{digits_value, without_leading_plus, IsNumeral, ParsesUnsigned}
use Rattle.call_text.specs.Whole.{is_unsigned, unsigned_of}
use Rattle.call_text.proofs.ValueWords.{both, choose_no, choose_yes, left_of, ok_inner, own, right_of}

pub unsigned_is : (word : List ℕ) → IsNumeral 10 (without_leading_plus word) → is_unsigned word ≡ true
unsigned_is word h = both _ _ (search (rules, h.0)) (own.from (without_leading_plus word) h.1)

pub numeral_is : (word : List ℕ) → is_unsigned word ≡ true → IsNumeral 10 (without_leading_plus word)
numeral_is word h =
    let some : nat_lt 0 (length (without_leading_plus word)) ≡ true = left_of _ (all_ascii_digits (without_leading_plus word)) h in
    let digits : all_ascii_digits (without_leading_plus word) ≡ true = right_of (nat_lt 0 (length (without_leading_plus word))) _ h in
    (search (rules, some), own.to (without_leading_plus word) digits)

pub below : (m n : ℕ) → m < n → nat_lt m n ≡ true
below m n h = search (rules, h)

pub is_below : (m n : ℕ) → nat_lt m n ≡ true → m < n
is_below m n h = search (rules, h)

pub unsigned_gives : {E : Type 0} (word : List ℕ) (r : Result ℕ E) → ParsesUnsigned 64 10 word r → result_ok r ≡ unsigned_of word
unfolding unsigned_of
unsigned_gives word (Ok number) h =
    ap Some h.1 ∙ sym (choose_yes _ _ _ (both _ _ (unsigned_is word h.0.0) (below _ _ h.0.1)))
unsigned_gives word (Err error) h =
    let value = digits_value 10 (without_leading_plus word) in
    sym (choose_no _ _ _ (λ e. h (numeral_is word (left_of _ (nat_lt value (2 ^ 64)) e), is_below _ _ (right_of (is_unsigned word) _ e))))

-- `unsigned_of` is what `parse` gives
parses : {E : Type 0} (word : List ℕ) (e : E) → (b : Bool) → (is_unsigned word && nat_lt (digits_value 10 (without_leading_plus word)) (2 ^ 64)) ≡ b
    → ParsesUnsigned 64 10 word (ok_or (if b then Some (digits_value 10 (without_leading_plus word)) else None) e)
parses word e true h =
    let value = digits_value 10 (without_leading_plus word) in
    ((numeral_is word (left_of _ (nat_lt value (2 ^ 64)) h), is_below _ _ (right_of (is_unsigned word) _ h)), refl)
parses word e false h = λ p. false≢true (sym h ∙ both _ _ (unsigned_is word p.0) (below _ _ p.1))

-- what is printed of a number is read as it
pub printed_threshold : (number : ℕ) → number < 2 ^ 64 → unsigned_of (decimal number) ≡ Some number
unfolding unsigned_of
printed_threshold number fits =
    ok_inner _ zero number (parse-decimal 64 number (decimal number) _ fits fits refl (parses (decimal number) zero _ refl))
