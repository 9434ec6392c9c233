-- The words of numbers and values.
use Rattle.std.specs.Prelude.{◌≡◌, ◌⊎◌, ◌^◌, ℤ, pos, negsuc, Bool, ◌&&◌, [], ◌∷◌, length, nat_lt, nat_le, ◌==◌}
use Rattle.std.specs.Prelude.{if◌then◌else◌, Option, Some, None, Result, Ok, Err, option_map, codes}
use Rattle.std.specs.Option.{ok_or}
use Rattle.std.specs.Fmt.{signed_decimal}
use Rattle.std.specs.Str.{all_ascii_digits, bytes_eq}
use Rattle.std.specs.Str.Parse.{signed_digits_value, without_leading_sign}
use Rattle.map_types.specs.declared.texts.Value.{Value}
use Rattle.map_types.specs.declared.texts.Value.TheVariants as value
use Rattle.call_text.specs.declared.bad_word.BadWord.{BadWord}
use Rattle.call_text.specs.declared.bad_word.BadWord.TheVariants.{Absent, Value as NoValue, TextTooLong}
use Rattle.call_text.specs.declared.bad_word.CallError.{CallError}
use Rattle.call_text.specs.declared.bad_word.CallError.TheVariants.{Bad, NoMemory}
use Rattle.call_text.specs.Names.{Text}

-- this was read, or the word is bad; or memory ran out
abbrev pub Gives : {X Y : Type 0} → (X → Y) → Result X CallError → Result Y BadWord → Type 0
Gives view (Ok x) read = read ≡ Ok (view x)
Gives view (Err error) read = (error ≡ NoMemory) ⊎ ((bad : BadWord) × (error ≡ Bad bad) × (read ≡ Err bad))

-- this first, and then the next
infixl 10 ◌>>=◌
abbrev pub ◌>>=◌ : {A B E : Type 0} → Result A E → (A → Result B E) → Result B E
(Ok x) >>= next = next x
(Err error) >>= next = Err error

-- digits, at least one, behind a sign or none
abbrev pub is_decimal : Text → Bool
is_decimal word = nat_lt 0 (length (without_leading_sign word)) && all_ascii_digits (without_leading_sign word)

-- `negsuc n` is the number -(n + 1)
abbrev pub fits_i64 : ℤ → Bool
fits_i64 (pos n) = nat_lt n (2 ^ 63)
fits_i64 (negsuc n) = nat_lt n (2 ^ 63)

-- the number of a decimal that fits 64 bits
unfoldable pub number_of : Text → Option ℤ
number_of word =
    if is_decimal word && fits_i64 (signed_digits_value 10 word) then Some (signed_digits_value 10 word) else None

abbrev pub int_of : Text → Result Value BadWord
int_of digits = ok_or (option_map value.Int (number_of digits)) NoValue

abbrev pub text_of : Text → Result Value BadWord
text_of text = if nat_le (length text) 4096 then Ok (value.Text text) else Err TextTooLong

-- the value behind its letter: `i` and a number, or `t` and a text
abbrev pub lettered : Text → Result Value BadWord
lettered [] = Err NoValue
lettered (letter ∷ rest) = if letter == 105 then int_of rest else if letter == 116 then text_of rest else Err NoValue

-- the value of a word, or absent for `_`
unfoldable pub argument_of : Text → Result (Option Value) BadWord
argument_of word = if bytes_eq word (codes "_") then Ok None else do
  found ← lettered word
  Ok (Some found)

-- the value of a word, which may not be absent
unfoldable pub value_of : Text → Result Value BadWord
value_of word = do
  found ← argument_of word
  ok_or found Absent

-- the word that is printed for a value, or for absent
abbrev pub value_word : Option Value → Text
value_word None = codes "_"
value_word (Some (value.Int number)) = 105 ∷ signed_decimal number
value_word (Some (value.Text text)) = 116 ∷ text
