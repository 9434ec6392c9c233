-- The words of script lines, but for those of calls.
use Rattle.std.specs.Prelude.{◌≡◌, ◌+◌, ◌*◌, ◌-◌, ◌^◌, ◌⊎◌, ℕ, Bool, true, false, ◌&&◌, [], ◌∷◌, nat_lt, nat_le}
use Rattle.std.specs.Prelude.{if◌then◌else◌, Option, Some, None, Result, Ok, Err, refl, codes}
use Rattle.std.specs.Option.{ok_or}
use Rattle.std.specs.Str.{bytes_eq}
use Rattle.std.specs.Str.Parse.{digits_value, without_leading_plus}
use Rattle.java_hash.specs.Stripes.{is_stripe_count}
use Rattle.java_hash.specs.declared.stripe_count.StripeCount.{StripeCount}
use Rattle.disk_model.specs.declared.fill.Fill.{Fill}
use Rattle.disk_model.specs.declared.fill.Fill.TheVariants.{Old, New, Byte}
use Rattle.call_text.specs.Names.{Text}
use Rattle.call_text.specs.Values.{◌>>=◌}
use Rattle.call_text.specs.Whole.{is_unsigned}
use Rattle.sim_script.specs.declared.bad_line.BadLine.{BadLine}
use Rattle.sim_script.specs.declared.bad_line.BadLine.TheVariants.{Number, Worker, Stripes, Fill as NoFill}
use Rattle.sim_script.specs.declared.bad_line.LineError.{LineError}
use Rattle.sim_script.specs.declared.bad_line.LineError.TheVariants.{Bad, NoMemory}

-- this was read, or the line is bad; or memory ran out
abbrev pub Gives : {X Y : Type 0} → (X → Y) → Result X LineError → Result Y BadLine → Type 0
Gives view (Ok x) read = read ≡ Ok (view x)
Gives view (Err error) read = (error ≡ NoMemory) ⊎ ((fault : BadLine) × (error ≡ Bad fault) × (read ≡ Err fault))

-- the number of a decimal that fits `bits` bits
unfoldable pub number_of : ℕ → Text → Option ℕ
number_of bits word =
    if is_unsigned word && nat_lt (digits_value 10 (without_leading_plus word)) (2 ^ bits) then Some
    (digits_value 10 (without_leading_plus word)) else None

abbrev pub number_word : ℕ → Text → Result ℕ BadLine
number_word bits word = ok_or (number_of bits word) Number

-- the workers are 0 to 63
abbrev pub below_64 : ℕ → Result ℕ BadLine
below_64 number = if nat_lt number 64 then Ok number else Err Worker

unfoldable pub worker_of : Text → Result ℕ BadLine
worker_of word = do
  number ← ok_or (number_of 64 word) Worker
  below_64 number

-- `count` stripes, if that is allowed
unfoldable pub counted : (count : ℕ) (allowed : Bool) → is_stripe_count count ≡ allowed → Result StripeCount BadLine
counted count true allowed = Ok (record { count = count; allowed = allowed })
counted count false not_allowed = Err Stripes

unfoldable pub stripes_of : Text → Result StripeCount BadLine
stripes_of word = do
  count ← ok_or (number_of 16 word) Stripes
  counted count (is_stripe_count count) refl

-- the value of a hexadecimal digit, of either case
abbrev pub hexadecimal_digit : ℕ → Option ℕ
hexadecimal_digit byte =
    if nat_le 48 byte && nat_le byte 57 then Some (byte - 48)
    else if nat_le 97 byte && nat_le byte 102 then Some (byte - 97 + 10)
    else if nat_le 65 byte && nat_le byte 70 then Some (byte - 65 + 10)
    else None

abbrev pub joined : Option ℕ → Option ℕ → Option ℕ
joined (Some high) (Some low) = Some (16 * high + low)
joined high low = None

-- the byte of two hexadecimal digits
abbrev pub byte_of : Text → Option ℕ
byte_of (high ∷ low ∷ []) = joined (hexadecimal_digit high) (hexadecimal_digit low)
byte_of word = None

abbrev pub byte_fill : Option ℕ → Result Fill BadLine
byte_fill (Some byte) = Ok (Byte byte)
byte_fill None = Err NoFill

unfoldable pub fill_of : Text → Result Fill BadLine
fill_of word =
    if bytes_eq word (codes "old") then Ok Old
    else if bytes_eq word (codes "new") then Ok New
    else byte_fill (byte_of word)
