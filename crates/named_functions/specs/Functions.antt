-- The table of the nine named functions of an old value, or absent, and an argument, or absent.
use Rattle.std.specs.Prelude.{ℕ, ◌^◌, Bool, ◌&&◌, Option, None, Some, Result, Ok, Err, List, ◌++◌, length, nat_le, ℤ}
use Rattle.std.specs.Prelude.{pos, neg_ℤ, ◌+ℤ◌, int_le, int_lt, if◌then◌else◌}
use Rattle.std.specs.Int.{int_max, int_min, int_wrap}
use Rattle.std.specs.Ordering.{int_eq}
use mir.Syntax.{w64}
use Rattle.map_types.specs.declared.commands.Func.{Func}
use Rattle.map_types.specs.declared.commands.Func.TheVariants.{Const, Drop, Keep, Max, Min, Concat, SumNonzero}
use Rattle.map_types.specs.declared.commands.Func.TheVariants.{SumExact}
use Rattle.map_types.specs.declared.commands.FuncError.{FuncError}
use Rattle.map_types.specs.declared.commands.FuncError.TheVariants.{WrongKind, TooLong, Overflow}
use Rattle.map_types.specs.declared.texts.Value.{Value}
use Rattle.map_types.specs.declared.texts.Value.TheVariants.{Int, Text}

-- A function of kind Int. If `old` is absent, the argument stands for the combination. `keep` makes the result of a
-- number.
abbrev pub on_numbers : (ℤ → ℤ → ℤ) → (ℤ → Option Value) → Option Value → Option Value → Result (Option Value) FuncError
on_numbers combine keep None (Some (Int b)) = Ok (keep b)
on_numbers combine keep (Some (Int a)) (Some (Int b)) = Ok (keep (combine a b))
on_numbers combine keep old arg = Err WrongKind

-- a text of at most 4,096 bytes
abbrev pub bounded_text : List ℕ → Result (Option Value) FuncError
bounded_text bytes = if nat_le (length bytes) 4096 then Ok (Some (Text bytes)) else Err TooLong

abbrev pub on_texts : Option Value → Option Value → Result (Option Value) FuncError
on_texts None (Some (Text b)) = Ok (Some (Text b))
on_texts (Some (Text a)) (Some (Text b)) = bounded_text (a ++ b)
on_texts old arg = Err WrongKind

-- -2^63 ≤ n and n < 2^63
abbrev pub has_64_signed_bits : ℤ → Bool
has_64_signed_bits n = int_le (neg_ℤ (pos (2 ^ 63))) n && int_lt n (pos (2 ^ 63))

-- the number, if it has 64 signed bits
abbrev pub exact_number : ℤ → Result (Option Value) FuncError
exact_number n = if has_64_signed_bits n then Ok (Some (Int n)) else Err Overflow

-- The sum, if it has 64 signed bits. If `old` is absent, the argument stands for it.
abbrev pub on_exact_numbers : Option Value → Option Value → Result (Option Value) FuncError
on_exact_numbers None (Some (Int b)) = Ok (Some (Int b))
on_exact_numbers (Some (Int a)) (Some (Int b)) = exact_number (a +ℤ b)
on_exact_numbers old arg = Err WrongKind

abbrev pub some_number : ℤ → Option Value
some_number n = Some (Int n)

abbrev pub nonzero_number : ℤ → Option Value
nonzero_number n = if int_eq n (pos 0) then None else Some (Int n)

-- the sum in 64 bits, which wraps
abbrev pub wrapping_sum : ℤ → ℤ → ℤ
wrapping_sum a b = int_wrap w64 (a +ℤ b)

-- how a function of kind Int combines two numbers, and what becomes of the result
abbrev pub combine_of : Func → ℤ → ℤ → ℤ
combine_of Max a b = int_max a b
combine_of Min a b = int_min a b
combine_of f a b = wrapping_sum a b

abbrev pub keep_of : Func → ℤ → Option Value
keep_of SumNonzero n = nonzero_number n
keep_of f n = some_number n

-- what function f gives for the old value, or absent, and the argument, or absent
abbrev pub apply : Func → Option Value → Option Value → Result (Option Value) FuncError
apply Const old arg = Ok arg
apply Drop old arg = Ok None
apply Keep old arg = Ok old
apply Concat old arg = on_texts old arg
apply SumExact old arg = on_exact_numbers old arg
apply f old arg = on_numbers (combine_of f) (keep_of f) old arg
