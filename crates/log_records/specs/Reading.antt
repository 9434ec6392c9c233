-- Reading from left to right, with the first refusal that is met. Each reader gives what it read and the bytes behind
-- it.
use Rattle.std.specs.Prelude.{◌≡◌, ◌⊎◌, ◌<◌, ◌+◌, ◌^◌, ℕ, ℤ, zero, suc, List, [], ◌∷◌, length, take, drop, Option, Some}
use Rattle.std.specs.Prelude.{None, Result, Ok, Err, nat_lt, ◌==◌, if◌then◌else◌}
use Rattle.std.specs.Int.{w64, cast_signed}
use Rattle.std.specs.Str.{is_utf8}
use Rattle.byteorder.specs.Endian.{big_number}
use Rattle.map_types.specs.Numbers.{func_number}
use Rattle.map_types.specs.declared.refusals.Refusal.{Refusal}
use Rattle.map_types.specs.declared.refusals.Refusal.TheVariants.{NullValue, KeyTooLong, ValueTooLong, UnknownMethod}
use Rattle.map_types.specs.declared.refusals.Refusal.TheVariants.{UnknownFunction, BadFrame, NoMemory, NotText}
use Rattle.map_types.specs.declared.texts.Value.{Value}
use Rattle.map_types.specs.declared.texts.Value.TheVariants.{Int, Text}
use Rattle.map_types.specs.declared.commands.Func.{Func}
use Rattle.map_types.specs.declared.commands.Change.{Change}
use Rattle.map_types.specs.declared.commands.Change.TheVariants as change
use Rattle.map_types.specs.declared.commands.Command.{Command}
use Rattle.log_records.specs.declared.methods.Method.{Method}
use Rattle.log_records.specs.declared.methods.Method.TheVariants.{Put, PutIfAbsent, Remove, RemoveIf, Replace}
use Rattle.log_records.specs.declared.methods.Method.TheVariants.{ReplaceIf, Compute, ComputeIfAbsent, ComputeIfPresent}
use Rattle.log_records.specs.declared.methods.Method.TheVariants.{Merge}
use Rattle.log_records.specs.Layout.{Layout, most_text_bytes}
use Rattle.log_records.specs.Methods.{method_number, all_methods, all_funcs}

infixl 10 ◌>>=◌
abbrev pub ◌>>=◌ : {A B : Type 0} → Result A Refusal → (A → Result B Refusal) → Result B Refusal
(Ok x) >>= next = next x
(Err refusal) >>= next = Err refusal

-- what a function returned, seen by view, is what reading gives
abbrev pub Reads : {X Y : Type 0} → (X → Y) → Result X Refusal → Result Y Refusal → Type 0
Reads view (Ok x) read = read ≡ Ok (view x)
Reads view (Err refusal) read = read ≡ Err refusal

-- the same, unless memory ran out
abbrev pub Gives : {X Y : Type 0} → (X → Y) → Result X Refusal → Result Y Refusal → Type 0
Gives view (Ok x) read = read ≡ Ok (view x)
Gives view (Err refusal) read = (refusal ≡ NoMemory) ⊎ (read ≡ Err refusal)

-- what was read, made into something else
abbrev pub made : {A B : Type 0} → (A → B) → Result (A × List ℕ) Refusal → Result (B × List ℕ) Refusal
made make read = do
  x ← read
  Ok (make x.0, x.1)

-- one field, and then another
abbrev pub both_at : {A B : Type 0} → (List ℕ → Result (A × List ℕ) Refusal) → (List ℕ → Result (B × List ℕ) Refusal)
    → List ℕ → Result ((A × B) × List ℕ) Refusal
both_at first_at second_at bytes = do
  x ← first_at bytes
  y ← second_at x.1
  Ok ((x.0, y.0), y.1)

-- the one of these that has the number
unfoldable pub numbered : {A : Type 0} → (A → ℕ) → Refusal → List A → ℕ → Result A Refusal
numbered number_of unknown [] number = Err unknown
numbered number_of unknown (x ∷ rest) number =
    if number_of x == number then Ok x else numbered number_of unknown rest number

-- a number of `width` bytes
unfoldable pub number_at : ℕ → List ℕ → Result (ℕ × List ℕ) Refusal
number_at width bytes =
    if nat_lt (length bytes) width then Err BadFrame
    else Ok (big_number width bytes, drop width bytes)

abbrev pub utf8_of : List ℕ → Result (List ℕ) Refusal
utf8_of bytes = if is_utf8 bytes then Ok bytes else Err NotText

-- a text of `len` bytes
unfoldable pub text_at : ℕ → List ℕ → Result (List ℕ × List ℕ) Refusal
text_at len bytes =
    if nat_lt (length bytes) len then Err BadFrame
    else (utf8_of (take len bytes) >>= λ text. Ok (text, drop len bytes))

-- a text behind its length of `width` bytes; a length above `most` is refused as soon as it is read
unfoldable pub sized_at : ℕ → ℕ → Refusal → List ℕ → Result (List ℕ × List ℕ) Refusal
sized_at width most too_long bytes = do
  len ← number_at width bytes
  if nat_lt most len.0 then Err too_long else text_at len.0 len.1

unfoldable pub key_at : Layout → List ℕ → Result (List ℕ × List ℕ) Refusal
key_at layout bytes = sized_at layout.key_width layout.key_limit KeyTooLong bytes

unfoldable pub int_at : List ℕ → Result (ℤ × List ℕ) Refusal
int_at bytes = made (λ bits. cast_signed w64 bits) (number_at 8 bytes)

-- a value, or absent
unfoldable pub value_at : List ℕ → Result (Option Value × List ℕ) Refusal
value_at [] = Err BadFrame
value_at (zero ∷ rest) = Ok (None, rest)
value_at (suc zero ∷ rest) = made (λ number. Some (Int number)) (int_at rest)
value_at (suc (suc zero) ∷ rest) = made (λ text. Some (Text text)) (sized_at 2 most_text_bytes ValueTooLong rest)
value_at (suc (suc (suc kind)) ∷ rest) = Err BadFrame

abbrev pub present : Option Value → Result Value Refusal
present None = Err NullValue
present (Some value) = Ok value

-- a value that may not be absent
unfoldable pub some_value_at : List ℕ → Result (Value × List ℕ) Refusal
some_value_at bytes = do
  read ← value_at bytes
  value ← present read.0
  Ok (value, read.1)

-- a byte that is the number of one of these
unfoldable pub numbered_at : {A : Type 0} → (A → ℕ) → Refusal → List A → List ℕ → Result (A × List ℕ) Refusal
numbered_at number_of unknown all [] = Err BadFrame
numbered_at number_of unknown all (number ∷ rest) = do
  x ← numbered number_of unknown all number
  Ok (x, rest)

abbrev pub func_at : List ℕ → Result (Func × List ℕ) Refusal
func_at bytes = numbered_at func_number UnknownFunction all_funcs bytes

abbrev pub method_at : List ℕ → Result (Method × List ℕ) Refusal
method_at bytes = numbered_at method_number UnknownMethod all_methods bytes

-- the arguments of a method
unfoldable pub change_at : Method → List ℕ → Result (Change × List ℕ) Refusal
change_at Put bytes = made (λ value. change.Put value) (some_value_at bytes)
change_at PutIfAbsent bytes = made (λ value. change.PutIfAbsent value) (some_value_at bytes)
change_at Remove bytes = Ok (change.Remove, bytes)
change_at RemoveIf bytes = made (λ value. change.RemoveIf value) (some_value_at bytes)
change_at Replace bytes = made (λ value. change.Replace value) (some_value_at bytes)
change_at ReplaceIf bytes =
    made (λ values. change.ReplaceIf values.0 values.1) (both_at some_value_at some_value_at bytes)
change_at Compute bytes = made (λ call. change.Compute call.0 call.1) (both_at func_at value_at bytes)
change_at ComputeIfAbsent bytes = made (λ call. change.ComputeIfAbsent call.0 call.1) (both_at func_at value_at bytes)
change_at ComputeIfPresent bytes = made (λ call. change.ComputeIfPresent call.0 call.1) (both_at func_at value_at bytes)
change_at Merge bytes = made (λ call. change.Merge call.0 call.1) (both_at func_at some_value_at bytes)

-- a record: the method, the key, the arguments
unfoldable pub record_at : Layout → List ℕ → Result (Command × List ℕ) Refusal
record_at layout bytes = do
  method ← method_at bytes
  key ← key_at layout method.1
  arguments ← change_at method.0 key.1
  Ok (record { key = key.0; change = arguments.0 }, arguments.1)

-- the refusals that a record can meet; a key is too long only where its length can say more than the limit
abbrev pub IsRecordRefusal : Layout → Refusal → Type 0
IsRecordRefusal layout NullValue = Unit {0}
IsRecordRefusal layout KeyTooLong = layout.key_limit + 1 < 256 ^ layout.key_width
IsRecordRefusal layout ValueTooLong = Unit {0}
IsRecordRefusal layout UnknownMethod = Unit {0}
IsRecordRefusal layout UnknownFunction = Unit {0}
IsRecordRefusal layout BadFrame = Unit {0}
IsRecordRefusal layout NoMemory = Unit {0}
IsRecordRefusal layout NotText = Unit {0}
IsRecordRefusal layout _ = ⊥
