-- The grammar of values and of records of changes: the one spelling of each.
use Rattle.std.specs.Prelude.{◌≡◌, ◌≤◌, ℕ, List, [], ◌∷◌, ◌++◌, length, Option, Some, None, FitsSigned}
use Rattle.std.specs.Int.{w64, cast_unsigned}
use Rattle.std.specs.Str.{IsUtf8}
use Rattle.byteorder.specs.Endian.{big_bytes}
use Rattle.map_types.specs.Numbers.{func_number}
use Rattle.map_types.specs.declared.texts.Value.{Value}
use Rattle.map_types.specs.declared.texts.Value.TheVariants.{Int, Text}
use Rattle.map_types.specs.declared.commands.Change.{Change}
use Rattle.map_types.specs.declared.commands.Change.TheVariants.{Put, PutIfAbsent, Remove, RemoveIf, Replace, ReplaceIf}
use Rattle.map_types.specs.declared.commands.Change.TheVariants.{Compute, ComputeIfAbsent, ComputeIfPresent, Merge}
use Rattle.map_types.specs.declared.commands.Command.{Command}
use Rattle.log_records.specs.Layout.{Layout, most_text_bytes}
use Rattle.log_records.specs.Methods.{method_number, method_of}

-- a text behind its length of `width` bytes
abbrev pub sized_bytes : ℕ → List ℕ → List ℕ
sized_bytes width text = big_bytes width (length text) ++ text

abbrev pub key_bytes : Layout → List ℕ → List ℕ
key_bytes layout key = sized_bytes layout.key_width key

-- a value, or absent
abbrev pub value_bytes : Option Value → List ℕ
value_bytes None = 0 ∷ []
value_bytes (Some (Int number)) = 1 ∷ big_bytes 8 (cast_unsigned w64 number)
value_bytes (Some (Text text)) = 2 ∷ sized_bytes 2 text

-- the arguments of a change, behind its key
abbrev pub argument_bytes : Change → List ℕ
argument_bytes (Put value) = value_bytes (Some value)
argument_bytes (PutIfAbsent value) = value_bytes (Some value)
argument_bytes Remove = []
argument_bytes (RemoveIf value) = value_bytes (Some value)
argument_bytes (Replace value) = value_bytes (Some value)
argument_bytes (ReplaceIf old new) = value_bytes (Some old) ++ value_bytes (Some new)
argument_bytes (Compute func argument) = func_number func ∷ value_bytes argument
argument_bytes (ComputeIfAbsent func argument) = func_number func ∷ value_bytes argument
argument_bytes (ComputeIfPresent func argument) = func_number func ∷ value_bytes argument
argument_bytes (Merge func value) = func_number func ∷ value_bytes (Some value)

abbrev pub record_bytes : Layout → Command → List ℕ
record_bytes layout command =
    method_number (method_of command.change) ∷ (key_bytes layout command.key ++ argument_bytes command.change)

-- each has a spelling
abbrev pub Any : {A : Type 0} → A → Type 0
Any x = Unit {0}

-- a text of at most `most` bytes
abbrev pub IsText : ℕ → List ℕ → Type 0
IsText most text = (length text ≤ most) × IsUtf8 text

-- a number of 64 bits with its sign, or a text of at most 4,096 bytes
abbrev pub IsValue : Value → Type 0
IsValue (Int number) = FitsSigned w64 number
IsValue (Text text) = IsText most_text_bytes text

abbrev pub IsArgument : Option Value → Type 0
IsArgument None = Unit {0}
IsArgument (Some value) = IsValue value

abbrev pub IsChange : Change → Type 0
IsChange (Put value) = IsValue value
IsChange (PutIfAbsent value) = IsValue value
IsChange Remove = Unit {0}
IsChange (RemoveIf value) = IsValue value
IsChange (Replace value) = IsValue value
IsChange (ReplaceIf old new) = IsValue old × IsValue new
IsChange (Compute func argument) = IsArgument argument
IsChange (ComputeIfAbsent func argument) = IsArgument argument
IsChange (ComputeIfPresent func argument) = IsArgument argument
IsChange (Merge func value) = IsValue value

-- a command whose key is within the layout's limit
abbrev pub IsCommand : Layout → Command → Type 0
IsCommand layout command = IsText layout.key_limit command.key × IsChange command.change

-- the bytes are the record of this command, and of nothing else
pub record IsRecord (layout : Layout) (bytes : List ℕ) (command : Command) : Type 0 where
  pub fits : IsCommand layout command
  pub spelled : bytes ≡ record_bytes layout command
