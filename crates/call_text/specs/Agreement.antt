-- What is printed is read again, and each call has words.
use Rattle.std.specs.Prelude.{◌≡◌, ◌<◌, ◌≤◌, ◌^◌, true, length, FitsSigned, List, Option, Some, None, Ok}
use Rattle.std.specs.Int.{w64}
use Rattle.map_types.specs.Limits.{most_key_bytes}
use Rattle.map_types.specs.declared.texts.Value.{Value}
use Rattle.map_types.specs.declared.texts.Value.TheVariants.{Int, Text as IsText}
use Rattle.map_types.specs.declared.commands.Change.{Change}
use Rattle.map_types.specs.declared.commands.Change.TheVariants.{Put, PutIfAbsent, Remove, RemoveIf, Replace, ReplaceIf}
use Rattle.map_types.specs.declared.commands.Change.TheVariants.{Compute, ComputeIfAbsent, ComputeIfPresent, Merge}
use Rattle.map_types.specs.declared.commands.Question.{Question}
use Rattle.map_types.specs.declared.commands.Question.TheVariants.{Get, GetOrDefault, ContainsKey}
use Rattle.call_text.specs.declared.asked.Asked.{Asked}
use Rattle.call_text.specs.declared.asked.Asked.TheVariants as asked
use Rattle.call_text.specs.declared.called.Called.{Called}
use Rattle.call_text.specs.declared.called.Called.TheVariants as called
use Rattle.call_text.specs.Names.{Text}
use Rattle.call_text.specs.Values.{argument_of, value_word}
use Rattle.call_text.specs.Calls.{parse_call}
use Rattle.call_text.specs.Whole.{parse_words, reduces}

-- a number has 64 bits, and a text at most 4,096 bytes
abbrev pub IsValue : Value → Type 0
IsValue (Int number) = FitsSigned w64 number
IsValue (IsText text) = length text ≤ 4096

abbrev pub IsArgument : Option Value → Type 0
IsArgument None = Unit {0}
IsArgument (Some value) = IsValue value

-- each of its values is one; of a text the length alone is asked, not that it is UTF-8, as a record does
abbrev pub HasValues : Change → Type 0
HasValues (Put value) = IsValue value
HasValues (PutIfAbsent value) = IsValue value
HasValues Remove = Unit {0}
HasValues (RemoveIf value) = IsValue value
HasValues (Replace value) = IsValue value
HasValues (ReplaceIf old new) = IsValue old × IsValue new
HasValues (Compute func argument) = IsArgument argument
HasValues (ComputeIfAbsent func argument) = IsArgument argument
HasValues (ComputeIfPresent func argument) = IsArgument argument
HasValues (Merge func value) = IsValue value

abbrev pub IsQuestion : Question → Type 0
IsQuestion Get = Unit {0}
IsQuestion (GetOrDefault value) = IsValue value
IsQuestion ContainsKey = Unit {0}

-- its key has at most 4,095 bytes, and its values are values
abbrev pub IsAsked : Asked → Type 0
IsAsked (asked.Read read) = (length read.key ≤ most_key_bytes) × IsQuestion read.question
IsAsked (asked.Change command) = (length command.key ≤ most_key_bytes) × HasValues command.change

-- its threshold has 64 bits too, and a map is reduced by its function
abbrev pub IsCalled : Called → Type 0
IsCalled (called.Keyed asked) = IsAsked asked
IsCalled called.Count = Unit {0}
IsCalled (called.Reduce func threshold) = (reduces func ≡ true) × (threshold < 2 ^ 64)
IsCalled (called.Search threshold value) = (threshold < 2 ^ 64) × IsValue value

-- the word that is printed for a value is read as that value
abbrev pub PrintedIsRead : Type 0
PrintedIsRead = (value : Option Value) → IsArgument value → argument_of (value_word value) ≡ Ok value

-- there are words for each call
abbrev pub EachHasWords : Type 0
EachHasWords = (asked : Asked) → IsAsked asked → (words : List Text) × (parse_call words ≡ Ok asked)

-- the same of all calls
abbrev pub EachCallHasWords : Type 0
EachCallHasWords = (called : Called) → IsCalled called → (words : List Text) × (parse_words words ≡ Ok called)

-- words that are a call of a key are that call among all calls
abbrev pub KeyedIsCalled : Type 0
KeyedIsCalled =
    (words : List Text) (asked : Asked) → parse_call words ≡ Ok asked → parse_words words ≡ Ok (called.Keyed asked)
