-- The words of calls.
use Rattle.std.specs.Prelude.{List, [], ◌∷◌, length, nat_le, if◌then◌else◌, Option, Result, Ok, Err}
use Rattle.std.specs.Option.{ok_or}
use Rattle.map_types.specs.Limits.{most_key_bytes}
use Rattle.map_types.specs.declared.commands.Func.{Func}
use Rattle.map_types.specs.declared.commands.Change.{Change}
use Rattle.map_types.specs.declared.commands.Change.TheVariants as change
use Rattle.map_types.specs.declared.commands.Question.{Question}
use Rattle.map_types.specs.declared.commands.Question.TheVariants as question
use Rattle.map_types.specs.declared.texts.Value.{Value}
use Rattle.call_text.specs.declared.asked.Asked.{Asked}
use Rattle.call_text.specs.declared.asked.Asked.TheVariants as asked
use Rattle.call_text.specs.declared.bad_word.BadWord.{BadWord}
use Rattle.call_text.specs.declared.bad_word.BadWord.TheVariants.{Count, Function as NoFunction, KeyTooLong}
use Rattle.call_text.specs.declared.bad_word.BadWord.TheVariants.{Method as NoMethod}
use Rattle.call_text.specs.declared.names.ReadMethod.{ReadMethod}
use Rattle.call_text.specs.declared.names.ReadMethod.TheVariants.{Get, GetOrDefault, ContainsKey}
use Rattle.call_text.specs.declared.names.ChangeMethod.{ChangeMethod}
use Rattle.call_text.specs.declared.names.ChangeMethod.TheVariants.{Put, PutIfAbsent, Remove, RemoveIf, Replace}
use Rattle.call_text.specs.declared.names.ChangeMethod.TheVariants.{ReplaceIf, Compute, ComputeIfAbsent}
use Rattle.call_text.specs.declared.names.ChangeMethod.TheVariants.{ComputeIfPresent, Merge}
use Rattle.call_text.specs.declared.names.Method.{Method}
use Rattle.call_text.specs.declared.names.Method.TheVariants.{Read, Change as Changes}
use Rattle.call_text.specs.Names.{Text, func_named, method_named}
use Rattle.call_text.specs.Values.{◌>>=◌, argument_of, value_of}

-- the key of a word
abbrev pub key_of : Text → Result Text BadWord
key_of word = if nat_le (length word) most_key_bytes then Ok word else Err KeyTooLong

-- ---- the words behind a key, by how many values they are

abbrev pub no_word : List Text → Result (Unit {0}) BadWord
no_word [] = Ok tt
no_word (word ∷ words) = Err Count

unfoldable pub one_value : List Text → Result Value BadWord
one_value (word ∷ []) = value_of word
one_value words = Err Count

unfoldable pub two_values : List Text → Result (Value × Value) BadWord
two_values (first ∷ second ∷ []) = do
  old ← value_of first
  new ← value_of second
  Ok (old, new)
two_values words = Err Count

abbrev pub func_of : Text → Result Func BadWord
func_of word = ok_or (func_named word) NoFunction

unfoldable pub func_and_argument : List Text → Result (Func × Option Value) BadWord
func_and_argument (first ∷ second ∷ []) = do
  func ← func_of first
  argument ← argument_of second
  Ok (func, argument)
func_and_argument words = Err Count

unfoldable pub func_and_value : List Text → Result (Func × Value) BadWord
func_and_value (first ∷ second ∷ []) = do
  func ← func_of first
  value ← value_of second
  Ok (func, value)
func_and_value words = Err Count

-- ---- a method, and the words behind its key

unfoldable pub question_of : ReadMethod → List Text → Result Question BadWord
question_of Get words = do
  none ← no_word words
  Ok question.Get
question_of GetOrDefault words = do
  value ← one_value words
  Ok (question.GetOrDefault value)
question_of ContainsKey words = do
  none ← no_word words
  Ok question.ContainsKey

unfoldable pub change_of : ChangeMethod → List Text → Result Change BadWord
change_of Put words = do
  value ← one_value words
  Ok (change.Put value)
change_of PutIfAbsent words = do
  value ← one_value words
  Ok (change.PutIfAbsent value)
change_of Remove words = do
  none ← no_word words
  Ok change.Remove
change_of RemoveIf words = do
  value ← one_value words
  Ok (change.RemoveIf value)
change_of Replace words = do
  value ← one_value words
  Ok (change.Replace value)
change_of ReplaceIf words = do
  values ← two_values words
  Ok (change.ReplaceIf values.0 values.1)
change_of Compute words = do
  found ← func_and_argument words
  Ok (change.Compute found.0 found.1)
change_of ComputeIfAbsent words = do
  found ← func_and_argument words
  Ok (change.ComputeIfAbsent found.0 found.1)
change_of ComputeIfPresent words = do
  found ← func_and_argument words
  Ok (change.ComputeIfPresent found.0 found.1)
change_of Merge words = do
  found ← func_and_value words
  Ok (change.Merge found.0 found.1)

-- ---- whole calls

unfoldable pub asked_of : Method → Text → List Text → Result Asked BadWord
asked_of (Read method) key words = do
  question ← question_of method words
  Ok (asked.Read (record { key = key; question = question }))
asked_of (Changes method) key words = do
  change ← change_of method words
  Ok (asked.Change (record { key = key; change = change }))

-- the words behind a method
abbrev pub call_behind : Method → List Text → Result Asked BadWord
call_behind method [] = Err Count
call_behind method (word ∷ words) = do
  key ← key_of word
  asked_of method key words

-- a method, its key, and what else it takes
unfoldable pub parse_call : List Text → Result Asked BadWord
parse_call [] = Err NoMethod
parse_call (name ∷ words) = do
  method ← ok_or (method_named name) NoMethod
  call_behind method words
