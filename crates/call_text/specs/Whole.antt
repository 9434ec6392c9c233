-- The words of all calls: of those of a key, and of those of the whole map.
use Rattle.std.specs.Prelude.{◌^◌, ℕ, Bool, ◌&&◌, List, [], ◌∷◌, length, nat_lt, if◌then◌else◌, Option, Some, None}
use Rattle.std.specs.Prelude.{Result, Ok, Err}
use Rattle.std.specs.Option.{ok_or}
use Rattle.std.specs.Str.{all_ascii_digits}
use Rattle.std.specs.Str.Parse.{digits_value, without_leading_plus}
pub use Rattle.map_types.specs.Reducing.{reduces}
use Rattle.map_types.specs.declared.commands.Func.{Func}
use Rattle.call_text.specs.declared.called.Called.{Called}
use Rattle.call_text.specs.declared.called.Called.TheVariants as called
use Rattle.call_text.specs.declared.bad_word.BadWord.{BadWord}
use Rattle.call_text.specs.declared.bad_word.BadWord.TheVariants as bad
use Rattle.call_text.specs.declared.names.BulkMethod.{BulkMethod}
use Rattle.call_text.specs.declared.names.BulkMethod.TheVariants.{Count, Reduce, Search}
use Rattle.call_text.specs.Names.{Text, bulk_named}
use Rattle.call_text.specs.Values.{◌>>=◌, value_of}
use Rattle.call_text.specs.Calls.{func_of, no_word, parse_call}

-- digits, at least one, behind a plus or none
abbrev pub is_unsigned : Text → Bool
is_unsigned word = nat_lt 0 (length (without_leading_plus word)) && all_ascii_digits (without_leading_plus word)

-- the number of a decimal without a minus that fits 64 bits
unfoldable pub unsigned_of : Text → Option ℕ
unsigned_of word =
    if is_unsigned word && nat_lt (digits_value 10 (without_leading_plus word)) (2 ^ 64) then Some
    (digits_value 10 (without_leading_plus word)) else None

abbrev pub threshold_of : Text → Result ℕ BadWord
threshold_of word = ok_or (unsigned_of word) bad.Threshold

-- such a function; the name of another is no function here
unfoldable pub reducing_of : Text → Result Func BadWord
reducing_of word = do
  func ← func_of word
  if reduces func then Ok func else Err bad.Function

-- ---- a method of the whole map, and the words behind it

-- a function and a threshold
unfoldable pub reduce_of : List Text → Result Called BadWord
reduce_of (first ∷ second ∷ []) = do
  func ← reducing_of first
  threshold ← threshold_of second
  Ok (called.Reduce func threshold)
reduce_of words = Err bad.Count

-- a threshold and a value
unfoldable pub search_of : List Text → Result Called BadWord
search_of (first ∷ second ∷ []) = do
  threshold ← threshold_of first
  value ← value_of second
  Ok (called.Search threshold value)
search_of words = Err bad.Count

unfoldable pub bulk_of : BulkMethod → List Text → Result Called BadWord
bulk_of Count words = do
  none ← no_word words
  Ok called.Count
bulk_of Reduce words = reduce_of words
bulk_of Search words = search_of words

-- ---- all calls

abbrev pub keyed_of : List Text → Result Called BadWord
keyed_of words = do
  asked ← parse_call words
  Ok (called.Keyed asked)

-- the words behind a method of the whole map; else they are a call of a key
abbrev pub named_call : Option BulkMethod → Text → List Text → Result Called BadWord
named_call (Some method) name words = bulk_of method words
named_call None name words = keyed_of (name ∷ words)

-- a method, and what else it takes
unfoldable pub parse_words : List Text → Result Called BadWord
parse_words [] = Err bad.Method
parse_words (name ∷ words) = named_call (bulk_named name) name words
