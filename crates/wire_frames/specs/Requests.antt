-- The grammar of requests, behind the length of their frame.
use Rattle.std.specs.Prelude.{◌≡◌, ◌<◌, ◌^◌, ℕ, true, List, [], ◌∷◌, ◌++◌, Some, Result, Ok, Err, ◌==◌, if◌then◌else◌}
use Rattle.byteorder.specs.Endian.{big_bytes}
use Rattle.map_types.specs.Numbers.{func_number}
use Rattle.map_types.specs.declared.refusals.Refusal.{Refusal}
use Rattle.map_types.specs.declared.refusals.Refusal.TheVariants.{BadFrame, UnknownFunction}
pub use Rattle.map_types.specs.Reducing.{reduces}
use Rattle.map_types.specs.declared.commands.Func.{Func}
use Rattle.map_types.specs.declared.commands.Question.{Question}
use Rattle.map_types.specs.declared.commands.Question.TheVariants.{Get, GetOrDefault, ContainsKey}
use Rattle.log_records.specs.Agreement.{IsBytes}
use Rattle.log_records.specs.Layout.{Layout, second_layout}
use Rattle.log_records.specs.Spelling.{IsText, IsValue, IsCommand, key_bytes, value_bytes, record_bytes}
use Rattle.log_records.specs.Reading.{◌>>=◌, key_at, number_at, some_value_at, func_at, record_at}
use Rattle.wire_frames.specs.declared.requests.Bulk.{Bulk}
use Rattle.wire_frames.specs.declared.requests.Bulk.TheVariants.{Count, Reduce, Search}
use Rattle.wire_frames.specs.declared.requests.Request.{Request}
use Rattle.wire_frames.specs.declared.requests.Request.TheVariants as requests

-- the layout of keys in requests: the newest, whatever version the files have
abbrev pub wire_layout : Layout
wire_layout = second_layout

-- ---- the methods of questions and of calls of the whole map; those of changes are the records' own

abbrev pub get_method : ℕ
get_method = 1

abbrev pub get_or_default_method : ℕ
get_or_default_method = 2

abbrev pub contains_key_method : ℕ
contains_key_method = 3

abbrev pub count_method : ℕ
count_method = 32

abbrev pub reduce_method : ℕ
reduce_method = 33

abbrev pub search_method : ℕ
search_method = 34

-- ---- the one spelling of each request

abbrev pub question_number : Question → ℕ
question_number Get = get_method
question_number (GetOrDefault value) = get_or_default_method
question_number ContainsKey = contains_key_method

-- the arguments of a question, behind its key
abbrev pub argument_bytes : Question → List ℕ
argument_bytes Get = []
argument_bytes (GetOrDefault value) = value_bytes (Some value)
argument_bytes ContainsKey = []

abbrev pub bulk_number : Bulk → ℕ
bulk_number Count = count_method
bulk_number (Reduce func threshold) = reduce_method
bulk_number (Search threshold value) = search_method

-- a threshold in eight bytes
abbrev pub threshold_bytes : ℕ → List ℕ
threshold_bytes threshold = big_bytes 8 threshold

-- the arguments of a call of the whole map
abbrev pub bulk_bytes : Bulk → List ℕ
bulk_bytes Count = []
bulk_bytes (Reduce func threshold) = func_number func ∷ threshold_bytes threshold
bulk_bytes (Search threshold value) = threshold_bytes threshold ++ value_bytes (Some value)

-- a call of the whole map has this method
abbrev pub IsBulkMethod : ℕ → Type 0
IsBulkMethod method = (bulk : Bulk) × (method ≡ bulk_number bulk)

-- the bytes begin with the method of a call of the whole map
abbrev pub HasBulkMethod : List ℕ → Type 0
HasBulkMethod [] = ⊥
HasBulkMethod (method ∷ arguments) = IsBulkMethod method

-- the bytes begin with the method of a count
abbrev pub HasCountMethod : List ℕ → Type 0
HasCountMethod [] = ⊥
HasCountMethod (method ∷ arguments) = method ≡ count_method

-- of a change its record
abbrev pub request_bytes : Request → List ℕ
request_bytes (requests.Read read) =
    question_number read.question ∷ (key_bytes wire_layout read.key ++ argument_bytes read.question)
request_bytes (requests.Change command) = record_bytes wire_layout command
request_bytes (requests.Bulk bulk) = bulk_number bulk ∷ bulk_bytes bulk

-- ---- what has a spelling

abbrev pub IsQuestion : Question → Type 0
IsQuestion Get = Unit {0}
IsQuestion (GetOrDefault value) = IsValue value
IsQuestion ContainsKey = Unit {0}

abbrev pub IsThreshold : ℕ → Type 0
IsThreshold threshold = threshold < 2 ^ 64

abbrev pub IsBulk : Bulk → Type 0
IsBulk Count = Unit {0}
IsBulk (Reduce func threshold) = (reduces func ≡ true) × IsThreshold threshold
IsBulk (Search threshold value) = IsThreshold threshold × IsValue value

abbrev pub IsAsked : Request → Type 0
IsAsked (requests.Read read) = IsText wire_layout.key_limit read.key × IsQuestion read.question
IsAsked (requests.Change command) = IsCommand wire_layout command
IsAsked (requests.Bulk bulk) = IsBulk bulk

-- the bytes are this request, and nothing else
pub record IsRequest (bytes : List ℕ) (request : Request) : Type 0 where
  pub fits : IsAsked request
  pub spelled : bytes ≡ request_bytes request

-- ---- reading from left to right, with the first refusal that is met

abbrev pub asking : List ℕ → Question → Request
asking key question = requests.Read (record { key = key; question = question })

-- a key alone, and what follows
unfoldable pub question_at : Question → List ℕ → Result (Request × List ℕ) Refusal
question_at question bytes = do
  key ← key_at wire_layout bytes
  Ok (asking key.0 question, key.1)

-- a key and a value, and what follows
unfoldable pub get_or_default_at : List ℕ → Result (Request × List ℕ) Refusal
get_or_default_at bytes = do
  key ← key_at wire_layout bytes
  value ← some_value_at key.1
  Ok (asking key.0 (GetOrDefault value.0), value.1)

-- a record, and what follows
unfoldable pub change_at : List ℕ → Result (Request × List ℕ) Refusal
change_at bytes = do
  command ← record_at wire_layout bytes
  Ok (requests.Change command.0, command.1)

-- a function that a map is reduced by, and what follows; each other is refused as soon as its byte is read
unfoldable pub reducing_at : List ℕ → Result (Func × List ℕ) Refusal
reducing_at bytes = do
  func ← func_at bytes
  if reduces func.0 then Ok func else Err UnknownFunction

abbrev pub threshold_at : List ℕ → Result (ℕ × List ℕ) Refusal
threshold_at bytes = number_at 8 bytes

-- a function and a threshold, and what follows
unfoldable pub reduce_at : List ℕ → Result (Request × List ℕ) Refusal
reduce_at bytes = do
  func ← reducing_at bytes
  threshold ← threshold_at func.1
  Ok (requests.Bulk (Reduce func.0 threshold.0), threshold.1)

-- a threshold and a value, and what follows
unfoldable pub search_at : List ℕ → Result (Request × List ℕ) Refusal
search_at bytes = do
  threshold ← threshold_at bytes
  value ← some_value_at threshold.1
  Ok (requests.Bulk (Search threshold.0 value.0), value.1)

-- a method and its arguments, and what follows
unfoldable pub request_at : List ℕ → Result (Request × List ℕ) Refusal
request_at [] = Err BadFrame
request_at (method ∷ rest) =
    if method == get_method then question_at Get rest
    else if method == get_or_default_method then get_or_default_at rest
    else if method == contains_key_method then question_at ContainsKey rest
    else if method == count_method then Ok (requests.Bulk Count, rest)
    else if method == reduce_method then reduce_at rest
    else if method == search_method then search_at rest
    else change_at (method ∷ rest)

-- nothing may follow the last argument
abbrev pub alone : Request × List ℕ → Result Request Refusal
alone (request, []) = Ok request
alone (request, byte ∷ rest) = Err BadFrame

-- the request that all of these bytes are, or the first refusal
unfoldable pub request_of : List ℕ → Result Request Refusal
request_of bytes = request_at bytes >>= alone

-- ---- the two agree

-- what is read was spelled so
abbrev pub ReadIsSpelled : Type 0
ReadIsSpelled =
    (bytes : List ℕ) (request : Request) → IsBytes bytes → request_of bytes ≡ Ok request → IsRequest bytes request

-- what is spelled so is read
abbrev pub SpelledIsRead : Type 0
SpelledIsRead = (bytes : List ℕ) (request : Request) → IsRequest bytes request → request_of bytes ≡ Ok request
