-- A request that is read is spelled so, and what is spelled so is read.
use Rattle.std.proofs.Common.{◌≡◌, ℕ, true, false, cond, eqb, List, [], ◌∷◌, ◌++◌, Some, Result, Ok, Err, refl, sym, ap, subst, ◌∙◌, append_assoc, inl, inr}
use Rattle.std.proofs.lemmas.Bool.{eqb-true}
use Rattle.std.proofs.lemmas.List.{append-nil}
use Rattle.map_types.specs.declared.refusals.Refusal.{Refusal}
use Rattle.map_types.specs.declared.texts.Value.{Value}
use Rattle.map_types.specs.declared.commands.Command.{Command}
use Rattle.map_types.specs.declared.commands.Question.{Question}
use Rattle.map_types.specs.declared.commands.Question.TheVariants.{Get, GetOrDefault, ContainsKey}
use Rattle.log_records.specs.declared.methods.Method.{Method}
use Rattle.log_records.specs.declared.methods.Method.TheVariants.{Put, PutIfAbsent, Remove, RemoveIf, Replace, ReplaceIf, Compute, ComputeIfAbsent, ComputeIfPresent, Merge}
use Rattle.log_records.specs.Methods.{method_number, method_of}
use Rattle.log_records.specs.Agreement.{IsBytes, Agrees}
use Rattle.log_records.specs.Spelling.{IsText, IsCommand, key_bytes, value_bytes, record_bytes}
use Rattle.log_records.specs.Reading.{◌>>=◌, key_at, some_value_at, record_at}
use Rattle.wire_frames.specs.declared.requests.Request.{Request}
use Rattle.wire_frames.specs.declared.requests.Request.TheVariants as requests
use Rattle.wire_frames.specs.declared.requests.Bulk.TheVariants.{Count}
use Rattle.wire_frames.specs.Requests.{wire_layout, request_bytes, IsQuestion, IsAsked, IsRequest, asking, question_at, get_or_default_at, reduce_at, search_at, change_at, request_at, alone, request_of, ReadIsSpelled, SpelledIsRead}
use Rattle.wire_frames.proofs.Fronts.{ValuesAgree, Reading, done, bytes_behind, chosen, Front, front_is}
use Rattle.wire_frames.proofs.WholeMap.{FuncsAgree, ThresholdsAgree, reduce_front, search_front, count_front, bulk_again}

abbrev pub KeysAgree : Type 0
KeysAgree = Agrees (key_at wire_layout) (key_bytes wire_layout) (IsText wire_layout.key_limit)

abbrev pub RecordsAgree : Type 0
RecordsAgree = Agrees (record_at wire_layout) (record_bytes wire_layout) (IsCommand wire_layout)

-- ---- what is read was spelled so

module _ (keys : KeysAgree) (rest : List ℕ) (are : IsBytes rest) (read : Request × List ℕ) where
  -- a question without arguments behind its key
  key_front : (number : ℕ) (question : Question) → IsQuestion question → ((key : List ℕ) → request_bytes (asking key question) ≡ number ∷ key_bytes wire_layout key)
      → (r : Result (List ℕ × List ℕ) Refusal) → key_at wire_layout rest ≡ r → (r >>= λ key. done (asking key.0 question, key.1)) ≡ done read → Front (number ∷ rest) read
  key_front number question fits spelled (Err refusal) h e = absurd cc
  key_front number question fits spelled (Ok key) h e =
      let taken = keys.takes rest key.0 key.1 are h in
      front_is (number ∷ rest) (asking key.0 question, key.1) read e
      (ap (λ (bytes : List ℕ). number ∷ bytes) taken.0.parts ∙ ap (λ (bytes : List ℕ). bytes ++ key.1) (sym (spelled key.0)), (taken.1, fits))

  value_front : (key behind : List ℕ) → rest ≡ key_bytes wire_layout key ++ behind → IsText wire_layout.key_limit key → IsBytes behind → ValuesAgree
      → (r : Result (Value × List ℕ) Refusal) → some_value_at behind ≡ r → (r >>= λ value. done (asking key (GetOrDefault value.0), value.1)) ≡ done read → Front (2 ∷ rest) read
  value_front key behind parts fits bytes values (Err refusal) h e = absurd cc
  value_front key behind parts fits bytes values (Ok value) h e =
      let taken = values.takes behind value.0 value.1 bytes h in
      let whole : rest ≡ (key_bytes wire_layout key ++ value_bytes (Some value.0)) ++ value.1 =
      parts ∙ ap (λ (t : List ℕ). key_bytes wire_layout key ++ t) taken.0.parts ∙ sym (append_assoc (key_bytes wire_layout key) (value_bytes (Some value.0)) value.1) in
      front_is (2 ∷ rest) (asking key (GetOrDefault value.0), value.1) read e (ap (λ (t : List ℕ). 2 ∷ t) whole, (fits, taken.1))

  default_front : ValuesAgree → (r : Result (List ℕ × List ℕ) Refusal) → key_at wire_layout rest ≡ r
      → (r >>= λ key. some_value_at key.1 >>= λ value. done (asking key.0 (GetOrDefault value.0), value.1)) ≡ done read → Front (2 ∷ rest) read
  default_front values (Err refusal) h e = absurd cc
  default_front values (Ok key) h e =
      let taken = keys.takes rest key.0 key.1 are h in
      value_front key.0 key.1 taken.0.parts taken.1 taken.0.rest_fits values (some_value_at key.1) refl e

change_front : RecordsAgree → (bytes : List ℕ) → IsBytes bytes → (read : Request × List ℕ) → (r : Result (Command × List ℕ) Refusal) → record_at wire_layout bytes ≡ r
    → (r >>= λ command. done (requests.Change command.0, command.1)) ≡ done read → Front bytes read
change_front records bytes are read (Err refusal) h e = absurd cc
change_front records bytes are read (Ok command) h e =
    let taken = records.takes bytes command.0 command.1 are h in
    front_is bytes (requests.Change command.0, command.1) read e (taken.0.parts, taken.1)

numbered_front : (method number : ℕ) (rest : List ℕ) (read : Request × List ℕ) → eqb method number ≡ true → Front (number ∷ rest) read → Front (method ∷ rest) read
numbered_front method number rest read e front =
    subst (λ (n : ℕ). Front (n ∷ rest) read) (sym (eqb-true method number e)) front

-- the four laws of fields that a request has, and that of records
pub record Agree : Type 0 where
  pub keys : KeysAgree
  pub values : ValuesAgree
  pub funcs : FuncsAgree
  pub thresholds : ThresholdsAgree
  pub records : RecordsAgree

-- the readings of a method that has no question's number
abbrev whole_map_at : ℕ → List ℕ → Reading
whole_map_at method rest =
    cond (eqb method 32) (done (requests.Bulk Count, rest)) (cond (eqb method 33) (reduce_at rest) (cond (eqb method 34) (search_at rest) (change_at (method ∷ rest))))

module _ (agree : Agree) (method : ℕ) (rest : List ℕ) (are : IsBytes (method ∷ rest)) (read : Request × List ℕ) where
  others_front : whole_map_at method rest ≡ done read → Front (method ∷ rest) read
  unfolding change_at
  others_front e =
      let behind = bytes_behind method rest are in
      elim (chosen (eqb method 32) _ (cond (eqb method 33) (reduce_at rest) (cond (eqb method 34) (search_at rest) (change_at (method ∷ rest)))) (done read) e) [
        | inl count ↦ numbered_front method 32 rest read count.0 (count_front rest read count.1)
        | inr other ↦ elim (chosen (eqb method 33) (reduce_at rest) (cond (eqb method 34) (search_at rest) (change_at (method ∷ rest))) (done read) other.1) [
          | inl reduce ↦ numbered_front method 33 rest read reduce.0 (reduce_front agree.funcs agree.thresholds agree.values rest behind read reduce.1)
          | inr third ↦ elim (chosen (eqb method 34) (search_at rest) (change_at (method ∷ rest)) (done read) third.1) [
            | inl sought ↦ numbered_front method 34 rest read sought.0 (search_front agree.funcs agree.thresholds agree.values rest behind read sought.1)
            | inr change ↦ change_front agree.records (method ∷ rest) are read (record_at wire_layout (method ∷ rest)) refl change.1
          ]
        ]
      ]

  method_front : request_at (method ∷ rest) ≡ done read → Front (method ∷ rest) read
  unfolding request_at question_at get_or_default_at
  method_front e =
      let behind = bytes_behind method rest are in
      let alike : (question : Question) (number : ℕ) (key : List ℕ) → number ∷ (key_bytes wire_layout key ++ []) ≡ number ∷ key_bytes wire_layout key =
      λ question number key. ap (λ (t : List ℕ). number ∷ t) (append-nil (key_bytes wire_layout key)) in
      elim (chosen (eqb method 1) (question_at Get rest) (cond (eqb method 2) (get_or_default_at rest) (cond (eqb method 3) (question_at ContainsKey rest) (whole_map_at method rest))) (done read) e) [
        | inl get ↦ numbered_front method 1 rest read get.0 (key_front agree.keys rest behind read 1 Get tt (alike Get 1) (key_at wire_layout rest) refl get.1)
        | inr other ↦ elim (chosen (eqb method 2) (get_or_default_at rest) (cond (eqb method 3) (question_at ContainsKey rest) (whole_map_at method rest)) (done read) other.1) [
          | inl default ↦ numbered_front method 2 rest read default.0 (default_front agree.keys rest behind read agree.values (key_at wire_layout rest) refl default.1)
          | inr third ↦ elim (chosen (eqb method 3) (question_at ContainsKey rest) (whole_map_at method rest) (done read) third.1) [
            | inl contains ↦ numbered_front method 3 rest read contains.0 (key_front agree.keys rest behind read 3 ContainsKey tt (alike ContainsKey 3) (key_at wire_layout rest) refl contains.1)
            | inr whole ↦ others_front whole.1
          ]
        ]
      ]

request_front : Agree → (bytes : List ℕ) → IsBytes bytes → (read : Request × List ℕ) → request_at bytes ≡ done read → Front bytes read
unfolding request_at
request_front agree [] are read e = absurd cc
request_front agree (method ∷ rest) are read e = method_front agree method rest are read e

alone_is : (bytes : List ℕ) (read : Request × List ℕ) (request : Request) → alone read ≡ Ok request → Front bytes read → IsRequest bytes request
alone_is bytes (asked, []) request e front =
    let is : asked ≡ request = cc in
    subst (IsRequest bytes) is (record { fits = front.1; spelled = front.0 ∙ append-nil (request_bytes asked) })
alone_is bytes (asked, byte ∷ rest) request e front = absurd cc

request_is : (bytes : List ℕ) (request : Request) (r : Reading) → ((read : Request × List ℕ) → r ≡ done read → Front bytes read) → (r >>= alone) ≡ Ok request → IsRequest bytes request
request_is bytes request (Err refusal) front e = absurd cc
request_is bytes request (Ok read) front e = alone_is bytes read request e (front read refl)

pub read_is_spelled : Agree → ReadIsSpelled
unfolding request_of
read_is_spelled agree bytes request are e =
    request_is bytes request (request_at bytes) (λ read h. request_front agree bytes are read h) e

-- ---- what is spelled so is read

-- a record's method is none of a question, and none of the whole map
record IsChangeNumber (number : ℕ) : Type 0 where
  get : eqb number 1 ≡ false
  default : eqb number 2 ≡ false
  contains : eqb number 3 ≡ false
  count : eqb number 32 ≡ false
  reduce : eqb number 33 ≡ false
  sought : eqb number 34 ≡ false

change_number : (method : Method) → IsChangeNumber (method_number method)
change_number Put = record { get = refl; default = refl; contains = refl; count = refl; reduce = refl; sought = refl }
change_number PutIfAbsent = record { get = refl; default = refl; contains = refl; count = refl; reduce = refl; sought = refl }
change_number Remove = record { get = refl; default = refl; contains = refl; count = refl; reduce = refl; sought = refl }
change_number RemoveIf = record { get = refl; default = refl; contains = refl; count = refl; reduce = refl; sought = refl }
change_number Replace = record { get = refl; default = refl; contains = refl; count = refl; reduce = refl; sought = refl }
change_number ReplaceIf = record { get = refl; default = refl; contains = refl; count = refl; reduce = refl; sought = refl }
change_number Compute = record { get = refl; default = refl; contains = refl; count = refl; reduce = refl; sought = refl }
change_number ComputeIfAbsent = record { get = refl; default = refl; contains = refl; count = refl; reduce = refl; sought = refl }
change_number ComputeIfPresent = record { get = refl; default = refl; contains = refl; count = refl; reduce = refl; sought = refl }
change_number Merge = record { get = refl; default = refl; contains = refl; count = refl; reduce = refl; sought = refl }

asking_again : KeysAgree → ValuesAgree → (key : List ℕ) (question : Question) → IsText wire_layout.key_limit key → IsQuestion question
    → request_at (request_bytes (asking key question)) ≡ done (asking key question, [])
unfolding request_at question_at get_or_default_at
asking_again keys values key Get fits asked = rw (keys.again key [] fits) refl
asking_again keys values key (GetOrDefault default) fits asked =
    let value : some_value_at (value_bytes (Some default)) ≡ Ok (default, []) =
    ap some_value_at (sym (append-nil (value_bytes (Some default)))) ∙ values.again default [] asked in
    rw (keys.again key (value_bytes (Some default)) fits, value) refl
asking_again keys values key ContainsKey fits asked = rw (keys.again key [] fits) refl

change_again : RecordsAgree → (command : Command) → IsCommand wire_layout command → request_at (record_bytes wire_layout command) ≡ done (requests.Change command, [])
unfolding request_at change_at
change_again records command fits =
    let none = change_number (method_of command.change) in
    let again : record_at wire_layout (record_bytes wire_layout command) ≡ Ok (command, []) =
    ap (record_at wire_layout) (sym (append-nil (record_bytes wire_layout command))) ∙ records.again command [] fits in
    rw (none.get, none.default, none.contains, none.count, none.reduce, none.sought, again) refl

again : Agree → (request : Request) → IsAsked request → request_at (request_bytes request) ≡ done (request, [])
again agree (requests.Read read) fits = asking_again agree.keys agree.values read.key read.question fits.0 fits.1
again agree (requests.Change command) fits = change_again agree.records command fits
again agree (requests.Bulk bulk) fits = bulk_again agree.funcs agree.thresholds agree.values bulk fits

pub spelled_is_read : Agree → SpelledIsRead
unfolding request_of
spelled_is_read agree bytes request is =
    ap (λ (t : List ℕ). request_at t >>= alone) is.spelled ∙ ap (λ (r : Reading). r >>= alone) (again agree request is.fits)
