-- Calls of the whole map: what is read of them was spelled so, and what is spelled so is read.
use Rattle.std.proofs.Common.{◌≡◌, ℕ, Bool, true, false, List, [], ◌∷◌, ◌++◌, Some, Result, Ok, Err, refl, sym, ap, subst, ◌∙◌, append_assoc, cond}
use Rattle.std.proofs.lemmas.List.{append-nil}
use Rattle.map_types.specs.Numbers.{func_number}
use Rattle.map_types.specs.declared.refusals.Refusal.{Refusal}
use Rattle.map_types.specs.declared.refusals.Refusal.TheVariants.{UnknownFunction}
use Rattle.map_types.specs.declared.texts.Value.{Value}
use Rattle.map_types.specs.declared.commands.Func.{Func}
use Rattle.log_records.specs.Agreement.{IsBytes, Agrees}
use Rattle.log_records.specs.Spelling.{Any, value_bytes}
use Rattle.log_records.specs.Reading.{◌>>=◌, func_at, some_value_at}
use Rattle.wire_frames.specs.declared.requests.Bulk.{Bulk}
use Rattle.wire_frames.specs.declared.requests.Bulk.TheVariants.{Count, Reduce, Search}
use Rattle.wire_frames.specs.declared.requests.Request.{Request}
use Rattle.wire_frames.specs.declared.requests.Request.TheVariants as requests
use Rattle.wire_frames.specs.Requests.{reduces, request_bytes, threshold_bytes, IsBulk, IsThreshold, reducing_at, threshold_at, reduce_at, search_at, request_at}
use Rattle.wire_frames.proofs.Fronts.{ValuesAgree, done, Front, front_is}

abbrev pub FuncsAgree : Type 0
FuncsAgree = Agrees func_at (λ (func : Func). func_number func ∷ []) Any

abbrev pub ThresholdsAgree : Type 0
ThresholdsAgree = Agrees threshold_at threshold_bytes IsThreshold

abbrev found_is : Func × List ℕ → Result (Func × List ℕ) Refusal
found_is func = Ok func

-- ---- what is read was spelled so

-- a function that a map is reduced by stands at the front
record Reduces (bytes : List ℕ) (func : Func) (behind : List ℕ) : Type 0 where
  parts : bytes ≡ func_number func ∷ behind
  rest_fits : IsBytes behind
  fits : reduces func ≡ true

module _ (funcs : FuncsAgree) (thresholds : ThresholdsAgree) (values : ValuesAgree) (rest : List ℕ) (are : IsBytes rest) where
  tested : (found func : Func × List ℕ) (b : Bool) → func_at rest ≡ Ok found → reduces found.0 ≡ b → cond b (found_is found) (Err UnknownFunction) ≡ found_is func → Reduces rest func.0 func.1
  tested found func true h fits e =
      let taken = funcs.takes rest found.0 found.1 are h in
      let is : found ≡ func = cc in
      subst (λ (x : Func × List ℕ). Reduces rest x.0 x.1) is (record { parts = taken.0.parts; rest_fits = taken.0.rest_fits; fits = fits })
  tested found func false h fits e = absurd cc

  reducing_is : (func : Func × List ℕ) (r : Result (Func × List ℕ) Refusal) → func_at rest ≡ r
      → (r >>= λ found. cond (reduces found.0) (found_is found) (Err UnknownFunction)) ≡ found_is func → Reduces rest func.0 func.1
  reducing_is func (Err refusal) h e = absurd cc
  reducing_is func (Ok found) h e = tested found func (reduces found.0) h refl e

  threshold_front : (read : Request × List ℕ) (func : Func) (behind : List ℕ) → Reduces rest func behind → (r : Result (ℕ × List ℕ) Refusal) → threshold_at behind ≡ r
      → (r >>= λ threshold. done (requests.Bulk (Reduce func threshold.0), threshold.1)) ≡ done read → Front (33 ∷ rest) read
  threshold_front read func behind is (Err refusal) h e = absurd cc
  threshold_front read func behind is (Ok threshold) h e =
      let taken = thresholds.takes behind threshold.0 threshold.1 is.rest_fits h in
      front_is (33 ∷ rest) (requests.Bulk (Reduce func threshold.0), threshold.1) read e
      (ap (λ (t : List ℕ). 33 ∷ t) is.parts ∙ ap (λ (t : List ℕ). 33 ∷ func_number func ∷ t) taken.0.parts, (is.fits, taken.1))

  by_function : (read : Request × List ℕ) (r : Result (Func × List ℕ) Refusal) → reducing_at rest ≡ r
      → (r >>= λ func. threshold_at func.1 >>= λ threshold. done (requests.Bulk (Reduce func.0 threshold.0), threshold.1)) ≡ done read → Front (33 ∷ rest) read
  unfolding reducing_at
  by_function read (Err refusal) h e = absurd cc
  by_function read (Ok func) h e = threshold_front read func.0 func.1 (reducing_is func (func_at rest) refl h) (threshold_at func.1) refl e

  pub reduce_front : (read : Request × List ℕ) → reduce_at rest ≡ done read → Front (33 ∷ rest) read
  unfolding reduce_at
  reduce_front read e = by_function read (reducing_at rest) refl e

  value_front : (read : Request × List ℕ) (threshold : ℕ) (behind : List ℕ) → rest ≡ threshold_bytes threshold ++ behind → IsThreshold threshold → IsBytes behind
      → (r : Result (Value × List ℕ) Refusal) → some_value_at behind ≡ r → (r >>= λ value. done (requests.Bulk (Search threshold value.0), value.1)) ≡ done read → Front (34 ∷ rest) read
  value_front read threshold behind parts fits bytes (Err refusal) h e = absurd cc
  value_front read threshold behind parts fits bytes (Ok value) h e =
      let taken = values.takes behind value.0 value.1 bytes h in
      let whole : rest ≡ (threshold_bytes threshold ++ value_bytes (Some value.0)) ++ value.1 =
      parts ∙ ap (λ (t : List ℕ). threshold_bytes threshold ++ t) taken.0.parts ∙ sym (append_assoc (threshold_bytes threshold) (value_bytes (Some value.0)) value.1) in
      front_is (34 ∷ rest) (requests.Bulk (Search threshold value.0), value.1) read e (ap (λ (t : List ℕ). 34 ∷ t) whole, (fits, taken.1))

  by_threshold : (read : Request × List ℕ) (r : Result (ℕ × List ℕ) Refusal) → threshold_at rest ≡ r
      → (r >>= λ threshold. some_value_at threshold.1 >>= λ value. done (requests.Bulk (Search threshold.0 value.0), value.1)) ≡ done read → Front (34 ∷ rest) read
  by_threshold read (Err refusal) h e = absurd cc
  by_threshold read (Ok threshold) h e =
      let taken = thresholds.takes rest threshold.0 threshold.1 are h in
      value_front read threshold.0 threshold.1 taken.0.parts taken.1 taken.0.rest_fits (some_value_at threshold.1) refl e

  pub search_front : (read : Request × List ℕ) → search_at rest ≡ done read → Front (34 ∷ rest) read
  unfolding search_at
  search_front read e = by_threshold read (threshold_at rest) refl e

pub count_front : (rest : List ℕ) (read : Request × List ℕ) → done (requests.Bulk Count, rest) ≡ done read → Front (32 ∷ rest) read
count_front rest read e = front_is (32 ∷ rest) (requests.Bulk Count, rest) read e (refl, tt)

-- ---- what is spelled so is read

pub bulk_again : FuncsAgree → ThresholdsAgree → ValuesAgree → (bulk : Bulk) → IsBulk bulk → request_at (request_bytes (requests.Bulk bulk)) ≡ done (requests.Bulk bulk, [])
unfolding request_at reduce_at reducing_at search_at
bulk_again funcs thresholds values Count fits = refl
bulk_again funcs thresholds values (Reduce func threshold) fits =
    let read : threshold_at (threshold_bytes threshold) ≡ Ok (threshold, []) =
    ap threshold_at (sym (append-nil (threshold_bytes threshold))) ∙ thresholds.again threshold [] fits.1 in
    rw (funcs.again func (threshold_bytes threshold) tt, fits.0, read) refl
bulk_again funcs thresholds values (Search threshold value) fits =
    let read : some_value_at (value_bytes (Some value)) ≡ Ok (value, []) =
    ap some_value_at (sym (append-nil (value_bytes (Some value)))) ∙ values.again value [] fits.1 in
    rw (thresholds.again threshold (value_bytes (Some value)) fits.0, read) refl
