-- Where bytes are missing at the end, reading finds just that.
use Rattle.std.proofs.Common.{◌≡◌, ◌≤◌, ◌<◌, ℕ, zero, suc, ◌+◌, ◌-◌, ◌^◌, true, false, ltb, List, [], ◌∷◌, ◌++◌, length, take, Option, Some, None, Result, Ok, Err, refl, ap, ◌∙◌, arith, inl, inr}
use Rattle.std.specs.Prelude.{FitsSigned}
use Rattle.std.specs.Int.{w64, cast_signed, cast_unsigned}
use Rattle.std.proofs.lemmas.Bool.{cases_lt, le-ltb, lt-ltb}
use Rattle.std.proofs.lemmas.List.{take-append-le, length-append, length-take-le}
use Rattle.std.proofs.Math.Seq.{take-append-add}
use mir.ValLaws.{of_z_fits}
use Rattle.byteorder.specs.Endian.{big_bytes}
use Rattle.byteorder.specs.Numbers.{length-bytes_high_first}
use Rattle.map_types.specs.Numbers.{func_number}
use Rattle.map_types.specs.declared.refusals.Refusal.{Refusal}
use Rattle.map_types.specs.declared.refusals.Refusal.TheVariants.{KeyTooLong, ValueTooLong, UnknownFunction, BadFrame}
use Rattle.map_types.specs.declared.texts.Value.{Value}
use Rattle.map_types.specs.declared.texts.Value.TheVariants.{Int, Text}
use Rattle.map_types.specs.declared.commands.Change.{Change}
use Rattle.map_types.specs.declared.commands.Change.TheVariants as change
use Rattle.log_records.specs.Agreement.{Agrees, RefusesCuts}
use Rattle.log_records.specs.Layout.{Layout, IsLayout}
use Rattle.log_records.specs.Methods.{method_of, all_funcs}
use Rattle.log_records.specs.Spelling.{sized_bytes, key_bytes, value_bytes, argument_bytes, record_bytes, Any, IsText, IsValue, IsArgument, IsChange, IsCommand}
use Rattle.log_records.specs.Reading.{◌>>=◌, made, both_at, numbered_at, number_at, text_at, sized_at, key_at, int_at, value_at, present, some_value_at, func_at, method_at, change_at, record_at}
use Rattle.log_records.proofs.Fields.{number_agrees, key_agrees, some_value_agrees, func_agrees, method_agrees}

-- a cut of two texts is a cut of the first, or the first and a cut of the second
later_cut : (a b : List ℕ) (n : ℕ) → length a ≤ n → take n (a ++ b) ≡ a ++ take (n - length a) b
later_cut a b n h =
    let e : n ≡ length a + (n - length a) = omega arith in
    ap (λ (k : ℕ). take k (a ++ b)) e ∙ take-append-add a b (n - length a)

both_cut : {A B : Type 0} (first_at : List ℕ → Result (A × List ℕ) Refusal) (second_at : List ℕ → Result (B × List ℕ) Refusal)
    (first_bytes : A → List ℕ) (second_bytes : B → List ℕ) (First : A → Type 0) (Second : B → Type 0)
    → Agrees first_at first_bytes First → RefusesCuts first_at first_bytes First → RefusesCuts second_at second_bytes Second
    → RefusesCuts (both_at first_at second_at) (λ p. first_bytes p.0 ++ second_bytes p.1) (λ p. First p.0 × Second p.1)
both_cut first_at second_at first_bytes second_bytes First Second agrees one two p n fits cut =
    let a = first_bytes p.0 in
    let b = second_bytes p.1 in
    elim (cases_lt n (length a)) [
      | inl early ↦
          let same = take-append-le n a b (omega arith) in
          ap (both_at first_at second_at) same ∙ rw (one p.0 n fits.0 early) refl
      | inr late ↦
          let same = later_cut a b n late in
          let first = agrees.again p.0 (take (n - length a) b) fits.0 in
          let second = two p.1 (n - length a) fits.1 (omega (arith, cut, length-append a b)) in
          ap (both_at first_at second_at) same ∙ rw (first, second) refl
    ]

number_cut : (width : ℕ) → RefusesCuts (number_at width) (big_bytes width) (λ x. x < 256 ^ width)
unfolding number_at
number_cut width x n fits cut =
    let len : length (big_bytes width x) ≡ width = length-bytes_high_first width x in
    let short : length (take n (big_bytes width x)) ≡ n = length-take-le n (big_bytes width x) (omega arith) in
    let test : ltb (length (take n (big_bytes width x))) width ≡ true = lt-ltb _ _ (omega (arith, len, short, cut)) in
    rw test refl

text_cut : (text : List ℕ) (n : ℕ) → n < length text → text_at (length text) (take n text) ≡ Err BadFrame
unfolding text_at
text_cut text n cut =
    let short : length (take n text) ≡ n = length-take-le n text (omega arith) in
    let test : ltb (length (take n text)) (length text) ≡ true = lt-ltb _ _ (omega (arith, short, cut)) in
    rw test refl

sized_cut : (width most : ℕ) (too_long : Refusal) → most < 256 ^ width → RefusesCuts (sized_at width most too_long) (sized_bytes width) (IsText most)
unfolding sized_at
sized_cut width most too_long room text n fits cut =
    let a : List ℕ = big_bytes width (length text) in
    let len : length a ≡ width = length-bytes_high_first width (length text) in
    let small : length text < 256 ^ width = omega (arith, fits.0, room) in
    elim (cases_lt n (length a)) [
      | inl early ↦
          let same = take-append-le n a text (omega arith) in
          ap (sized_at width most too_long) same ∙ rw (number_cut width (length text) n small early) refl
      | inr late ↦
          let same = later_cut a text n late in
          let number = (number_agrees width).again (length text) (take (n - length a) text) small in
          let short : ltb most (length text) ≡ false = le-ltb _ _ fits.0 in
          ap (sized_at width most too_long) same ∙ rw (number, short) (text_cut text (n - length a) (omega (arith, cut, length-append a text)))
    ]

key_cut : (layout : Layout) → IsLayout layout → RefusesCuts (key_at layout) (key_bytes layout) (IsText layout.key_limit)
unfolding key_at
key_cut layout room = sized_cut layout.key_width layout.key_limit KeyTooLong room

int_cut : RefusesCuts int_at (λ z. big_bytes 8 (cast_unsigned w64 z)) (λ z. FitsSigned w64 z)
unfolding int_at
int_cut z n fits cut = ap (made (λ bits. cast_signed w64 bits)) (number_cut 8 (cast_unsigned w64 z) n (of_z_fits w64 z fits).fits cut)

value_cut : RefusesCuts value_at value_bytes IsArgument
unfolding value_at
value_cut None zero fits cut = refl
value_cut None (suc n) fits cut = absurd (omega arith)
value_cut (Some (Int z)) zero fits cut = refl
value_cut (Some (Int z)) (suc n) fits cut = ap (made (λ number. Some (Int number))) (int_cut z n fits (omega arith))
value_cut (Some (Text t)) zero fits cut = refl
value_cut (Some (Text t)) (suc n) fits cut = ap (made (λ text. Some (Text text))) (sized_cut 2 4096 ValueTooLong (omega arith) t n fits (omega arith))

some_value_cut : RefusesCuts some_value_at (λ v. value_bytes (Some v)) IsValue
unfolding some_value_at
some_value_cut v n fits cut = ap (λ (r : Result (Option Value × List ℕ) Refusal). r >>= λ x. present x.0 >>= λ c. Ok (c, x.1)) (value_cut (Some v) n fits cut)

numbered_cut : {A : Type 0} (number_of : A → ℕ) (unknown : Refusal) (all : List A) → RefusesCuts (numbered_at number_of unknown all) (λ x. number_of x ∷ []) Any
unfolding numbered_at
numbered_cut number_of unknown all x zero fits cut = refl
numbered_cut number_of unknown all x (suc n) fits cut = absurd (omega arith)

two_values_cut : RefusesCuts (both_at some_value_at some_value_at) (λ p. value_bytes (Some p.0) ++ value_bytes (Some p.1)) (λ p. IsValue p.0 × IsValue p.1)
two_values_cut = both_cut some_value_at some_value_at (λ v. value_bytes (Some v)) (λ v. value_bytes (Some v)) IsValue IsValue some_value_agrees some_value_cut some_value_cut

func_cut : RefusesCuts func_at (λ f. func_number f ∷ []) Any
func_cut = numbered_cut func_number UnknownFunction all_funcs

call_cut : RefusesCuts (both_at func_at value_at) (λ p. (func_number p.0 ∷ []) ++ value_bytes p.1) (λ p. Any p.0 × IsArgument p.1)
call_cut = both_cut func_at value_at (λ f. func_number f ∷ []) value_bytes Any IsArgument func_agrees func_cut value_cut

call_some_cut : RefusesCuts (both_at func_at some_value_at) (λ p. (func_number p.0 ∷ []) ++ value_bytes (Some p.1)) (λ p. Any p.0 × IsValue p.1)
call_some_cut = both_cut func_at some_value_at (λ f. func_number f ∷ []) (λ v. value_bytes (Some v)) Any IsValue func_agrees func_cut some_value_cut

change_cut : (c : Change) (n : ℕ) → IsChange c → n < length (argument_bytes c) → change_at (method_of c) (take n (argument_bytes c)) ≡ Err BadFrame
unfolding change_at
change_cut (change.Put v) n fits cut = ap (made (λ v. change.Put v)) (some_value_cut v n fits cut)
change_cut (change.PutIfAbsent v) n fits cut = ap (made (λ v. change.PutIfAbsent v)) (some_value_cut v n fits cut)
change_cut change.Remove n fits cut = absurd (omega arith)
change_cut (change.RemoveIf v) n fits cut = ap (made (λ v. change.RemoveIf v)) (some_value_cut v n fits cut)
change_cut (change.Replace v) n fits cut = ap (made (λ v. change.Replace v)) (some_value_cut v n fits cut)
change_cut (change.ReplaceIf old new) n fits cut = ap (made (λ p. change.ReplaceIf p.0 p.1)) (two_values_cut (old, new) n fits cut)
change_cut (change.Compute f v) n fits cut = ap (made (λ p. change.Compute p.0 p.1)) (call_cut (f, v) n (tt, fits) cut)
change_cut (change.ComputeIfAbsent f v) n fits cut = ap (made (λ p. change.ComputeIfAbsent p.0 p.1)) (call_cut (f, v) n (tt, fits) cut)
change_cut (change.ComputeIfPresent f v) n fits cut = ap (made (λ p. change.ComputeIfPresent p.0 p.1)) (call_cut (f, v) n (tt, fits) cut)
change_cut (change.Merge f v) n fits cut = ap (made (λ p. change.Merge p.0 p.1)) (call_some_cut (f, v) n (tt, fits) cut)

method_refuses_none : method_at [] ≡ Err BadFrame
unfolding numbered_at
method_refuses_none = refl

pub record_cut : (layout : Layout) → IsLayout layout → RefusesCuts (record_at layout) (record_bytes layout) (IsCommand layout)
unfolding record_at
record_cut layout room c zero fits cut = rw method_refuses_none refl
record_cut layout room c (suc n) fits cut =
    let key : List ℕ = key_bytes layout c.key in
    let arguments : List ℕ = argument_bytes c.change in
    let method = method_agrees.again (method_of c.change) (take n (key ++ arguments)) tt in
    elim (cases_lt n (length key)) [
      | inl early ↦
          let same : key_at layout (take n (key ++ arguments)) ≡ Err BadFrame =
          ap (key_at layout) (take-append-le n key arguments (omega arith)) ∙ key_cut layout room c.key n fits.0 early in
          rw (method, same) refl
      | inr late ↦
          let rest : List ℕ = take (n - length key) arguments in
          let same : key_at layout (take n (key ++ arguments)) ≡ Ok (c.key, rest) =
          ap (key_at layout) (later_cut key arguments n late) ∙ (key_agrees layout room).again c.key rest fits.0 in
          let missing = change_cut c.change (n - length key) fits.1 (omega (arith, cut, length-append key arguments)) in
          rw (method, same, missing) refl
    ]
