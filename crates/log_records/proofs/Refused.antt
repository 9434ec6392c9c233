-- Which refusals a record can meet.
use Rattle.std.proofs.Common.{◌≡◌, ◌⊎◌, ℕ, zero, suc, Bool, true, false, cond, ltb, List, [], ◌∷◌, length, take, drop, Option, Some, None, Result, Ok, Err, refl, subst, arith, inl, inr}
use Rattle.std.specs.Prelude.{IfErr}
use Rattle.std.specs.Int.{w64, cast_signed}
use Rattle.std.specs.Str.{is_utf8}
use Rattle.std.proofs.lemmas.Bool.{ltb-true}
use Rattle.byteorder.specs.Endian.{big_number}
use Rattle.map_types.specs.Numbers.{func_number}
use Rattle.map_types.specs.declared.refusals.Refusal.{Refusal}
use Rattle.map_types.specs.declared.refusals.Refusal.TheVariants.{KeyTooLong, ValueTooLong, UnknownMethod, UnknownFunction, BadFrame, NoMemory, NotText}
use Rattle.map_types.specs.declared.texts.Value.{Value}
use Rattle.map_types.specs.declared.texts.Value.TheVariants.{Int, Text}
use Rattle.map_types.specs.declared.commands.Change.{Change}
use Rattle.map_types.specs.declared.commands.Change.TheVariants as change
use Rattle.map_types.specs.declared.commands.Command.{Command}
use Rattle.log_records.specs.declared.methods.Method.{Method}
use Rattle.log_records.specs.declared.methods.Method.TheVariants.{Put, PutIfAbsent, Remove, RemoveIf, Replace, ReplaceIf, Compute, ComputeIfAbsent, ComputeIfPresent, Merge}
use Rattle.log_records.specs.Agreement.{IsBytes}
use Rattle.log_records.specs.Layout.{Layout}
use Rattle.log_records.specs.Methods.{method_number, all_methods, all_funcs}
use Rattle.log_records.specs.Reading.{◌>>=◌, made, both_at, numbered, numbered_at, number_at, utf8_of, text_at, sized_at, key_at, int_at, value_at, present, some_value_at, func_at, method_at, change_at, record_at, IsRecordRefusal}
use Rattle.log_records.proofs.Fields.{number_agrees, method_agrees}

abbrev Within : {A : Type 0} → Layout → Result A Refusal → Type 0
Within layout r = IfErr r (IsRecordRefusal layout)

within_bind : {A B : Type 0} (layout : Layout) (r : Result A Refusal) (f : A → Result B Refusal) → Within layout r → ((x : A) → r ≡ Ok x → Within layout (f x)) → Within layout (r >>= f)
within_bind layout (Ok x) f h next = next x refl
within_bind layout (Err d) f h next = h

within_cond : {A : Type 0} (layout : Layout) (b : Bool) (r s : Result A Refusal) → Within layout r → Within layout s → Within layout (cond b r s)
within_cond layout true r s h k = h
within_cond layout false r s h k = k

within_made : {A B : Type 0} (layout : Layout) (make : A → B) (r : Result (A × List ℕ) Refusal) → Within layout r → Within layout (made make r)
within_made layout make (Ok x) h = tt
within_made layout make (Err d) h = h

within_both : {A B : Type 0} (layout : Layout) (first_at : List ℕ → Result (A × List ℕ) Refusal) (second_at : List ℕ → Result (B × List ℕ) Refusal)
    → ((bytes : List ℕ) → Within layout (first_at bytes)) → ((bytes : List ℕ) → Within layout (second_at bytes)) → (bytes : List ℕ) → Within layout (both_at first_at second_at bytes)
within_both layout first_at second_at h k bytes =
    within_bind layout (first_at bytes) (λ x. second_at x.1 >>= λ y. Ok ((x.0, y.0), y.1)) (h bytes)
    (λ x is. within_bind layout (second_at x.1) (λ y. Ok ((x.0, y.0), y.1)) (k x.1) (λ y is'. tt))

number_within : (layout : Layout) (width : ℕ) (bytes : List ℕ) → Within layout (number_at width bytes)
unfolding number_at
number_within layout width bytes = within_cond layout (ltb (length bytes) width) (Err BadFrame) (Ok (big_number width bytes, drop width bytes)) tt tt

utf8_within : (layout : Layout) (bytes : List ℕ) → Within layout (utf8_of bytes)
utf8_within layout bytes = within_cond layout (is_utf8 bytes) (Ok bytes) (Err NotText) tt tt

text_within : (layout : Layout) (len : ℕ) (bytes : List ℕ) → Within layout (text_at len bytes)
unfolding text_at
text_within layout len bytes =
    within_cond layout (ltb (length bytes) len) (Err BadFrame) (utf8_of (take len bytes) >>= λ t. Ok (t, drop len bytes)) tt
    (within_bind layout (utf8_of (take len bytes)) (λ t. Ok (t, drop len bytes)) (utf8_within layout (take len bytes)) (λ t is. tt))

sized_within : (layout : Layout) (width most : ℕ) (too_long : Refusal) → IsRecordRefusal layout too_long → (bytes : List ℕ) → Within layout (sized_at width most too_long bytes)
unfolding sized_at
sized_within layout width most too_long h bytes =
    within_bind layout (number_at width bytes) (λ len. cond (ltb most len.0) (Err too_long) (text_at len.0 len.1)) (number_within layout width bytes)
    (λ len is. within_cond layout (ltb most len.0) (Err too_long) (text_at len.0 len.1) h (text_within layout len.0 len.1))

within_test : {A : Type 0} (layout : Layout) (b : Bool) (r s : Result A Refusal) → (b ≡ true → Within layout r) → Within layout s → Within layout (cond b r s)
within_test layout true r s h k = h refl
within_test layout false r s h k = k

-- a length above the limit is one that its bytes can say
key_within : (layout : Layout) (bytes : List ℕ) → IsBytes bytes → Within layout (key_at layout bytes)
unfolding key_at sized_at
key_within layout bytes fits =
    within_bind layout (number_at layout.key_width bytes) (λ len. cond (ltb layout.key_limit len.0) (Err KeyTooLong) (text_at len.0 len.1)) (number_within layout layout.key_width bytes)
    (λ len is.
    let below = ((number_agrees layout.key_width).takes bytes len.0 len.1 fits is).1 in
    within_test layout (ltb layout.key_limit len.0) (Err KeyTooLong) (text_at len.0 len.1)
    (λ e. omega (arith, ltb-true layout.key_limit len.0 e, below)) (text_within layout len.0 len.1))

int_within : (layout : Layout) (bytes : List ℕ) → Within layout (int_at bytes)
unfolding int_at
int_within layout bytes = within_made layout (λ bits. cast_signed w64 bits) (number_at 8 bytes) (number_within layout 8 bytes)

value_within : (layout : Layout) (bytes : List ℕ) → Within layout (value_at bytes)
unfolding value_at
value_within layout [] = tt
value_within layout (zero ∷ rest) = tt
value_within layout (suc zero ∷ rest) = within_made layout (λ number. Some (Int number)) (int_at rest) (int_within layout rest)
value_within layout (suc (suc zero) ∷ rest) = within_made layout (λ text. Some (Text text)) (sized_at 2 4096 ValueTooLong rest) (sized_within layout 2 4096 ValueTooLong tt rest)
value_within layout (suc (suc (suc kind)) ∷ rest) = tt

present_within : (layout : Layout) (v : Option Value) → Within layout (present v)
present_within layout None = tt
present_within layout (Some v) = tt

some_value_within : (layout : Layout) (bytes : List ℕ) → Within layout (some_value_at bytes)
unfolding some_value_at
some_value_within layout bytes =
    within_bind layout (value_at bytes) (λ v. present v.0 >>= λ c. Ok (c, v.1)) (value_within layout bytes)
    (λ v is. within_bind layout (present v.0) (λ c. Ok (c, v.1)) (present_within layout v.0) (λ c is'. tt))

numbered_within : {A : Type 0} (layout : Layout) (number_of : A → ℕ) (unknown : Refusal) (all : List A) (n : ℕ) → IsRecordRefusal layout unknown → Within layout (numbered number_of unknown all n)
unfolding numbered
numbered_within layout number_of unknown [] n h = h
numbered_within layout number_of unknown (x ∷ all) n h = within_cond layout _ (Ok x) (numbered number_of unknown all n) tt (numbered_within layout number_of unknown all n h)

numbered_at_within : {A : Type 0} (layout : Layout) (number_of : A → ℕ) (unknown : Refusal) (all : List A) (bytes : List ℕ) → IsRecordRefusal layout unknown → Within layout (numbered_at number_of unknown all bytes)
unfolding numbered_at
numbered_at_within layout number_of unknown all [] h = tt
numbered_at_within layout number_of unknown all (n ∷ rest) h = within_bind layout (numbered number_of unknown all n) (λ x. Ok (x, rest)) (numbered_within layout number_of unknown all n h) (λ x is. tt)

func_within : (layout : Layout) (bytes : List ℕ) → Within layout (func_at bytes)
func_within layout bytes = numbered_at_within layout func_number UnknownFunction all_funcs bytes tt

change_within : (layout : Layout) (method : Method) (bytes : List ℕ) → Within layout (change_at method bytes)
unfolding change_at
change_within layout Put bytes = within_made layout (λ v. change.Put v) (some_value_at bytes) (some_value_within layout bytes)
change_within layout PutIfAbsent bytes = within_made layout (λ v. change.PutIfAbsent v) (some_value_at bytes) (some_value_within layout bytes)
change_within layout Remove bytes = tt
change_within layout RemoveIf bytes = within_made layout (λ v. change.RemoveIf v) (some_value_at bytes) (some_value_within layout bytes)
change_within layout Replace bytes = within_made layout (λ v. change.Replace v) (some_value_at bytes) (some_value_within layout bytes)
change_within layout ReplaceIf bytes =
    within_made layout (λ p. change.ReplaceIf p.0 p.1) (both_at some_value_at some_value_at bytes) (within_both layout some_value_at some_value_at (some_value_within layout) (some_value_within layout) bytes)
change_within layout Compute bytes = within_made layout (λ p. change.Compute p.0 p.1) (both_at func_at value_at bytes) (within_both layout func_at value_at (func_within layout) (value_within layout) bytes)
change_within layout ComputeIfAbsent bytes = within_made layout (λ p. change.ComputeIfAbsent p.0 p.1) (both_at func_at value_at bytes) (within_both layout func_at value_at (func_within layout) (value_within layout) bytes)
change_within layout ComputeIfPresent bytes = within_made layout (λ p. change.ComputeIfPresent p.0 p.1) (both_at func_at value_at bytes) (within_both layout func_at value_at (func_within layout) (value_within layout) bytes)
change_within layout Merge bytes = within_made layout (λ p. change.Merge p.0 p.1) (both_at func_at some_value_at bytes) (within_both layout func_at some_value_at (func_within layout) (some_value_within layout) bytes)

record_within : (layout : Layout) (bytes : List ℕ) → IsBytes bytes → Within layout (record_at layout bytes)
unfolding record_at
record_within layout bytes fits =
    let command : List ℕ → Change → Command = λ k a. record { key = k; change = a } in
    within_bind layout (method_at bytes) (λ m. key_at layout m.1 >>= λ k. change_at m.0 k.1 >>= λ a. Ok (command k.0 a.0, a.1))
    (numbered_at_within layout method_number UnknownMethod all_methods bytes tt)
    (λ m is.
    let rest_fits = (method_agrees.takes bytes m.0 m.1 fits is).0.rest_fits in
    within_bind layout (key_at layout m.1) (λ k. change_at m.0 k.1 >>= λ a. Ok (command k.0 a.0, a.1)) (key_within layout m.1 rest_fits)
    (λ k is'. within_bind layout (change_at m.0 k.1) (λ a. Ok (command k.0 a.0, a.1)) (change_within layout m.0 k.1) (λ a is''. tt)))

-- a refusal is one of them
pub refused_within : (layout : Layout) (bytes : List ℕ) (refusal : Refusal) → IsBytes bytes → (refusal ≡ NoMemory) ⊎ (record_at layout bytes ≡ Err refusal) → IsRecordRefusal layout refusal
refused_within layout bytes refusal fits (inl e) = rw e tt
refused_within layout bytes refusal fits (inr e) = subst (λ (r : Result (Command × List ℕ) Refusal). Within layout r) e (record_within layout bytes fits)
