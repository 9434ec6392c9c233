-- A field that is read is the field that was written, and what was written is read again, whatever follows it.
use Rattle.std.proofs.Common.{◌≡◌, ◌≤◌, ◌<◌, ℕ, zero, suc, ◌^◌, ℤ, Bool, true, false, cond, ltb, List, [], ◌∷◌, ◌++◌, length, take, drop, Option, Some, None, Result, Ok, Err, refl, sym, ap, subst, ◌∙◌, append_assoc, arith}
use Rattle.std.specs.Prelude.{FitsSigned}
use Rattle.std.specs.Int.{w64, cast_signed, cast_unsigned}
use Rattle.std.specs.Str.{IsUtf8, is_utf8}
use Rattle.std.proofs.lemmas.Bool.{ltb-false, le-ltb}
use Rattle.std.proofs.lemmas.Str.{is_utf8-from_IsUtf8, IsUtf8-from_is_utf8}
use Rattle.std.proofs.lemmas.Int.{of_z-to_z, to_z-of_z}
use mir.ValLaws.{to_z-Fits, of_z_fits}
use Rattle.std.proofs.lemmas.List.{take_at, drop_at, take-append-drop, length-append, length-take-le}
use Rattle.byteorder.specs.Endian.{big_number, big_bytes}
use Rattle.byteorder.specs.Numbers.{big_from-lt, big_number-reads_back, length-bytes_high_first}
use Rattle.map_types.specs.declared.refusals.Refusal.{Refusal}
use Rattle.map_types.specs.declared.refusals.Refusal.TheVariants.{KeyTooLong, ValueTooLong, UnknownMethod, UnknownFunction, BadFrame, NotText}
use Rattle.map_types.specs.declared.texts.Value.{Value}
use Rattle.map_types.specs.declared.texts.Value.TheVariants.{Int, Text}
use Rattle.log_records.specs.Layout.{Layout, IsLayout}
use Rattle.log_records.specs.Agreement.{IsBytes, Takes, Agrees}
use Rattle.log_records.specs.Spelling.{sized_bytes, key_bytes, value_bytes, Any, IsText, IsValue, IsArgument}
use Rattle.log_records.specs.Reading.{◌>>=◌, made, numbered, numbered_at, number_at, utf8_of, text_at, sized_at, key_at, int_at, value_at, present, some_value_at, func_at, method_at}
use Rattle.log_records.proofs.Agreeing.{bind_ok, ok_is, made_ok, Takes-then, Takes-behind}
use Rattle.log_records.proofs.Digits.{IsBytes-rest, IsBytes-drop, big_bytes-big_number}
use Rattle.log_records.proofs.Numbered.{number-numbered, func_known, method_known}
use Rattle.log_records.specs.Methods.{method_number, all_methods, all_funcs}
use Rattle.map_types.specs.Numbers.{func_number}

-- a test that did not fail
guard_ok : {A : Type 0} (b : Bool) (d : Refusal) (r : Result A Refusal) (y : A) → cond b (Err d) r ≡ Ok y → (b ≡ false) × (r ≡ Ok y)
guard_ok true d r y e = absurd cc
guard_ok false d r y e = (refl, e)

guard_yes : {A : Type 0} (b : Bool) (d : Refusal) (r : Result A Refusal) (y : A) → cond b r (Err d) ≡ Ok y → (b ≡ true) × (r ≡ Ok y)
guard_yes true d r y e = (refl, e)
guard_yes false d r y e = absurd cc

abbrev done : {A : Type 0} → A → Result A Refusal
done x = Ok x

-- ---- numbers

pub number_agrees : (width : ℕ) → Agrees (number_at width) (big_bytes width) (λ n. n < 256 ^ width)
unfolding number_at
number_agrees width = record {
  takes = λ bytes n rest fits e.
      let g = guard_ok (ltb (length bytes) width) BadFrame (Ok (big_number width bytes, drop width bytes)) (n, rest) e in
      let long : width ≤ length bytes = ltb-false _ _ g.0 in
      let is = ok_is (big_number width bytes, drop width bytes) (n, rest) g.1 in
      let front = big_bytes-big_number width bytes long fits in
      let first : Takes bytes (big_bytes width (big_number width bytes)) (drop width bytes) = record {
        parts = sym (take-append-drop width bytes) ∙ ap (λ (t : List ℕ). t ++ drop width bytes) (sym front);
        rest_fits = IsBytes-drop width bytes fits;
      } in
      subst (λ (z : ℕ × List ℕ). Takes bytes (big_bytes width z.0) z.1 × (z.0 < 256 ^ width)) is (first, big_from-lt 0 width bytes fits);
  again = λ n rest fits.
      let len : length (big_bytes width n) ≡ width = length-bytes_high_first width n in
      let long : ltb (length (big_bytes width n ++ rest)) width ≡ false = le-ltb _ _ (omega (arith, len, length-append (big_bytes width n) rest)) in
      let back = big_number-reads_back width n rest fits in
      let behind = drop_at (big_bytes width n) rest width len in
      rw (long, back, behind) refl;
}

-- ---- texts

text_takes : (n : ℕ) (bytes text rest : List ℕ) → IsBytes bytes → text_at n bytes ≡ Ok (text, rest) → Takes bytes text rest × (length text ≡ n) × IsUtf8 text
unfolding text_at
text_takes n bytes text rest fits e =
    let g = guard_ok (ltb (length bytes) n) BadFrame (utf8_of (take n bytes) >>= λ t. Ok (t, drop n bytes)) (text, rest) e in
    let long : n ≤ length bytes = ltb-false _ _ g.0 in
    let b = bind_ok (utf8_of (take n bytes)) (λ t. Ok (t, drop n bytes)) (text, rest) g.1 in
    let u = guard_yes (is_utf8 (take n bytes)) NotText (Ok (take n bytes)) b.0 b.1 in
    let is : (take n bytes, drop n bytes) ≡ (text, rest) = ap (λ (t : List ℕ). (t, drop n bytes)) (ok_is (take n bytes) b.0 u.1) ∙ ok_is (b.0, drop n bytes) (text, rest) b.2 in
    let first : Takes bytes (take n bytes) (drop n bytes) = record { parts = sym (take-append-drop n bytes); rest_fits = IsBytes-drop n bytes fits } in
    subst (λ (p : List ℕ × List ℕ). Takes bytes p.0 p.1 × (length p.0 ≡ n) × IsUtf8 p.0) is (first, length-take-le n bytes long, IsUtf8-from_is_utf8 _ u.0)

text_again : (text rest : List ℕ) → IsUtf8 text → text_at (length text) (text ++ rest) ≡ Ok (text, rest)
unfolding text_at
text_again text rest utf8 =
    let long : ltb (length (text ++ rest)) (length text) ≡ false = le-ltb _ _ (omega (arith, length-append text rest)) in
    rw (long, take_at text rest (length text) refl, drop_at text rest (length text) refl, is_utf8-from_IsUtf8 text utf8) refl

pub sized_agrees : (width most : ℕ) (too_long : Refusal) → most < 256 ^ width → Agrees (sized_at width most too_long) (sized_bytes width) (IsText most)
unfolding sized_at
sized_agrees width most too_long room = record {
  takes = λ bytes text rest fits e.
      let a = bind_ok (number_at width bytes) (λ len. cond (ltb most len.0) (Err too_long) (text_at len.0 len.1)) (text, rest) e in
      let n = (number_agrees width).takes bytes a.0.0 a.0.1 fits a.1 in
      let g = guard_ok (ltb most a.0.0) too_long (text_at a.0.0 a.0.1) (text, rest) a.2 in
      let short : a.0.0 ≤ most = ltb-false _ _ g.0 in
      let t = text_takes a.0.0 a.0.1 text rest n.0.rest_fits g.1 in
      let both = Takes-then bytes (big_bytes width a.0.0) a.0.1 text rest n.0 t.0 in
      (subst (λ (k : ℕ). Takes bytes (big_bytes width k ++ text) rest) (sym t.1) both, (omega (arith, t.1, short), t.2));
  again = λ text rest fits.
      let whole = append_assoc (big_bytes width (length text)) text rest in
      let small : length text < 256 ^ width = omega (arith, fits.0, room) in
      let number = (number_agrees width).again (length text) (text ++ rest) small in
      let short : ltb most (length text) ≡ false = le-ltb _ _ fits.0 in
      ap (sized_at width most too_long) whole ∙ rw (number, short) (text_again text rest fits.1);
}

pub key_agrees : (layout : Layout) → IsLayout layout → Agrees (key_at layout) (key_bytes layout) (IsText layout.key_limit)
unfolding key_at
key_agrees layout room = sized_agrees layout.key_width layout.key_limit KeyTooLong room

-- ---- values

pub int_agrees : Agrees int_at (λ z. big_bytes 8 (cast_unsigned w64 z)) (λ z. FitsSigned w64 z)
unfolding int_at
int_agrees = record {
  takes = λ bytes z rest fits e.
      let b = made_ok (λ bits. cast_signed w64 bits) (number_at 8 bytes) z rest e in
      let n = (number_agrees 8).takes bytes b.0 rest fits b.1 in
      let back : cast_unsigned w64 (cast_signed w64 b.0) ≡ b.0 = of_z-to_z w64 b.0 n.1 in
      let taken : Takes bytes (big_bytes 8 (cast_unsigned w64 (cast_signed w64 b.0))) rest = subst (λ (k : ℕ). Takes bytes (big_bytes 8 k) rest) (sym back) n.0 in
      subst (λ (y : ℤ). Takes bytes (big_bytes 8 (cast_unsigned w64 y)) rest × FitsSigned w64 y) b.2 (taken, to_z-Fits w64 b.0 (record { fits = n.1 }));
  again = λ z rest fits.
      let number = (number_agrees 8).again (cast_unsigned w64 z) rest (of_z_fits w64 z fits).fits in
      ap (made (λ bits. cast_signed w64 bits)) number ∙ ap (λ (y : ℤ). done (y, rest)) (to_z-of_z w64 z fits);
}

value_takes : (bytes : List ℕ) (v : Option Value) (rest : List ℕ) → IsBytes bytes → value_at bytes ≡ Ok (v, rest) → Takes bytes (value_bytes v) rest × IsArgument v
unfolding value_at
value_takes [] v rest fits e = absurd cc
value_takes (zero ∷ bytes) v rest fits e =
    subst (λ (x : Option Value × List ℕ). Takes (0 ∷ bytes) (value_bytes x.0) x.1 × IsArgument x.0) (ok_is (None, bytes) (v, rest) e) (record { parts = refl; rest_fits = IsBytes-rest 0 bytes fits }, tt)
value_takes (suc zero ∷ bytes) v rest fits e =
    let b = made_ok (λ number. Some (Int number)) (int_at bytes) v rest e in
    let t = int_agrees.takes bytes b.0 rest (IsBytes-rest 1 bytes fits) b.1 in
    subst (λ (x : Option Value). Takes (1 ∷ bytes) (value_bytes x) rest × IsArgument x) b.2 (Takes-behind 1 bytes _ _ t.0, t.1)
value_takes (suc (suc zero) ∷ bytes) v rest fits e =
    let b = made_ok (λ text. Some (Text text)) (sized_at 2 4096 ValueTooLong bytes) v rest e in
    let t = (sized_agrees 2 4096 ValueTooLong (omega arith)).takes bytes b.0 rest (IsBytes-rest 2 bytes fits) b.1 in
    subst (λ (x : Option Value). Takes (2 ∷ bytes) (value_bytes x) rest × IsArgument x) b.2 (Takes-behind 2 bytes _ _ t.0, t.1)
value_takes (suc (suc (suc k)) ∷ bytes) v rest fits e = absurd cc

value_again : (v : Option Value) (rest : List ℕ) → IsArgument v → value_at (value_bytes v ++ rest) ≡ Ok (v, rest)
unfolding value_at
value_again None rest fits = refl
value_again (Some (Int z)) rest fits = ap (made (λ number. Some (Int number))) (int_agrees.again z rest fits)
value_again (Some (Text t)) rest fits = ap (made (λ text. Some (Text text))) ((sized_agrees 2 4096 ValueTooLong (omega arith)).again t rest fits)

pub value_agrees : Agrees value_at value_bytes IsArgument
value_agrees = record { takes = value_takes; again = value_again }

present_ok : (v : Option Value) (c : Value) → present v ≡ Ok c → v ≡ Some c
present_ok None c e = absurd cc
present_ok (Some d) c e = ap (λ (x : Value). Some x) (ok_is d c e)

pub some_value_agrees : Agrees some_value_at (λ v. value_bytes (Some v)) IsValue
unfolding some_value_at
some_value_agrees = record {
  takes = λ bytes c rest fits e.
      let a = bind_ok (value_at bytes) (λ v. present v.0 >>= λ d. Ok (d, v.1)) (c, rest) e in
      let b = bind_ok (present a.0.0) (λ d. Ok (d, a.0.1)) (c, rest) a.2 in
      let is = ok_is (b.0, a.0.1) (c, rest) b.2 in
      let t = value_takes bytes a.0.0 a.0.1 fits a.1 in
      let taken = subst (λ (v : Option Value). Takes bytes (value_bytes v) a.0.1 × IsArgument v) (present_ok a.0.0 b.0 b.1) t in
      subst (λ (x : Value × List ℕ). Takes bytes (value_bytes (Some x.0)) x.1 × IsValue x.0) is taken;
  again = λ c rest fits. ap (λ (r : Result (Option Value × List ℕ) Refusal). r >>= λ v. present v.0 >>= λ d. Ok (d, v.1)) (value_again (Some c) rest fits);
}

-- ---- functions and methods

numbered_at_agrees : {A : Type 0} (number_of : A → ℕ) (unknown : Refusal) (all : List A)
    → ((x : A) → numbered number_of unknown all (number_of x) ≡ Ok x)
    → Agrees (numbered_at number_of unknown all) (λ x. number_of x ∷ []) Any
unfolding numbered_at
numbered_at_agrees {A = A} number_of unknown all known = record {
  takes = λ bytes x rest fits e. numbered_takes bytes x rest fits e;
  again = λ x rest fits. ap (λ (r : Result A Refusal). r >>= λ y. Ok (y, rest)) (known x);
}
  where
    numbered_takes : (bytes : List ℕ) (x : A) (rest : List ℕ) → IsBytes bytes → numbered_at number_of unknown all bytes ≡ Ok (x, rest) → Takes bytes (number_of x ∷ []) rest × Any x
    numbered_takes [] x rest fits e = absurd cc
    numbered_takes (n ∷ bytes) x rest fits e =
        let b = bind_ok (numbered number_of unknown all n) (λ y. Ok (y, bytes)) (x, rest) e in
        let is = ok_is (b.0, bytes) (x, rest) b.2 in
        let has : number_of b.0 ≡ n = number-numbered number_of unknown all n b.0 b.1 in
        let taken : Takes (n ∷ bytes) (number_of b.0 ∷ []) bytes = record { parts = ap (λ (k : ℕ). k ∷ bytes) (sym has); rest_fits = IsBytes-rest n bytes fits } in
        subst (λ (z : A × List ℕ). Takes (n ∷ bytes) (number_of z.0 ∷ []) z.1 × Any z.0) is (taken, tt)

pub func_agrees : Agrees func_at (λ func. func_number func ∷ []) Any
func_agrees = numbered_at_agrees func_number UnknownFunction all_funcs func_known

pub method_agrees : Agrees method_at (λ method. method_number method ∷ []) Any
method_agrees = numbered_at_agrees method_number UnknownMethod all_methods method_known
