-- Tallies join in any order and any grouping, and what they come to is the plain left fold.
use Rattle.std.proofs.Common.{◌≡◌, ℕ, List, [], ◌∷◌, map, fold, refl, sym, ap, ◌∙◌, arith}
use Rattle.std.specs.Prelude.{ℤ, ◌+ℤ◌}
use Rattle.std.specs.Int.{int_max, int_min, int_wrap}
use mir.Syntax.{w64}
use Rattle.std.proofs.lemmas.Int.{ints, int_max_is, int_min_is, int_wrap-add_left, int_wrap-add_right}
use Rattle.std.specs.FinMap as finite
use Rattle.map_types.specs.declared.commands.Func.{Func}
use Rattle.map_types.specs.declared.commands.Func.TheVariants.{Const, Drop, Keep, Sum, Max, Min, Concat, SumNonzero, SumExact}
use Rattle.map_types.specs.declared.texts.Value.{Value}
use Rattle.map_types.specs.declared.texts.Value.TheVariants.{Int, Text}
use Rattle.named_functions.specs.Functions.{wrapping_sum, combine_of}
use Rattle.bin_table.specs.Chains.{Entries, HasDistinctKeys}
use Rattle.bulk_tasks.specs.declared.tally.Tally.{Tally}
use Rattle.bulk_tasks.specs.Tallies.{Nothing, Number, WrongKind, tally_of, joined, counted, tally_of_entries, answer_of}
use Rattle.bulk_tasks.specs.Bulk.{folded, reduction_of, IsReducing}
use Rattle.bulk_tasks.proofs.AnyOrder.{in_any_order}

max_assoc : (a b c : ℤ) → int_max (int_max a b) c ≡ int_max a (int_max b c)
max_assoc a b c = omega (arith, ints, int_max_is a b, int_max_is (int_max a b) c, int_max_is b c, int_max_is a (int_max b c))

max_comm : (a b : ℤ) → int_max a b ≡ int_max b a
max_comm a b = omega (arith, ints, int_max_is a b, int_max_is b a)

min_assoc : (a b c : ℤ) → int_min (int_min a b) c ≡ int_min a (int_min b c)
min_assoc a b c = omega (arith, ints, int_min_is a b, int_min_is (int_min a b) c, int_min_is b c, int_min_is a (int_min b c))

min_comm : (a b : ℤ) → int_min a b ≡ int_min b a
min_comm a b = omega (arith, ints, int_min_is a b, int_min_is b a)

sum_assoc : (a b c : ℤ) → wrapping_sum (wrapping_sum a b) c ≡ wrapping_sum a (wrapping_sum b c)
sum_assoc a b c =
    let same : (a +ℤ b) +ℤ c ≡ a +ℤ (b +ℤ c) = omega (arith, ints) in
    int_wrap-add_left w64 (a +ℤ b) c ∙ ap (int_wrap w64) same ∙ sym (int_wrap-add_right w64 a (b +ℤ c))

sum_comm : (a b : ℤ) → wrapping_sum a b ≡ wrapping_sum b a
sum_comm a b =
    let same : a +ℤ b ≡ b +ℤ a = omega (arith, ints) in
    ap (int_wrap w64) same

combine_assoc : (f : Func) (a b c : ℤ) → combine_of f (combine_of f a b) c ≡ combine_of f a (combine_of f b c)
combine_assoc Max a b c = max_assoc a b c
combine_assoc Min a b c = min_assoc a b c
combine_assoc Const a b c = sum_assoc a b c
combine_assoc Drop a b c = sum_assoc a b c
combine_assoc Keep a b c = sum_assoc a b c
combine_assoc Sum a b c = sum_assoc a b c
combine_assoc Concat a b c = sum_assoc a b c
combine_assoc SumNonzero a b c = sum_assoc a b c
combine_assoc SumExact a b c = sum_assoc a b c

combine_comm : (f : Func) (a b : ℤ) → combine_of f a b ≡ combine_of f b a
combine_comm Max a b = max_comm a b
combine_comm Min a b = min_comm a b
combine_comm Const a b = sum_comm a b
combine_comm Drop a b = sum_comm a b
combine_comm Keep a b = sum_comm a b
combine_comm Sum a b = sum_comm a b
combine_comm Concat a b = sum_comm a b
combine_comm SumNonzero a b = sum_comm a b
combine_comm SumExact a b = sum_comm a b

pub joined_assoc : (f : Func) (a b c : Tally) → joined f (joined f a b) c ≡ joined f a (joined f b c)
joined_assoc f Nothing b c = refl
joined_assoc f (Number a) Nothing c = refl
joined_assoc f (Number a) (Number b) Nothing = refl
joined_assoc f (Number a) (Number b) (Number c) = ap Number (combine_assoc f a b c)
joined_assoc f (Number a) (Number b) WrongKind = refl
joined_assoc f (Number a) WrongKind Nothing = refl
joined_assoc f (Number a) WrongKind (Number c) = refl
joined_assoc f (Number a) WrongKind WrongKind = refl
joined_assoc f WrongKind Nothing c = refl
joined_assoc f WrongKind (Number b) Nothing = refl
joined_assoc f WrongKind (Number b) (Number c) = refl
joined_assoc f WrongKind (Number b) WrongKind = refl
joined_assoc f WrongKind WrongKind Nothing = refl
joined_assoc f WrongKind WrongKind (Number c) = refl
joined_assoc f WrongKind WrongKind WrongKind = refl

pub joined_comm : (f : Func) (a b : Tally) → joined f a b ≡ joined f b a
joined_comm f Nothing Nothing = refl
joined_comm f Nothing (Number b) = refl
joined_comm f Nothing WrongKind = refl
joined_comm f (Number a) Nothing = refl
joined_comm f (Number a) (Number b) = ap Number (combine_comm f a b)
joined_comm f (Number a) WrongKind = refl
joined_comm f WrongKind Nothing = refl
joined_comm f WrongKind (Number b) = refl
joined_comm f WrongKind WrongKind = refl

pub joined_unit : (f : Func) (a : Tally) → joined f a Nothing ≡ a
joined_unit f Nothing = refl
joined_unit f (Number a) = refl
joined_unit f WrongKind = refl

counted_swaps : (f : Func) (t : Tally) (d e : List ℕ × Value) → counted f (counted f t d) e ≡ counted f (counted f t e) d
counted_swaps f t d e =
    joined_assoc f t (tally_of d.1) (tally_of e.1) ∙ ap (joined f t) (joined_comm f (tally_of d.1) (tally_of e.1)) ∙ sym (joined_assoc f t (tally_of e.1) (tally_of d.1))

-- one more value, by the function's table
one_more : (f : Func) (t : Tally) (v : Value) → IsReducing f → folded f (answer_of t) v ≡ answer_of (joined f t (tally_of v))
one_more Sum Nothing (Int n) r = refl
one_more Sum Nothing (Text x) r = refl
one_more Sum (Number a) (Int n) r = refl
one_more Sum (Number a) (Text x) r = refl
one_more Sum WrongKind (Int n) r = refl
one_more Sum WrongKind (Text x) r = refl
one_more Max Nothing (Int n) r = refl
one_more Max Nothing (Text x) r = refl
one_more Max (Number a) (Int n) r = refl
one_more Max (Number a) (Text x) r = refl
one_more Max WrongKind (Int n) r = refl
one_more Max WrongKind (Text x) r = refl
one_more Min Nothing (Int n) r = refl
one_more Min Nothing (Text x) r = refl
one_more Min (Number a) (Int n) r = refl
one_more Min (Number a) (Text x) r = refl
one_more Min WrongKind (Int n) r = refl
one_more Min WrongKind (Text x) r = refl
one_more Const t v r = absurd r
one_more Drop t v r = absurd r
one_more Keep t v r = absurd r
one_more Concat t v r = absurd r
one_more SumNonzero t v r = absurd r
one_more SumExact t v r = absurd r

in_turn : (f : Func) (t : Tally) (es : Entries) → IsReducing f → fold (folded f) (answer_of t) (map (λ (e : List ℕ × Value). e.1) es) ≡ answer_of (fold (counted f) t es)
in_turn f t [] r = refl
in_turn f t (e ∷ es) r = ap (λ a. fold (folded f) a (map (λ (e : List ℕ × Value). e.1) es)) (one_more f t e.1 r) ∙ in_turn f (counted f t e) es r

-- the tally of the entries, in whatever order they stand, answers the plain left fold in byte order of the keys
pub reduces : (f : Func) (es : Entries) → HasDistinctKeys es → IsReducing f → answer_of (tally_of_entries f es) ≡ reduction_of f (finite.from_entries es)
reduces f es one r = ap answer_of (sym (in_any_order (counted f) (counted_swaps f) es Nothing one)) ∙ sym (in_turn f Nothing (finite.entries (finite.from_entries es)) r)
