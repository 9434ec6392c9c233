-- Each call of all has words, and the words of a call of a key are that call.
use Rattle.std.proofs.Common.{◌≡◌, ◌⊎◌, ◌<◌, ◌^◌, ℕ, Bool, true, false, cond, List, [], ◌∷◌, Option, Some, None, Ok, refl, ◌∙◌, ap, subst, inl, inr, codes}
use Rattle.std.proofs.lemmas.Slice.Eq.{bytes_eq-Decides}
use Rattle.std.specs.Fmt.{decimal}
use Rattle.std.specs.Option.{ok_or}
use Rattle.std.specs.Str.{bytes_eq}
use Rattle.map_types.specs.declared.commands.Func.{Func}
use Rattle.map_types.specs.declared.commands.Func.TheVariants as func
use Rattle.map_types.specs.declared.texts.Value.{Value}
use Rattle.call_text.specs.declared.asked.Asked.{Asked}
use Rattle.call_text.specs.declared.bad_word.BadWord.TheVariants.{Threshold as NoThreshold}
use Rattle.call_text.specs.declared.called.Called.TheVariants as called
use Rattle.call_text.specs.declared.names.BulkMethod.{BulkMethod}
use Rattle.call_text.specs.declared.names.BulkMethod.TheVariants.{Count, Reduce, Search}
use Rattle.call_text.specs.Agreement.{EachCallHasWords, IsValue, KeyedIsCalled}
use Rattle.call_text.specs.Calls.{parse_call}
use Rattle.call_text.specs.Names.{Text, bulk_named}
use Rattle.call_text.specs.Values.{◌>>=◌, value_of, value_word}
use Rattle.call_text.specs.Whole.{bulk_of, named_call, parse_words, reduce_of, reduces, reducing_of, search_of, threshold_of}
use Rattle.call_text.proofs.CallWords.{has_words, value_is_read}
use Rattle.call_text.proofs.Thresholds.{printed_threshold}

-- ---- a call of a key

-- the name of a method of the whole map
abbrev IsBulkName : Text → Type 0
IsBulkName name = (name ≡ codes "count") ⊎ ((name ≡ codes "reduce") ⊎ (name ≡ codes "search"))

abbrev tested : Bool → Bool → Bool → Option BulkMethod
tested is_count is_reduce is_search = cond is_count (Some Count) (cond is_reduce (Some Reduce) (cond is_search (Some Search) None))

named_by : (name : Text) (a b c : Bool) → bytes_eq name (codes "count") ≡ a → bytes_eq name (codes "reduce") ≡ b → bytes_eq name (codes "search") ≡ c
    → (method : BulkMethod) → tested a b c ≡ Some method → IsBulkName name
named_by name true b c p q r method e = inl ((bytes_eq-Decides name (codes "count")).0 p)
named_by name false true c p q r method e = inr (inl ((bytes_eq-Decides name (codes "reduce")).0 q))
named_by name false false true p q r method e = inr (inr ((bytes_eq-Decides name (codes "search")).0 r))
named_by name false false false p q r method e = absurd cc

is_bulk_name : (name : Text) (method : BulkMethod) → bulk_named name ≡ Some method → IsBulkName name
is_bulk_name name method e =
    named_by name (bytes_eq name (codes "count")) (bytes_eq name (codes "reduce")) (bytes_eq name (codes "search")) refl refl refl method e

-- no call of a key begins with that name
unkeyed : (name known : Text) (words : List Text) (asked : Asked) → name ≡ known → (parse_call (known ∷ words) ≡ Ok asked → ⊥) → parse_call (name ∷ words) ≡ Ok asked → ⊥
unkeyed name known words asked same never e = never (subst (λ (n : Text). parse_call (n ∷ words) ≡ Ok asked) same e)

never_count : (words : List Text) (asked : Asked) → parse_call (codes "count" ∷ words) ≡ Ok asked → ⊥
unfolding parse_call
never_count words asked e = cc

never_reduce : (words : List Text) (asked : Asked) → parse_call (codes "reduce" ∷ words) ≡ Ok asked → ⊥
unfolding parse_call
never_reduce words asked e = cc

never_search : (words : List Text) (asked : Asked) → parse_call (codes "search" ∷ words) ≡ Ok asked → ⊥
unfolding parse_call
never_search words asked e = cc

never_bulk : (name : Text) (words : List Text) (asked : Asked) → IsBulkName name → parse_call (name ∷ words) ≡ Ok asked → ⊥
never_bulk name words asked (inl same) e = unkeyed name (codes "count") words asked same (never_count words asked) e
never_bulk name words asked (inr (inl same)) e = unkeyed name (codes "reduce") words asked same (never_reduce words asked) e
never_bulk name words asked (inr (inr same)) e = unkeyed name (codes "search") words asked same (never_search words asked) e

called_as : (name : Text) (words : List Text) (asked : Asked) → parse_call (name ∷ words) ≡ Ok asked
    → (found : Option BulkMethod) → bulk_named name ≡ found → named_call found name words ≡ Ok (called.Keyed asked)
called_as name words asked e (Some method) is = absurd (never_bulk name words asked (is_bulk_name name method is) e)
called_as name words asked e None is = ap (λ r. r >>= λ x. Ok (called.Keyed x)) e

pub keyed_is_called : KeyedIsCalled
unfolding parse_call parse_words
keyed_is_called [] asked e = absurd cc
keyed_is_called (name ∷ words) asked e = called_as name words asked e (bulk_named name) refl

-- ---- each call has words

threshold_is_read : (threshold : ℕ) → threshold < 2 ^ 64 → threshold_of (decimal threshold) ≡ Ok threshold
threshold_is_read threshold fits = ap (λ n. ok_or n NoThreshold) (printed_threshold threshold fits)

reducing_has_name : (f : Func) → reduces f ≡ true → (name : Text) × (reducing_of name ≡ Ok f)
unfolding reducing_of
reducing_has_name func.Sum fits = (codes "SUM", refl)
reducing_has_name func.Max fits = (codes "MAX", refl)
reducing_has_name func.Min fits = (codes "MIN", refl)
reducing_has_name f fits = absurd cc

reduce_words : (f : Func) (threshold : ℕ) → reduces f ≡ true → threshold < 2 ^ 64 → (words : List Text) × (reduce_of words ≡ Ok (called.Reduce f threshold))
unfolding reduce_of
reduce_words f threshold reducing fits =
    let name = reducing_has_name f reducing in (
      name.0 ∷ decimal threshold ∷ [],
      ap (λ r. r >>= λ x. threshold_of (decimal threshold) >>= λ y. Ok (called.Reduce x y)) name.1
          ∙ ap (λ r. r >>= λ y. Ok (called.Reduce f y)) (threshold_is_read threshold fits),
    )

search_words : (threshold : ℕ) (value : Value) → threshold < 2 ^ 64 → IsValue value → (words : List Text) × (search_of words ≡ Ok (called.Search threshold value))
unfolding search_of
search_words threshold value fits is = (
  decimal threshold ∷ value_word (Some value) ∷ [],
  ap (λ r. r >>= λ x. value_of (value_word (Some value)) >>= λ y. Ok (called.Search x y)) (threshold_is_read threshold fits)
      ∙ ap (λ r. r >>= λ y. Ok (called.Search threshold y)) (value_is_read value is),
)

pub each_call_has_words : EachCallHasWords
unfolding parse_words bulk_of
each_call_has_words (called.Keyed asked) fits =
    let words = has_words asked fits in
    (words.0, keyed_is_called words.0 asked words.1)
each_call_has_words called.Count fits = (codes "count" ∷ [], refl)
each_call_has_words (called.Reduce f threshold) fits =
    let words = reduce_words f threshold fits.0 fits.1 in
    (codes "reduce" ∷ words.0, words.1)
each_call_has_words (called.Search threshold value) fits =
    let words = search_words threshold value fits.0 fits.1 in
    (codes "search" ∷ words.0, words.1)
