-- What is printed is read again, and each call has words.
use Rattle.std.proofs.Common.{◌≡◌, ◌≤◌, ℕ, List, [], ◌∷◌, Option, Some, None, Ok, length, nat_le, true, refl, ◌∙◌, ap, codes, rules}
use Rattle.std.specs.Option.{ok_or, option_map}
use Rattle.map_types.specs.Limits.{most_key_bytes}
use Rattle.map_types.specs.declared.commands.Func.{Func}
use Rattle.map_types.specs.declared.commands.Func.TheVariants as func
use Rattle.map_types.specs.declared.commands.Change.{Change}
use Rattle.map_types.specs.declared.commands.Change.TheVariants as change
use Rattle.map_types.specs.declared.commands.Question.{Question}
use Rattle.map_types.specs.declared.commands.Question.TheVariants as question
use Rattle.map_types.specs.declared.texts.Value.{Value}
use Rattle.map_types.specs.declared.texts.Value.TheVariants.{Int, Text as IsText}
use Rattle.call_text.specs.declared.asked.Asked.{Asked}
use Rattle.call_text.specs.declared.asked.Asked.TheVariants as asked
use Rattle.call_text.specs.declared.bad_word.BadWord.TheVariants.{Absent, Method as NoMethod, Value as NoValue}
use Rattle.call_text.specs.declared.names.ReadMethod.{ReadMethod}
use Rattle.call_text.specs.declared.names.ReadMethod.TheVariants.{Get, GetOrDefault, ContainsKey}
use Rattle.call_text.specs.declared.names.ChangeMethod.{ChangeMethod}
use Rattle.call_text.specs.declared.names.ChangeMethod.TheVariants.{Put, PutIfAbsent, Remove, RemoveIf, Replace, ReplaceIf, Compute, ComputeIfAbsent, ComputeIfPresent, Merge}
use Rattle.call_text.specs.declared.names.Method.{Method}
use Rattle.call_text.specs.declared.names.Method.TheVariants.{Read, Change as Changes}
use Rattle.call_text.specs.Names.{Text, method_named}
use Rattle.call_text.specs.Values.{◌>>=◌, argument_of, value_of, value_word}
use Rattle.call_text.specs.Calls.{asked_of, call_behind, change_of, func_and_argument, func_and_value, func_of, key_of, one_value, parse_call, question_of, two_values}
use Rattle.call_text.specs.Agreement.{EachHasWords, HasValues, IsArgument, IsQuestion, IsValue, PrintedIsRead}
use Rattle.call_text.proofs.ValueWords.{choose_yes, printed_number}

below : (m n : ℕ) → m ≤ n → nat_le m n ≡ true
below m n h = search (rules, h)

pub printed : PrintedIsRead
unfolding argument_of
printed None fits = refl
printed (Some (Int number)) fits = ap (λ n. ok_or (option_map Int n) NoValue >>= λ found. Ok (Some found)) (printed_number number fits)
printed (Some (IsText text)) fits = ap (λ t. t >>= λ found. Ok (Some found)) (choose_yes (nat_le (length text) 4096) _ _ (below _ _ fits))

pub value_is_read : (value : Value) → IsValue value → value_of (value_word (Some value)) ≡ Ok value
unfolding value_of
value_is_read value fits = ap (λ a. a >>= λ found. ok_or found Absent) (printed (Some value) fits)

key_is_read : (key : Text) → length key ≤ most_key_bytes → key_of key ≡ Ok key
key_is_read key fits = choose_yes (nat_le (length key) most_key_bytes) _ _ (below _ _ fits)

func_has_name : (f : Func) → (name : Text) × (func_of name ≡ Ok f)
func_has_name func.Const = (codes "CONST", refl)
func_has_name func.Drop = (codes "DROP", refl)
func_has_name func.Keep = (codes "KEEP", refl)
func_has_name func.Sum = (codes "SUM", refl)
func_has_name func.Max = (codes "MAX", refl)
func_has_name func.Min = (codes "MIN", refl)
func_has_name func.Concat = (codes "CONCAT", refl)
func_has_name func.SumNonzero = (codes "SUM_NONZERO", refl)
func_has_name func.SumExact = (codes "SUM_EXACT", refl)

-- ---- the words behind a key

one : (value : Value) → IsValue value → (words : List Text) × (one_value words ≡ Ok value)
unfolding one_value
one value fits = (value_word (Some value) ∷ [], value_is_read value fits)

two : (old new : Value) → IsValue old → IsValue new → (words : List Text) × (two_values words ≡ Ok (old, new))
unfolding two_values
two old new p q = (
  value_word (Some old) ∷ value_word (Some new) ∷ [],
  ap (λ r. r >>= λ x. value_of (value_word (Some new)) >>= λ y. Ok (x, y)) (value_is_read old p)
      ∙ ap (λ r. r >>= λ y. Ok (old, y)) (value_is_read new q),
)

with_argument : (f : Func) (argument : Option Value) → IsArgument argument → (words : List Text) × (func_and_argument words ≡ Ok (f, argument))
unfolding func_and_argument
with_argument f argument fits =
    let name = func_has_name f in (
      name.0 ∷ value_word argument ∷ [],
      ap (λ r. r >>= λ x. argument_of (value_word argument) >>= λ y. Ok (x, y)) name.1
          ∙ ap (λ r. r >>= λ y. Ok (f, y)) (printed argument fits),
    )

with_value : (f : Func) (value : Value) → IsValue value → (words : List Text) × (func_and_value words ≡ Ok (f, value))
unfolding func_and_value
with_value f value fits =
    let name = func_has_name f in (
      name.0 ∷ value_word (Some value) ∷ [],
      ap (λ r. r >>= λ x. value_of (value_word (Some value)) >>= λ y. Ok (x, y)) name.1
          ∙ ap (λ r. r >>= λ y. Ok (f, y)) (value_is_read value fits),
    )

-- ---- whole calls

record Named (A : Type 0) (M : Type 0) (wrap : M → Method) (made : M → List Text → A) (wanted : A) : Type 0 where
  name : Text
  method : M
  words : List Text
  is_named : method_named name ≡ Some (wrap method)
  is_made : made method words ≡ wanted

asks : (q : Question) → IsQuestion q → Named _ ReadMethod Read question_of (Ok q)
unfolding question_of
asks question.Get fits = record { name = codes "get"; method = Get; words = []; is_named = refl; is_made = refl }
asks (question.GetOrDefault value) fits =
    let w = one value fits in
    record { name = codes "getOrDefault"; method = GetOrDefault; words = w.0; is_named = refl; is_made = ap (λ r. r >>= λ x. Ok (question.GetOrDefault x)) w.1 }
asks question.ContainsKey fits = record { name = codes "containsKey"; method = ContainsKey; words = []; is_named = refl; is_made = refl }

changes : (c : Change) → HasValues c → Named _ ChangeMethod Changes change_of (Ok c)
unfolding change_of
changes (change.Put value) fits =
    let w = one value fits in
    record { name = codes "put"; method = Put; words = w.0; is_named = refl; is_made = ap (λ r. r >>= λ x. Ok (change.Put x)) w.1 }
changes (change.PutIfAbsent value) fits =
    let w = one value fits in
    record { name = codes "putIfAbsent"; method = PutIfAbsent; words = w.0; is_named = refl; is_made = ap (λ r. r >>= λ x. Ok (change.PutIfAbsent x)) w.1 }
changes change.Remove fits = record { name = codes "remove"; method = Remove; words = []; is_named = refl; is_made = refl }
changes (change.RemoveIf value) fits =
    let w = one value fits in
    record { name = codes "removeIf"; method = RemoveIf; words = w.0; is_named = refl; is_made = ap (λ r. r >>= λ x. Ok (change.RemoveIf x)) w.1 }
changes (change.Replace value) fits =
    let w = one value fits in
    record { name = codes "replace"; method = Replace; words = w.0; is_named = refl; is_made = ap (λ r. r >>= λ x. Ok (change.Replace x)) w.1 }
changes (change.ReplaceIf old new) fits =
    let w = two old new fits.0 fits.1 in
    record { name = codes "replaceIf"; method = ReplaceIf; words = w.0; is_named = refl; is_made = ap (λ r. r >>= λ x. Ok (change.ReplaceIf x.0 x.1)) w.1 }
changes (change.Compute f argument) fits =
    let w = with_argument f argument fits in
    record { name = codes "compute"; method = Compute; words = w.0; is_named = refl; is_made = ap (λ r. r >>= λ x. Ok (change.Compute x.0 x.1)) w.1 }
changes (change.ComputeIfAbsent f argument) fits =
    let w = with_argument f argument fits in
    record { name = codes "computeIfAbsent"; method = ComputeIfAbsent; words = w.0; is_named = refl; is_made = ap (λ r. r >>= λ x. Ok (change.ComputeIfAbsent x.0 x.1)) w.1 }
changes (change.ComputeIfPresent f argument) fits =
    let w = with_argument f argument fits in
    record { name = codes "computeIfPresent"; method = ComputeIfPresent; words = w.0; is_named = refl; is_made = ap (λ r. r >>= λ x. Ok (change.ComputeIfPresent x.0 x.1)) w.1 }
changes (change.Merge f value) fits =
    let w = with_value f value fits in
    record { name = codes "merge"; method = Merge; words = w.0; is_named = refl; is_made = ap (λ r. r >>= λ x. Ok (change.Merge x.0 x.1)) w.1 }

-- the words of a method, a key, and what is behind it
parsed : (name key : Text) (method : Method) (words : List Text) (wanted : Asked) → method_named name ≡ Some method → length key ≤ most_key_bytes → asked_of method key words ≡ Ok wanted → parse_call (name ∷ key ∷ words) ≡ Ok wanted
unfolding parse_call
parsed name key method words wanted named fits made =
    ap (λ m. ok_or m NoMethod >>= λ x. call_behind x (key ∷ words)) named
    ∙ (ap (λ k. k >>= λ x. asked_of method x words) (key_is_read key fits) ∙ made)

pub has_words : EachHasWords
unfolding asked_of
has_words (asked.Read read) fits =
    let n = asks read.question fits.1 in (
      n.name ∷ read.key ∷ n.words,
      parsed n.name read.key (Read n.method) n.words _ n.is_named fits.0 (ap (λ r. r >>= λ q. Ok (asked.Read (record { key = read.key; question = q }))) n.is_made),
    )
has_words (asked.Change command) fits =
    let n = changes command.change fits.1 in (
      n.name ∷ command.key ∷ n.words,
      parsed n.name command.key (Changes n.method) n.words _ n.is_named fits.0 (ap (λ r. r >>= λ c. Ok (asked.Change (record { key = command.key; change = c }))) n.is_made),
    )
