-- What the words give an argument, as the getters of the matches answer it.
use Rattle.std.proofs.Common.{◌≡◌, ◌∙◌, List, [], Option, None, Some, refl, ap, map, option_map, unwrap_or}
use Rattle.std.specs.Borrow.{Bor}
use Rattle.clap.specs.Words.{Text, all_of, first_value, matched_of, raw_values, rows_of}
use Rattle.clap.specs.declared.parser.matches.Found.{Found}
use Rattle.clap.proofs.WalkLemmas.{first_value-rows, raw_values-rows}
use Rattle.map_server.specs.CommandLine.{word_or}

now_or : (found : Option (Bor Text)) (other : Bor Text) → (unwrap_or found other).now ≡ unwrap_or (option_map (λ s. s.now) found) other.now
now_or None other = refl
now_or (Some word) other = refl

pub word_is : (f : Found) (id : Text) (found : Option (Bor Text)) (other : Bor Text) → option_map (λ s. s.now) found ≡ first_value f id
    → (unwrap_or found other).now ≡ word_or other.now id (rows_of f)
word_is f id found other is = now_or found other ∙ ap (λ (o : Option Text). unwrap_or o other.now) (is ∙ first_value-rows f id)

now_given : (given : Option (Bor (List (Bor Text)))) (none : Bor (List (Bor Text))) → none.now ≡ []
    → map (λ v. v.now) (unwrap_or given none).now ≡ unwrap_or (option_map (λ s. map (λ v. v.now) s.now) given) []
now_given None none empty = ap (λ (vs : List (Bor Text)). map (λ v. v.now) vs) empty
now_given (Some words) none empty = refl

pub words_are : (f : Found) (id : Text) (given : Option (Bor (List (Bor Text)))) (none : Bor (List (Bor Text))) → none.now ≡ []
    → option_map (λ s. map (λ v. v.now) s.now) given ≡ option_map raw_values (matched_of f id)
    → map (λ v. v.now) (unwrap_or given none).now ≡ unwrap_or (all_of id (rows_of f)) []
words_are f id given none empty is = now_given given none empty ∙ ap (λ (o : Option (List Text)). unwrap_or o []) (is ∙ raw_values-rows f id)
