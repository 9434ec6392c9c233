-- The keys of a stripe's part belong to the stripe.
use Rattle.std.proofs.Common.{◌≡◌, ℕ, Bool, true, false, cond, List, [], ◌∷◌, Option, Some, None, refl, sym, ◌∙◌}
use Rattle.std.specs.FinMap as finite
use Rattle.std.specs.Ordering.{nat_cmp, eq_by_cmp}
use Rattle.std.specs.Cmp.Lexicographic.{slice_cmp}
use Rattle.std.proofs.lemmas.Bool.{eqb-true}
use Rattle.std.proofs.lemmas.Cmp.{eq_by_cmp_equiv, nat_list_cmp_total}
use Rattle.java_hash.specs.Stripes.{stripe_of}
use Rattle.map_types.specs.declared.texts.Value.{Value}
use Rattle.map_model.specs.Maps.{Map}
use Rattle.map_model.specs.Parts.{part_of, is_in_stripe}
use Rattle.map_model.proofs.MapLaws.{get-part_of}
use Rattle.checkpoint_file.specs.States.{AreKeysOf}

abbrev found : List ℕ → List (List ℕ × Value) → Option Value
found q es = finite.find (slice_cmp nat_cmp) q es

there : (b : Bool) (v : Value) (o : Option Value) → (o ≡ None → ⊥) → cond b (Some v) o ≡ None → ⊥
there true v o some e = cc
there false v o some e = some e

some_of : (v : Value) (b : Bool) → b ≡ true → (o : Option Value) → cond b (Some v) o ≡ None → ⊥
some_of v true h o e = cc
some_of v false h o e = cc

-- where each key that is found passes a test, each key does
all_pass : (n i : ℕ) (es : List (List ℕ × Value)) → ((q : List ℕ) → (found q es ≡ None → ⊥) → is_in_stripe n i q ≡ true) → AreKeysOf n i es
all_pass n i [] f = tt
all_pass n i (e ∷ es) f = (
  eqb-true (stripe_of n e.0) i (f e.0 (λ none_. some_of e.1 (eq_by_cmp (slice_cmp nat_cmp) e.0 e.0) ((eq_by_cmp_equiv nat_list_cmp_total).refl e.0) (found e.0 es) none_)),
  all_pass n i es (λ q some. f q (there (eq_by_cmp (slice_cmp nat_cmp) q e.0) e.1 (found q es) some)),
)

within : (b : Bool) (o : Option Value) → (cond b o None ≡ None → ⊥) → b ≡ true
within true o some = refl
within false o some = absurd (some refl)

pub keys_of_part : (n i : ℕ) (m : Map) → AreKeysOf n i (finite.entries (part_of n i m))
keys_of_part n i m = all_pass n i (finite.entries (part_of n i m)) (λ q some. within (is_in_stripe n i q) (finite.get m q) (λ none_. some (sym (finite.get-entries (part_of n i m) q) ∙ get-part_of n i m q ∙ none_)))
