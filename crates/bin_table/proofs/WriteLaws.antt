-- The entries with another value at a key are the map with that value.
use Rattle.std.proofs.Common.{◌≡◌, ℕ, Bool, true, false, cond, is_some, Option, Some, List, [], ◌∷◌, refl, sym, ap, ◌∙◌}
use Rattle.std.specs.Cmp.Lexicographic.{nat_list_cmp_total}
use Rattle.std.specs.FinMap as finite
use Rattle.std.proofs.lemmas.Cmp.{eq_by_cmp_equiv}
use Rattle.map_types.specs.declared.texts.Value.{Value}
use Rattle.bin_table.specs.Chains.{Entries, find_in, HasDistinctKeys, map_of}
use Rattle.map_model.proofs.MapLaws.{ties, same_from_ties, same_gets}
use Rattle.bin_table.proofs.EntryLaws.{get-map_of}

-- the entries, the first one with key k with the value v
abbrev pub written : List ℕ → Value → Entries → Entries
written k v [] = []
written k v (e ∷ es) = cond (ties k e.0) ((e.0, v) ∷ es) (e ∷ written k v es)

-- the entry at the head has the key
at_head : (q k : List ℕ) (v : Value) (e : List ℕ × Value) (o : Option Value) → k ≡ e.0 → cond (ties q e.0) (Some v) o ≡ cond (ties q k) (Some v) (cond (ties q e.0) (Some e.1) o)
at_head q k v e o is =
    rw is (elim (ties q e.0) as (λ b. cond b (Some v) o ≡ cond b (Some v) (cond b (Some e.1) o)) [ true ↦ refl | false ↦ refl ])

-- it has another
past_head : (a b : Bool) (v w : Value) (o : Option Value) → (a ≡ true → b ≡ true → ⊥) → cond a (Some w) (cond b (Some v) o) ≡ cond b (Some v) (cond a (Some w) o)
past_head true true v w o never = absurd (never refl refl)
past_head true false v w o never = refl
past_head false true v w o never = refl
past_head false false v w o never = refl

not_both : (q k p : List ℕ) → ties k p ≡ false → ties q p ≡ true → ties q k ≡ true → ⊥
not_both q k p other one two =
    let no : true ≡ false = sym one ∙ ap (λ r. ties r p) (same_from_ties q k two) ∙ other in cc

found_past : (b : Bool) (w : Value) (o : Option Value) → b ≡ false → is_some (cond b (Some w) o) ≡ true → is_some o ≡ true
found_past true w o other is = cc
found_past false w o other is = is

pub find-written : (q k : List ℕ) (v : Value) (es : Entries) → is_some (find_in k es) ≡ true → find_in q (written k v es) ≡ cond (ties q k) (Some v) (find_in q es)
find-written q k v [] mapped = cc
find-written q k v (e ∷ es) mapped =
    elim (ties k e.0) as (λ b. ties k e.0 ≡ b → find_in q (cond b ((e.0, v) ∷ es) (e ∷ written k v es)) ≡ cond (ties q k) (Some v) (find_in q (e ∷ es))) [
      | true ↦ λ same. at_head q k v e (find_in q es) (same_from_ties k e.0 same)
      | false ↦ λ other. ap (cond (ties q e.0) (Some e.1)) (find-written q k v es (found_past (ties k e.0) e.1 (find_in k es) other mapped))
          ∙ past_head (ties q e.0) (ties q k) v e.1 (find_in q es) (not_both q k e.0 other)
    ] refl

pub distinct-written : (k : List ℕ) (v : Value) (es : Entries) → is_some (find_in k es) ≡ true → HasDistinctKeys es → HasDistinctKeys (written k v es)
distinct-written k v [] mapped one = tt
distinct-written k v (e ∷ es) mapped one =
    elim (ties k e.0) as (λ b. ties k e.0 ≡ b → HasDistinctKeys (cond b ((e.0, v) ∷ es) (e ∷ written k v es))) [
      | true ↦ λ same. one
      | false ↦ λ other.
          let behind = found_past (ties k e.0) e.1 (find_in k es) other mapped in
          (find-written e.0 k v es behind ∙ ap (λ b. cond b (Some v) (find_in e.0 es)) ((eq_by_cmp_equiv nat_list_cmp_total).symm e.0 k ∙ other) ∙ one.0, distinct-written k v es behind one.1)
    ] refl

pub map_of-written : (k : List ℕ) (v : Value) (es : Entries) → is_some (find_in k es) ≡ true → map_of (written k v es) ≡ finite.insert (map_of es) k v
map_of-written k v es mapped = same_gets _ _ (λ q.
    get-map_of (written k v es) q ∙ find-written q k v es mapped
    ∙ sym (finite.get-insert nat_list_cmp_total (map_of es) k v q ∙ ap (cond (ties q k) (Some v)) (get-map_of es q)))
