-- The parts of a map, and a change of one of them.
use Rattle.std.proofs.Common.{◌≡◌, ◌≢◌, ℕ, zero, suc, ◌+◌, ◌<◌, true, false, cond, None, List, [], ◌∷◌, ◌++◌, length, map, get_or, set, refl, sym, ap, ap₂, subst, ◌∙◌, arith, append_assoc}
use Rattle.std.proofs.lemmas.Bool.{ne_eqb}
use Rattle.std.proofs.lemmas.Bool.Decides.{nat_tests}
use Rattle.std.proofs.lemmas.List.{map-set, get_or-map}
use Rattle.std.proofs.lemmas.List.FromFn.{get_or-map-range_with_len}
use Rattle.std.specs.List.{AllByRecursion, range_with_len}
use Rattle.std.specs.Ordering.{nat_cmp}
use Rattle.std.specs.Cmp.Lexicographic.{slice_cmp}
use Rattle.std.specs.FinMap as finite
use Rattle.java_hash.specs.Stripes.{stripe_of}
use Rattle.map_types.specs.declared.commands.Command.{Command}
use Rattle.map_types.specs.declared.texts.Value.{Value}
use Rattle.map_model.specs.Maps.{Map}
use Rattle.map_model.specs.Laws.{PartsMakeTheMap}
use Rattle.map_model.specs.Parts.{part_of, parts_of, is_in_stripe, union_of}
use Rattle.map_model.specs.Steps.{step, Stepped}
use Rattle.map_model.proofs.MapLaws.{same_gets, get-part_of, step-part_of, step-part_of_other}
use Rattle.atomic_methods.specs.PartState.{PartState}
use Rattle.one_history.specs.OneHistory.{AreLaid, AreParts}
use Rattle.one_history.specs.Turns.{maps_of}
use Rattle.store_layout.proofs.NewStores.{no_entries}
use Rattle.recovery.specs.declared.lanes.Lane.{Lane}
use Rattle.recovery.specs.Lanes.{AreLanesOf, IsLaid, IsLaidFor, promised}

-- ---- lists

pub all_set : {X : Type 0} (P : X → Type 0) (xs : List X) (i : ℕ) (y : X) → AllByRecursion P xs → P y → AllByRecursion P (set xs i y)
all_set P [] i y all here = all
all_set P (x ∷ xs) zero y all here = (here, all.1)
all_set P (x ∷ xs) (suc i) y all here = (all.0, all_set P xs i y all.1 here)

pub all_at : {X : Type 0} (P : X → Type 0) (xs : List X) (i : ℕ) (d : X) → AllByRecursion P xs → i < length xs → P (get_or xs i d)
all_at P [] i d all low = absurd (omega (arith, low))
all_at P (x ∷ xs) zero d all low = all.0
all_at P (x ∷ xs) (suc i) d all low = all_at P xs i d all.1 (omega (arith, low))

pub all_push : {X : Type 0} (P : X → Type 0) (xs : List X) (y : X) → AllByRecursion P xs → P y → AllByRecursion P (xs ++ y ∷ [])
all_push P [] y all here = (here, tt)
all_push P (x ∷ xs) y all here = (all.0, all_push P xs y all.1 here)

-- ---- one change

module _ (n : ℕ) (m : Map) (c : Command) where
  parts_from : ℕ → ℕ → Map → List Map
  parts_from a k m' = map (λ s. part_of n s m') (range_with_len a k)

  same_part : (s : ℕ) → stripe_of n c.key ≢ s → part_of n s m ≡ part_of n s (step m c).map
  same_part s other = sym (step-part_of_other n s m c (ne_eqb (stripe_of n c.key) s other))

  same_parts : (a k : ℕ) → stripe_of n c.key < a → parts_from a k m ≡ parts_from a k (step m c).map
  unfolding parts_from
  same_parts a zero low = refl
  same_parts a (suc k) low = ap₂ (λ (x : Map) (xs : List Map). x ∷ xs) (same_part a (λ e. omega (arith, e, low))) (same_parts (a + 1) k (omega (arith, low)))

  own_part : (s : ℕ) → stripe_of n c.key ≡ s → (step (part_of n s m) c).map ≡ part_of n s (step m c).map
  own_part s is =
      let own : is_in_stripe n s c.key ≡ true = grind (arith, nat_tests) in
      ap (λ (t : Stepped). t.map) (step-part_of n s m c own)

  set_part : (a k i j : ℕ) → stripe_of n c.key ≡ j → j ≡ a + i → i < k → set (parts_from a k m) i (step (part_of n j m) c).map ≡ parts_from a k (step m c).map
  unfolding parts_from
  set_part a zero i j is place low = absurd (omega (arith, low))
  set_part a (suc k) zero j is place low =
      ap₂ (λ (x : Map) (xs : List Map). x ∷ xs) (own_part j is ∙ ap (λ s. part_of n s (step m c).map) (omega (arith, place))) (same_parts (a + 1) k (omega (arith, is, place)))
  set_part a (suc k) (suc i) j is place low =
      ap₂ (λ (x : Map) (xs : List Map). x ∷ xs) (same_part a (λ e. omega (arith, e, is, place))) (set_part (a + 1) k i j is (omega (arith, place)) (omega (arith, low)))

  -- the part of the key makes the change, and the others stay
  maps_changed : {V : Type 0} (f : V → Map) (parts : List V) (i : ℕ) (d old new : V) → i ≡ stripe_of n c.key → i < n → length parts ≡ n → old ≡ get_or parts i d
      → f new ≡ (step (f old) c).map → map f parts ≡ parts_of n m → map f (set parts i new) ≡ parts_of n (step m c).map
  unfolding parts_from
  maps_changed f parts i d old new is within size there made maps =
      let low : i < length parts = omega (arith, within, size) in
      let here : f old ≡ part_of n i m =
      ap f there ∙ sym (get_or-map f parts i d finite.empty low)
      ∙ ap (λ (l : List Map). get_or l i finite.empty) maps ∙ get_or-map-range_with_len (λ s. part_of n s m) 0 n i i finite.empty within (omega arith) in
      map-set f parts i new
      ∙ ap₂ (λ (l : List Map) (x : Map). set l i x) maps (made ∙ ap (λ (x : Map). (step x c).map) here)
      ∙ set_part 0 n i i (sym is) (omega arith) within

  -- a change is due in the lane of its key
  pub lanes_changed : (lanes : List Lane) (i : ℕ) (d old new : Lane) → i ≡ stripe_of n c.key → i < n → length lanes ≡ n → old ≡ get_or lanes i d
      → promised new ≡ (step (promised old) c).map → new.stripes ≡ old.stripes → new.content ≡ old.content → AreLanesOf n m lanes → AreLanesOf n (step m c).map (set lanes i new)
  lanes_changed lanes i d old new is within size there made stripes content are =
      let low : i < length lanes = omega (arith, within, size) in
      record {
        maps = maps_changed promised lanes i d old new is within size there made are.maps;
        laid = all_set (IsLaidFor n) lanes i new are.laid
            (let before : IsLaidFor n old = subst (IsLaidFor n) (sym there) (all_at (IsLaidFor n) lanes i d are.laid low) in
            record {
              stripes_are = ap (λ s. s.count) stripes ∙ before.stripes_are;
              laid = subst (IsLaid n) (sym content) before.laid;
            });
      }

-- ---- parts of the map that they make

module _ (law : PartsMakeTheMap) (n : ℕ) (some : 0 < n) where
  pub own_parts : (m : Map) (parts : List PartState) → maps_of parts ≡ parts_of n m → AreLaid n parts → AreParts n parts
  own_parts m parts maps laid = record { own = maps ∙ ap (parts_of n) (sym (ap union_of maps ∙ law n m some)); laid = laid }

-- ---- the empty map

abbrev pub nothing : Map
nothing = finite.empty

unmapped : (q : List ℕ) → finite.get nothing q ≡ None
unmapped q = finite.get-entries nothing q ∙ ap (λ (es : List (List ℕ × Value)). finite.find (slice_cmp nat_cmp) q es) no_entries

pub no_part : (n s : ℕ) → part_of n s nothing ≡ nothing
no_part n s = same_gets _ _ (λ q. get-part_of n s nothing q ∙ elim (is_in_stripe n s q) as (λ b. cond b (finite.get nothing q) None ≡ finite.get nothing q) [
  | true ↦ refl
  | false ↦ sym (unmapped q)
])

-- ---- entries

pub split_more : {X : Type 0} (all before rest done : List X) (x : X) → all ≡ before ++ done → before ≡ rest ++ x ∷ [] → all ≡ rest ++ (x ∷ done)
split_more all before rest done x one two = one ∙ ap (λ l. l ++ done) two ∙ append_assoc rest (x ∷ []) done
