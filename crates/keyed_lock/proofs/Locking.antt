-- Each step of a lock keeps its rule.
use Rattle.std.proofs.Common.{◌≡◌, ◌<◌, ℕ, zero, suc, List, [], ◌∷◌, length, get_or, set, sym, refl, ◌∙◌, subst, arith, Option, Some, length-set, get_or-set_same}
use mathlib.Core.Logic.{dite}
use mathlib.Core.Option.{some}
use native.Mathlib.Decide.{ℕ_discrete}
use lib.ListN.{get_elem?}
use Rattle.atomic_table.specs.Table.{Me, keeps, takes, gives, Allows, Arrives}
use Rattle.keyed_lock.specs.Guarding.{Guards, Seizes}

-- what is stored stands there
stored : {A : Type 0} (xs : List A) (i : ℕ) (x : A) → i < length xs → get_elem? (set xs i x) i ≡ some x
stored [] i x lt = absurd (omega arith)
stored (y ∷ xs) zero x lt = refl
stored (y ∷ xs) (suc i) x lt = stored xs i x (omega arith)

module _ {T V : Type 0} (fits : T → Type 0) where
  pub seizes : (n : ℕ) (v : V) → Arrives (Guards fits) n 0 (λ _. 1) (λ r m. r ≡ 0 → Seizes {V = V} fits m)
  seizes n v s g wide _ = let long = g.0 in let one = get_or-set_same s.words 0 1 0 (omega arith) in
      dite (ℕ_discrete (get_or s.words 0 0) 0)
      (λ free. let t = g.1 free in (v, takes 0 (Some t.0), t.1, (length-set s.words 0 1 ∙ long, λ e. absurd (omega arith)), λ _. (t.0, refl, t.2)))
      (λ held. (v, keeps, tt, (length-set s.words 0 1 ∙ long, λ e. absurd (omega arith)), λ e. absurd (held e)))

  pub releases : (id : ℕ) (m : Me (Option T) V) (v : V) (value : T) (more : List (ℕ × Option T)) → m ≡ (v, (0, Some value) ∷ more) → fits value
      → Allows (Guards fits) 1 id m 0 (λ _. 0) (λ _ _. Unit {0})
  releases id m v value more e ok = subst (λ (x : Me (Option T) V). Allows (Guards fits) 1 id x 0 (λ _. 0) (λ _ _. Unit {0})) (sym e)
      (λ s g wide me _. (v, gives, tt, (length-set s.words 0 0 ∙ g.0, λ _. (value, stored s.homes 0 (some (Some value)) (omega arith), ok)), tt))
