-- A queue with no elements, and one with fewer.
use Rattle.std.proofs.Common.{◌≡◌, ◌⊎◌, ◌<◌, ℕ, List, [], ◌∷◌, length, refl, subst, arith, inl, inr}

none_of_length : {X : Type 0} (items : List X) → length items ≡ 0 → items ≡ []
none_of_length [] e = refl
none_of_length (x ∷ items) e = absurd (omega arith)

pub empty_queue : {X : Type 0} (items : List X) (len : ℕ) → len ≡ length items → len ≡ 0 → items ≡ []
empty_queue items len count none = none_of_length items (omega arith)

-- fewer than in the middle is fewer than at first
pub fewer_than : {X : Type 0} (first now after : X) (size : X → ℕ) → (now ≡ first) ⊎ (size now < size first) → size after < size now → size after < size first
fewer_than {X} first now after size (inl e) less = subst (λ (x : X). size after < size x) e less
fewer_than first now after size (inr h) less = omega (arith, h, less)
