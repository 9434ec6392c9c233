-- Lists with one element more.
use Rattle.std.proofs.Common.{◌≡◌, List, [], ◌∷◌, ◌++◌, length, refl, arith, sym, ◌∙◌, ap, append_assoc, length-append}
use Rattle.std.proofs.lemmas.List.{append_cancel_left}

module _ {A : Type 0} where
  -- what two lists that end with one element more have in common
  pub ends_same : (xs ys : List A) (x y : A) → xs ++ x ∷ [] ≡ ys ++ y ∷ [] → (xs ≡ ys) × (x ≡ y)
  ends_same [] [] x y e = (refl, cc)
  ends_same [] (b ∷ ys) x y e = absurd (omega (arith, ap length e, length-append ys (y ∷ [])))
  ends_same (a ∷ xs) [] x y e = absurd (omega (arith, ap length e, length-append xs (x ∷ [])))
  ends_same (a ∷ xs) (b ∷ ys) x y e =
      let rest : xs ++ x ∷ [] ≡ ys ++ y ∷ [] = cc in
      let head : a ≡ b = cc in
      let more : (xs ≡ ys) × (x ≡ y) = ends_same xs ys x y rest in
      (ap (λ h. h ∷ xs) head ∙ ap (λ t. b ∷ t) more.0, more.1)

  pub never_empty : (xs : List A) (x : A) → [] ≡ xs ++ x ∷ [] → ⊥
  never_empty xs x e = omega (arith, ap length e, length-append xs (x ∷ []))

  -- a list that goes on from xs with these, and one more
  pub onto : (xs made ys : List A) (x : A) → ys ≡ xs ++ made → ys ++ x ∷ [] ≡ xs ++ (made ++ x ∷ [])
  onto xs made ys x e = ap (λ zs. zs ++ x ∷ []) e ∙ append_assoc xs made (x ∷ [])

  -- one that goes on from xs in two ways goes on in one
  pub same_rest : (xs made more ys : List A) (x : A) → ys ≡ xs ++ made → ys ++ x ∷ [] ≡ xs ++ more → more ≡ made ++ x ∷ []
  same_rest xs made more ys x e f = append_cancel_left xs more (made ++ x ∷ []) (sym f ∙ onto xs made ys x e)
