-- Parts of the history.
use Rattle.std.proofs.Common.{◌≡◌, ℕ, ◌+◌, List, [], ◌∷◌, ◌++◌, length, take, drop, refl, sym, ◌∙◌, ap}
use Rattle.std.proofs.lemmas.List.{drop-drop}

pub drop_front : {A : Type 0} (xs ys : List A) → drop (length xs) (xs ++ ys) ≡ ys
drop_front [] ys = refl
drop_front (x ∷ xs) ys = drop_front xs ys

pub take_front : {A : Type 0} (xs ys : List A) → take (length xs) (xs ++ ys) ≡ xs
take_front [] ys = refl
take_front (x ∷ xs) ys = ap (λ zs. x ∷ zs) (take_front xs ys)

-- the part of the history that comes after these
pub part_after : {A : Type 0} (first at : ℕ) (all front new back : List A) → drop first all ≡ front ++ (new ++ back) → first + length front ≡ at → take (length new) (drop at all) ≡ new
part_after first at all front new back e place =
    ap (λ k. take (length new) (drop k all)) (sym place) ∙ ap (take (length new)) (sym (drop-drop (length front) first all) ∙ ap (drop (length front)) e ∙ drop_front front (new ++ back)) ∙ take_front new back
