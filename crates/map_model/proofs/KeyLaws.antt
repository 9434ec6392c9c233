-- A key ties with itself, and of two keys that differ one is less.
use Rattle.std.proofs.Common.{◌≡◌, ℕ, true, false, List, sym, ap, refl, ◌∙◌, Ordering, Less, Equal, Greater}
use Rattle.std.specs.Ordering.{is_lt, is_eq, ordering_reverse}
use Rattle.std.specs.Cmp.{tied_itself}
use Rattle.std.specs.Cmp.Lexicographic.{nat_list_cmp_total}
use Rattle.map_model.proofs.MapLaws.{ties}

pub ties_itself : (q : List ℕ) → ties q q ≡ true
ties_itself q = ap is_eq (tied_itself nat_list_cmp_total q)

-- what doesn't fall and differs rises
pub less_from : (r s : Ordering) → s ≡ ordering_reverse r → is_lt s ≡ false → is_eq r ≡ false → r ≡ Less
less_from Less s is below apart = refl
less_from Equal s is below apart = cc
less_from Greater s is below apart = let no : true ≡ false = ap is_lt (sym is) ∙ below in cc
