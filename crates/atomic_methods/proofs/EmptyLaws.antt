-- A part has no entry where it counts none.
use Rattle.std.proofs.Common.{◌≡◌, ℕ, IsTrue, min, eqb, ap, ◌∙◌, refl, arith}
use Rattle.std.specs.Ordering.{nat_cmp}
use Rattle.std.specs.Cmp.Lexicographic.{slice_cmp}
use Rattle.std.specs.FinMap as finite
use Rattle.map_types.specs.declared.texts.Value.{Value}
use Rattle.map_model.specs.Maps.{Map}

is_zero : (n : ℕ) → IsTrue (eqb n 0) → n ≡ 0
is_zero n is = grind arith

pub no_entry : (m : Map) (n : ℕ) → n ≡ min (finite.len m) 18446744073709551615 → IsTrue (eqb n 0) → m ≡ finite.empty
no_entry m n len is = finite.empty_of_len m (let none : n ≡ 0 = is_zero n is in omega arith)

pub empty_len : (m : Map) (n : ℕ) → n ≡ min (finite.len m) 18446744073709551615 → m ≡ finite.empty → IsTrue (eqb n 0)
empty_len m n len is =
    let none : n ≡ 0 = len ∙ ap (λ l. min l 18446744073709551615) (ap finite.len is ∙ finite.len-empty (slice_cmp nat_cmp) Value) in
    rw none refl
