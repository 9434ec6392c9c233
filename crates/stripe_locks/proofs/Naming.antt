-- Stripes whose words have one name are the same stripes.
use Rattle.std.proofs.Common.{◌≡◌, ℕ, List, [], ◌∷◌, ap, ◌∙◌}
use Rattle.atomic_table.specs.Seated.{TableId}
use Rattle.stripe_locks.specs.Holding.{name_of_words, IsHeldAt, IsHeldOf}
use Rattle.stripe_locks.specs.Passes.{name_of}
use Rattle.stripe_locks.specs.declared.held.Held.{Held}
use Rattle.stripe_locks.specs.declared.stripes.Stripes.{Stripes}

abbrev first : List ℕ → ℕ
first [] = 0
first (n ∷ ns) = n

abbrev others : List ℕ → List ℕ
others [] = []
others (n ∷ ns) = ns

-- the table of a name
abbrev named : List ℕ → TableId
named ns =
    let more = others ns in
    let rest = others (others more) in
    record { words = first ns; slots = first more; views_name = first (others more); atom = first rest; block = first (others rest); offset = first (others (others rest)); slot_names = others (others (others rest)) }

name_tells : (x y : TableId) → name_of x ≡ name_of y → x ≡ y
name_tells x y same = ap named same

pub held_of : (stripes : Stripes) (held : Held) → IsHeldAt (name_of_words stripes) held → IsHeldOf stripes held
held_of stripes held k = record {
  own = k.held.own ∙ name_tells k.stripes.table.shared.table_id stripes.table.shared.table_id k.named;
  asked = k.held.asked;
  made = k.held.made;
}
