-- Calls that own whatever is held.
use Rattle.std.proofs.Common.{List, [], ◌∷◌}
use Rattle.connections.specs.declared.row.Place.{Place}
use Rattle.connections.specs.declared.row.Place.TheVariants.{Held, Refused}
use Rattle.connections.specs.Owning.{OwnsPlace, OwnsRow}

owns_any : {S H : Type 0} (state : S) (place : Place H) → OwnsPlace (λ (s : S) (h : H). Unit {0}) state place
owns_any state (Held held) = tt
owns_any state (Refused refusal) = tt

pub owns_all : {S H : Type 0} (state : S) (places : List (Place H)) → OwnsRow (λ (s : S) (h : H). Unit {0}) state places
owns_all state [] = tt
owns_all state (place ∷ places) = (owns_any state place, owns_all state places)
