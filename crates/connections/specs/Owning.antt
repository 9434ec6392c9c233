-- What is held in a row belongs to the state of its calls.
use Rattle.std.specs.Prelude.{List}
use Rattle.std.specs.List.{AllByRecursion}
use Rattle.connections.specs.declared.row.Place.{Place}
use Rattle.connections.specs.declared.exchange.Connection.{Connection}
use Rattle.connections.specs.declared.row.Place.TheVariants.{Held, Refused}

module _ {S H : Type 0} (owns : S → H → Type 0) where
  -- what is held in the place is owned
  abbrev pub OwnsPlace : S → Place H → Type 0
  OwnsPlace state (Held held) = owns state held
  OwnsPlace state (Refused refusal) = Unit {0}

  -- what is held in each place is owned
  abbrev pub OwnsRow : S → List (Place H) → Type 0
  OwnsRow state places = AllByRecursion (OwnsPlace state) places

  -- what is held of each connection is owned
  abbrev pub OwnsEach : S → List (Connection H) → Type 0
  OwnsEach state connections = AllByRecursion (λ connection. OwnsRow state connection.row.items) connections

  -- what was owned before is owned after
  abbrev pub StillOwns : S → S → Type 0
  StillOwns before after = (held : H) → owns before held → owns after held
