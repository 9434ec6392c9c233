-- What a worker holds is its own.
use Rattle.std.proofs.Common.{refl}
use Rattle.std.specs.Arc.{arc_value}
use Rattle.stripe_locks.specs.Holding.{IsHeldAt}
use Rattle.stripe_locks.specs.declared.held.Held.{Held}
use Rattle.durable_map.specs.Maps.{name_of_words, IsHeldOf}
use Rattle.durable_map.specs.declared.map.DurableMap.{DurableMap}

-- a reply of the map is held at the name of its words
pub held_at : {D : Type 0} (map : DurableMap D) (held : Held) → IsHeldOf map held → IsHeldAt (name_of_words map) held
held_at map held k = record { stripes = arc_value map.stripes; named = refl; held = k }
