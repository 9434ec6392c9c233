-- The rule of a lock with one word and one slot, and what a step on it tells.
use Rattle.std.specs.Prelude.{◌≡◌, [], ◌∷◌, Option, Some, slice_index, length}
use mathlib.Core.Option.{some}
use lib.ListN.{get_elem?}
use Rattle.atomic_table.specs.Table.{State, Me}

module _ {T V : Type 0} where
  -- while the word is 0, a value that fits stands in the slot
  abbrev pub Guards : (T → Type 0) → State (Option T) V → Type 0
  Guards fits s = (length s.words ≡ 1) × (slice_index s.words 0 ≡ 0
      → (value : T) × (get_elem? s.homes 0 ≡ some (some (Some value))) × fits value)

  -- the seat has the slot, with a value that fits
  abbrev pub Seizes : (T → Type 0) → Me (Option T) V → Type 0
  Seizes fits m = (value : T) × (m.1 ≡ (0, Some value) ∷ []) × fits value

  -- the seat has the slot
  abbrev pub HasSlot : Me (Option T) V → Type 0
  HasSlot m = (held : Option T) × (m.1 ≡ (0, held) ∷ [])
