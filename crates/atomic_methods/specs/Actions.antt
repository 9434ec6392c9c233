-- What an action does to the map at the key of its command.
use Rattle.std.specs.Prelude.{◌≡◌, ℕ, Bool, true, false, IfSome, Option, None, Some, List}
use Rattle.bin_table.specs.Tables.{spread_of_key}
use Rattle.map_types.specs.declared.texts.Value.{Value}
use Rattle.atomic_methods.specs.declared.parts.Action.{Action}
use Rattle.atomic_methods.specs.declared.parts.Action.TheVariants.{Keep, Unmap, Replace, Insert}
use Rattle.atomic_methods.specs.declared.plans.Effect.{Effect}
use Rattle.atomic_methods.specs.declared.plans.Effect.TheVariants as effects

abbrev pub change_of : List ℕ → Action → Option (List ℕ × Option Value)
change_of key Keep = None
change_of key Unmap = Some (key, None)
change_of key (Replace value) = Some (key, Some value)
change_of key (Insert node) = Some (node.value.key, Some node.value.value)

abbrev pub is_in_place : Action → Bool
is_in_place (Replace value) = true
is_in_place action = false

-- the action carries the effect out at a key that is or isn't mapped
abbrev pub Carries : List ℕ → Bool → Effect → Action → Type 0
Carries key is_mapped effects.Keep action = change_of key action ≡ None
Carries key is_mapped effects.Unmap action = change_of key action ≡ Some (key, None)
Carries key is_mapped (effects.Store value) action =
    (change_of key action ≡ Some (key, Some value)) × (is_in_place action ≡ is_mapped)

-- the spread is that of the hash of the action's key
abbrev pub IsHashed : List ℕ → Action → ℕ → Type 0
IsHashed key action spread = IfSome (change_of key action) (λ change. spread ≡ spread_of_key change.0)
