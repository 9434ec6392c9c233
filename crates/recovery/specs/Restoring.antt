-- A map while it is restored.
use Rattle.std.specs.Prelude.{◌≡◌, ℕ, List, map}
use Rattle.map_types.specs.declared.commands.Command.{Command}
use Rattle.map_model.specs.Maps.{Map}
use Rattle.map_model.specs.Steps.{map_after}
use Rattle.store_layout.specs.Checkpoints.{Section}
use Rattle.store_layout.specs.SectionsAndLog.{counted}
use Rattle.recovery.specs.declared.restoring.Restoring.{Restoring}
use Rattle.recovery.specs.Lanes.{AreLanesOf}

-- the map alone has changed
pub record IsSameFrame (old new : Restoring) : Type 0 where
  pub stripes : new.divided.stripes ≡ old.divided.stripes
  pub of : new.of ≡ old.of
  pub marks : new.marks ≡ old.marks

-- this is the map so far, once what is due is made
abbrev pub HasMap : Restoring → Map → Type 0
HasMap restoring m = AreLanesOf restoring.divided.stripes.count m restoring.divided.lanes.items

-- its parts are those of some map
abbrev pub IsOfSome : Restoring → Type 0
IsOfSome restoring = (m : Map) × HasMap restoring m

-- the commands from this ticket on were made, but for those that are in a section
abbrev pub Applies : ℕ → List Command → Restoring → Restoring → Type 0
Applies low commands old new =
    (sections : List Section) (m : Map) → map (λ section. section.mark) sections ≡ old.marks.items → HasMap old m
    → HasMap new (map_after m (counted old.of.count sections low commands))
