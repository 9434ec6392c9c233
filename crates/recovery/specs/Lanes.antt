-- The parts of a map while it is restored, with the changes that are due in them.
use Rattle.std.specs.Prelude.{◌≡◌, ◌<◌, ℕ, false, List, [], length, map, slice_index_or}
use Rattle.std.specs.FinMap as finite
use Rattle.std.specs.List.{AllByRecursion}
use denote.Ref.{MutBor}
use denote.Param.Members.{Shared}
use Rattle.map_types.specs.declared.commands.Command.{Command}
use Rattle.map_model.specs.Maps.{Map}
use Rattle.map_model.specs.Parts.{parts_of}
use Rattle.map_model.specs.Steps.{map_after}
use Rattle.atomic_methods.specs.PartState.{PartState}
use Rattle.recovery.specs.declared.due.Due.{Due}
use Rattle.recovery.specs.declared.lanes.Content.{Content}
use Rattle.recovery.specs.declared.lanes.Content.TheVariants.{Entries, Made}
use Rattle.recovery.specs.declared.lanes.Lane.{Lane}

-- ---- one lane

abbrev pub content_map : Content → Map
content_map (Entries distinct) = finite.from_entries distinct.entries.items
content_map (Made part) = part.map

-- a part that is made is one of so many stripes
abbrev pub IsLaid : ℕ → Content → Type 0
IsLaid stripes (Entries distinct) = Unit {0}
IsLaid stripes (Made part) = part.growth.stripes ≡ stripes

abbrev pub commands_due : List Due → List Command
commands_due changes = map (λ (due : Due). due.command) changes

-- the map of the lane once all that is due is made
abbrev pub promised : Lane → Map
promised lane = map_after (content_map lane.content) (commands_due lane.due.items)

-- all that was due is made
pub record HasRun (old new : Lane) : Type 0 where
  pub map : content_map new.content ≡ promised old
  pub none : new.due.items ≡ []
  pub stripes : new.stripes ≡ old.stripes
  pub laid : IsLaid old.stripes.count old.content → IsLaid old.stripes.count new.content

-- the lane is of one of so many stripes
pub record IsLaidFor (stripes : ℕ) (lane : Lane) : Type 0 where
  pub stripes_are : lane.stripes.count ≡ stripes
  pub laid : IsLaid stripes lane.content

-- ---- all lanes

-- Once all that is due is made, these are the parts of the map, one for each of `stripes` stripes in order.
pub record AreLanesOf (stripes : ℕ) (m : Map) (lanes : List Lane) : Type 0 where
  pub maps : map promised lanes ≡ parts_of stripes m
  pub laid : AllByRecursion (IsLaidFor stripes) lanes

-- each lane has run, or memory was wanting there
abbrev pub RunsEach : List Lane → List Lane → Type 0
RunsEach old new =
    (place : ℕ) (d : Lane) → place < length old → (slice_index_or new place d).is_refused ≡ false
    → HasRun (slice_index_or old place d) (slice_index_or new place d)

pub record RunsAll (old new : List Lane) : Type 0 where
  pub len : length new ≡ length old
  pub each : RunsEach old new

-- what may be called with any lanes, and runs each of them
pub record Runs {F : Type 0} (g : Shared F (MutBor (List Lane) × Unit {0}) (Unit {0} × (MutBor (List Lane) × Unit {0})))
    (f : F) : Type 0 where
  pub accepts : (p : MutBor (List Lane)) → g.pre f (p, tt)
  pub runs : (p q : MutBor (List Lane)) → g.post f (p, tt) (tt, (q, tt)) → RunsAll p.now q.now

-- the parts of the lanes, without what is due in them
pub record AreTaken (lanes : List Lane) (parts : List PartState) : Type 0 where
  pub maps : map (λ (part : PartState). part.map) parts ≡ map (λ (lane : Lane). content_map lane.content) lanes
  pub laid : (stripes : ℕ) → AllByRecursion (IsLaidFor stripes) lanes
      → AllByRecursion (λ (part : PartState). part.growth.stripes ≡ stripes) parts
