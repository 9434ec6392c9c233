-- A map as it is divided into the parts of its stripes.
use Rattle.std.specs.Prelude.{◌≡◌, ◌<◌, ℕ, List, [], length, map, get_or}
use Rattle.std.specs.Global.{Vec}
use Rattle.std.specs.List.{AllByRecursion}
use Rattle.std.specs.FinMap as finite
use Rattle.map_types.specs.declared.texts.Value.{Value}
use Rattle.map_model.specs.Maps.{Map}
use Rattle.map_model.specs.Parts.{part_of, parts_of}
use Rattle.bin_table.specs.Chains.{Entries, HasDistinctKeys}
use Rattle.atomic_methods.specs.PartState.{PartState}
use Rattle.one_history.specs.OneHistory.{AreParts}

-- these are the parts of the map, one for each of `stripes` stripes in order
pub record IsDivided (stripes : ℕ) (m : Map) (parts : List PartState) : Type 0 where
  pub maps : map (λ part. part.map) parts ≡ parts_of stripes m
  pub laid : AllByRecursion (λ part. part.growth.stripes ≡ stripes) parts

-- one part for each of `stripes` stripes in order, with keys of that stripe alone
pub record ArePartsOf (stripes : ℕ) (parts : List PartState) : Type 0 where
  pub one_each : length parts ≡ stripes
  pub own : AreParts stripes parts

-- the entries of the map whose keys have the stripe, each key once
pub record IsGroup (stripes stripe : ℕ) (m : Map) (group : Entries) : Type 0 where
  pub distinct : HasDistinctKeys group
  pub same : finite.from_entries group ≡ part_of stripes stripe m

-- the entries in each of the lists
abbrev pub lists_of : Vec (Vec (List ℕ × Value)) → List Entries
lists_of lists = map (λ list. list.items) lists.items

-- the entries of the map, one list for each of `stripes` stripes in order
pub record AreGroups (stripes : ℕ) (m : Map) (groups : List Entries) : Type 0 where
  pub one_each : length groups ≡ stripes
  pub each : (stripe : ℕ) → stripe < stripes → IsGroup stripes stripe m (get_or groups stripe [])
