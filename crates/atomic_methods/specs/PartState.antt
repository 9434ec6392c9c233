-- What contracts see of one stripe's map.
use Rattle.std.specs.Prelude.{◌⊎◌, ℕ, Option}
use Rattle.map_model.specs.Maps.{Map}
use Rattle.bin_transfer.specs.GrowingState.{GrowingState}
use Rattle.bin_transfer.specs.Due.{IsGrown, IsPutOff}

-- how the entries are laid out: the number of stripes of the whole map; the number of bins, not counting those of a
-- growth; how many of them, from the first on, a growth that runs has moved
pub record Growth : Type 0 where
  pub stripes : ℕ
  pub bins : ℕ
  pub moved : Option ℕ

pub record PartState : Type 0 where
  pub map : Map
  pub growth : Growth

-- the same, as the table of a part has it
abbrev pub growing_of : PartState → GrowingState
growing_of p = record {
  map = p.map;
  stripes = p.growth.stripes;
  bins = p.growth.bins;
  moved = p.growth.moved;
}

-- what a change does about the growth: it begins one that is due, or puts it off, and helps the one that runs
abbrev pub HasGrown : PartState → PartState → Type 0
HasGrown before after =
    IsPutOff (growing_of before) (growing_of after)
    ⊎ IsGrown (growing_of before) (growing_of after)
