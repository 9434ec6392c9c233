-- Laws of maps, their parts and histories.
use Rattle.std.specs.Prelude.{◌≡◌, ℕ, ◌+◌, ◌<◌, true, false, List, ◌∷◌, ◌++◌, length}
use Rattle.map_types.specs.declared.commands.Command.{Command}
use Rattle.map_types.specs.declared.commands.Read.{Read}
use Rattle.map_model.specs.Maps.{Map}
use Rattle.map_model.specs.Parts.{part_of, is_in_stripe, union_of, parts_of, commands_of}
use Rattle.map_model.specs.Steps.{step, answer, map_after}
use Rattle.map_model.specs.Histories.{History, IsLegalChange, IsLegalRead}

-- the union of the parts of all stripes, of which there is at least one, is the map
abbrev pub PartsMakeTheMap : Type 0
PartsMakeTheMap = (n : ℕ) (m : Map) → 0 < n → union_of (parts_of n m) ≡ m

-- a step on a key of the stripe is the same step on the part, and leaves the parts of the other stripes
abbrev pub StepsStayInTheirPart : Type 0
StepsStayInTheirPart = (n s : ℕ) (m : Map) (c : Command) →
    (is_in_stripe n s c.key ≡ true → step (part_of n s m) c
    ≡ record { map = part_of n s (step m c).map; reply = (step m c).reply })
    × (is_in_stripe n s c.key ≡ false → part_of n s (step m c).map ≡ part_of n s m)

-- a read of a key of the stripe returns on the part what it returns on the map
abbrev pub AnswersStayInTheirPart : Type 0
AnswersStayInTheirPart =
    (n s : ℕ) (m : Map) (r : Read) → is_in_stripe n s r.key ≡ true → answer (part_of n s m) r ≡ answer m r

-- the part of the map after commands is the part after the commands on its keys
abbrev pub PartsFoldAlone : Type 0
PartsFoldAlone = (n s : ℕ) (m : Map) (cs : List Command)
    → part_of n s (map_after m cs) ≡ map_after (part_of n s m) (commands_of n s cs)

-- a change is legal at each place where it stands in the history, with the reply on the map before it
abbrev pub ChangesAreLegalInPlace : Type 0
ChangesAreLegalInPlace = (h : History) (before after : List Command) (c : Command) →
    h.commands ≡ before ++ (c ∷ after) →
    IsLegalChange h (h.first + length before + 1) c (step (map_after h.opening before) c).reply

-- a read is legal between any two neighbours of the history, with the answer on the map there
abbrev pub ReadsAreLegalInPlace : Type 0
ReadsAreLegalInPlace = (h : History) (before after : List Command) (r : Read) →
    h.commands ≡ before ++ after →
    IsLegalRead h (h.first + length before) r (answer (map_after h.opening before) r)
