-- What the sections of a checkpoint and the commands behind it give.
use Rattle.std.specs.Prelude.{◌≡◌, ℕ, ◌+◌, ◌-◌, ◌≤◌, ◌<◌, max, Bool, nat_le, if◌then◌else◌, List, [], ◌∷◌, ◌++◌, length}
use Rattle.std.specs.Prelude.{drop, map, slice_index_or}
use Rattle.java_hash.specs.Stripes.{stripe_of}
use Rattle.map_types.specs.declared.commands.Command.{Command}
use Rattle.map_model.specs.Maps.{Map}
use Rattle.map_model.specs.Parts.{part_of, union_of}
use Rattle.map_model.specs.Steps.{map_after}
use Rattle.map_model.specs.Histories.{History, fold_to}
use Rattle.store_layout.specs.Checkpoints.{Section}

-- ---- the map that they give

-- the mark of the section of this stripe
abbrev pub mark_of : List Section → ℕ → ℕ
mark_of sections stripe = slice_index_or (map (λ section. section.mark) sections) stripe 0

-- the command with this ticket counts: it is in no section
abbrev pub counts : ℕ → List Section → ℕ → Command → Bool
counts stripes sections ticket command = nat_le (mark_of sections (stripe_of stripes command.key)) ticket

-- of the commands with the tickets from this one on, those that count
abbrev pub counted : ℕ → List Section → ℕ → List Command → List Command
counted stripes sections ticket [] = []
counted stripes sections ticket (command ∷ commands) =
    if counts stripes sections ticket command then command ∷ counted stripes sections (ticket + 1) commands
    else counted stripes sections (ticket + 1) commands

-- the union of the sections, changed by the commands that count; the first of the commands has the ticket `low`
abbrev pub restored : ℕ → List Section → ℕ → List Command → Map
restored stripes sections low log =
    map_after (union_of (map (λ section. section.map) sections)) (counted stripes sections low log)

-- ---- sections and commands of one history

-- how many commands there are
abbrev pub reach : History → ℕ
reach h = h.first + length h.commands

-- the history, with more commands at its end
abbrev pub grown : History → List Command → History
grown h more = record { first = h.first; opening = h.opening; commands = h.commands ++ more }

-- each section, the first for the stripe `from`, is the part of its stripe at its mark
abbrev pub AreParts : History → ℕ → ℕ → List Section → Type 0
AreParts h stripes from [] = Unit {0}
AreParts h stripes from (section ∷ sections) =
    (section.map ≡ part_of stripes from (fold_to h section.mark)) × AreParts h stripes (from + 1) sections

-- each mark is between these
abbrev pub AreMarks : ℕ → ℕ → List Section → Type 0
AreMarks low high [] = Unit {0}
AreMarks low high (section ∷ sections) = (low ≤ section.mark) × (section.mark ≤ high) × AreMarks low high sections

-- The log's commands, from ticket `low` on, are those of the history, as far as these are known by themselves.
pub record IsLogOf (h : History) (low : ℕ) (log : List Command) : Type 0 where
  pub front : List Command
  pub back : List Command
  pub commands : h.commands ≡ front ++ (drop (h.first - low) log ++ back)
  pub place : h.first + length front ≡ max h.first low
  pub reaches : h.first ≤ low + length log

-- these are the history's commands from this ticket on, as many as they are
pub record IsNextOf (h : History) (ticket : ℕ) (new : List Command) : Type 0 where
  pub front : List Command
  pub back : List Command
  pub commands : h.commands ≡ front ++ (new ++ back)
  pub place : h.first + length front ≡ ticket

-- Sections, one for each stripe, and the commands from ticket `low` on give the map after the history's first `low +
-- length log` commands. No mark is below `low` or beyond the last command.
pub record Restores (h : History) (stripes : ℕ) (sections : List Section) (low : ℕ) (log : List Command) : Type 0 where
  pub same : restored stripes sections low log ≡ fold_to h (low + length log)
  pub marks : AreMarks low (low + length log) sections
  pub from_first : h.first ≤ low + length log
  pub within : low + length log ≤ reach h
  pub one_each : length sections ≡ stripes
  pub some : 0 < stripes
