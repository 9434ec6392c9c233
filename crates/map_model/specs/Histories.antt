-- A list of commands as a history, and the calls that are legal in it.
use Rattle.std.specs.Prelude.{◌≡◌, ℕ, ◌+◌, ◌-◌, ◌≤◌, List, length, take, Some, slice_get}
use Rattle.map_types.specs.declared.commands.Command.{Command}
use Rattle.map_types.specs.declared.commands.Read.{Read}
use Rattle.map_types.specs.declared.commands.Reply.{Reply}
use Rattle.map_model.specs.Maps.{Map}
use Rattle.map_model.specs.Steps.{step, answer, map_after}

-- A history whose first `first` commands are known by the map after them alone. The command with ticket t, from `first`
-- on, is number t - first of `commands`.
pub record History : Type 0 where
  pub first : ℕ
  pub opening : Map
  pub commands : List Command

-- the map after the first q commands of the history
abbrev pub fold_to : History → ℕ → Map
fold_to h q = map_after h.opening (take (q - h.first) h.commands)

-- A change with ticket t is legal if command t of the history is that change, and its position is t + 1. Its reply has
-- to be that of one thread on the map after the first t commands.
pub record IsLegalChange (h : History) (position : ℕ) (c : Command) (reply : Reply) : Type 0 where
  pub ticket : ℕ
  pub position_is : position ≡ ticket + 1
  pub from_first : h.first ≤ ticket
  pub command : slice_get h.commands (ticket - h.first) ≡ Some c
  pub reply_is : reply ≡ (step (fold_to h ticket) c).reply

-- A read at position q is legal if q is at most the length of the history. Its reply has to be that of one thread on
-- the map after the first q commands.
pub record IsLegalRead (h : History) (position : ℕ) (r : Read) (reply : Reply) : Type 0 where
  pub from_first : h.first ≤ position
  pub within : position ≤ h.first + length h.commands
  pub reply_is : reply ≡ answer (fold_to h position) r
