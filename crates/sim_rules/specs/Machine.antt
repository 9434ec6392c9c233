-- A machine with one list of commands, which each life of a store goes on: what it may do, and what its replies are.
use Rattle.std.specs.Prelude.{◌≡◌, ℕ, ◌≤◌, List, [], ◌∷◌, ◌++◌, length, take}
use Rattle.std.specs.List.{AllByRecursion}
use Rattle.std.specs.FinMap as finite
use Rattle.map_types.specs.declared.commands.Command.{Command}
use Rattle.map_model.specs.Maps.{Map}
use Rattle.map_model.specs.Steps.{fold_of}
use Rattle.map_model.specs.Histories.{History}
use Rattle.ticket_order.specs.declared.record.Call.{Call}
use Rattle.ticket_order.specs.Legality.{IsLegalCall}

-- all commands in the order of their tickets, and each call whose reply was released, with its position and the reply
pub record Machine : Type 0 where
  pub history : List Command
  pub released : List Call

abbrev pub machine : List Command → List Call → Machine
machine history released = record { history = history; released = released }

-- nothing has happened
unfoldable pub begun : Machine
begun = machine [] []

-- the commands, as a history that begins with the empty map
abbrev pub whole : List Command → History
whole commands = record { first = 0; opening = finite.empty; commands = commands }

pub data Move : Type 0 where
  -- the command joins the history at its end
  Calls : Command → Move
  -- the reply to a call is released
  Releases : Call → Move
  -- the life ends, and the first n commands are left
  Stops : ℕ → Move
  -- a life begins, with n commands and this map
  Opens : ℕ → Map → Move

-- no reply was released at a position above p
abbrev pub AreReleasedTo : ℕ → List Call → Type 0
AreReleasedTo p released = AllByRecursion (λ (call : Call). call.position ≤ p) released

-- a stop may leave the first p commands: each position at which a reply was released, in any life, is among them
pub record MayStop (p : ℕ) (m : Machine) : Type 0 where
  pub released : AreReleasedTo p m.released
  pub within : p ≤ length m.history

-- A reply is released if it is one thread's at its position. An opening returns exactly the map after all commands that
-- are left.
abbrev pub IsAllowed : Machine → Move → Type 0
IsAllowed m (Calls command) = Unit {0}
IsAllowed m (Releases call) = IsLegalCall (whole m.history) call
IsAllowed m (Stops p) = MayStop p m
IsAllowed m (Opens p map) = (p ≡ length m.history) × (map ≡ fold_of m.history)

abbrev pub moved : Machine → Move → Machine
moved m (Calls command) = machine (m.history ++ command ∷ []) m.released
moved m (Releases call) = machine m.history (call ∷ m.released)
moved m (Stops p) = machine (take p m.history) m.released
moved m (Opens p map) = m

-- after these moves, the newest first
abbrev pub machine_after : List Move → Machine
machine_after [] = begun
machine_after (move ∷ moves) = moved (machine_after moves) move

-- each move is allowed after those before it
abbrev pub AreAllowed : List Move → Type 0
AreAllowed [] = Unit {0}
AreAllowed (move ∷ moves) = IsAllowed (machine_after moves) move × AreAllowed moves
