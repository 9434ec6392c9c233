-- How the entries in hand change.
use Rattle.std.specs.Prelude.{◌≡◌, ◌⊎◌, ℕ, ◌+◌, ◌<◌, ◌≤◌, List, ◌++◌, length, replicate, None}
use Rattle.std.specs.List.{Contains}
use Rattle.map_types.specs.declared.commands.Command.{Command}
use Rattle.ticket_order.specs.declared.stripe.Entry.{Entry}
use Rattle.ticket_order.specs.Records.{entry}
use Rattle.store_layout.specs.Hands.{Hand, Holds}

-- the ticket has a place among the slots
abbrev pub HasPlace : Hand → Entry → Type 0
HasPlace hand e = (hand.next ≤ e.ticket) × (e.ticket < hand.next + length hand.slots)

-- The same tickets are in hand, and each of the entries has a place.
pub record MakesRoom (old : Hand) (entries : List Entry) (new : Hand) : Type 0 where
  pub next : new.next ≡ old.next
  pub more : ℕ
  pub slots : new.slots ≡ old.slots ++ replicate more None
  pub places : (e : Entry) → Contains entries e → old.next ≤ e.ticket → HasPlace new e

-- The entries that have a place are in hand besides: what is in hand now was so, or is one of them.
pub record Gains (old : Hand) (entries : List Entry) (new : Hand) : Type 0 where
  pub next : new.next ≡ old.next
  pub long : length new.slots ≡ length old.slots
  pub all : (e : Entry) → Contains entries e → HasPlace old e → (c : Command) × Holds new e.ticket c
  pub kept : (t : ℕ) (c : Command) → Holds old t c → (d : Command) × Holds new t d
  pub only : (t : ℕ) (c : Command) → Holds new t c → Holds old t c ⊎ Contains entries (entry t c)

-- the same tickets are in hand, with the same commands
pub record SameEntries (old new : Hand) : Type 0 where
  pub next : new.next ≡ old.next
  pub kept : (t : ℕ) (c : Command) → Holds old t c → Holds new t c
  pub only : (t : ℕ) (c : Command) → Holds new t c → Holds old t c
