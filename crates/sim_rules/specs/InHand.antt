-- The tickets in hand, as a keeper holds them.
use Rattle.std.specs.Prelude.{◌≡◌, ℕ, ◌≤◌, Some, slice_get}
use Rattle.map_types.specs.declared.commands.Command.{Command}
use Rattle.store_layout.specs.Hands.{Hand, Holds}
use Rattle.sim_rules.specs.World.{World, Life, InHand, place_of}

-- The keeper holds exactly the tickets, from the committed count on, that are in hand as the events and outcomes say,
-- each with its command.
pub record IsHandOf (w : World) (l : Life) (hand : Hand) : Type 0 where
  pub next : hand.next ≡ l.committed
  pub held : (t : ℕ) (c : Command) → Holds hand t c → (place_of l t ≡ InHand) × (slice_get w.history t ≡ Some c)
  pub all : (t : ℕ) → l.committed ≤ t → place_of l t ≡ InHand → (c : Command) × Holds hand t c
