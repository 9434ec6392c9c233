-- The commands in hand, by their tickets, and which of them one batch may have.
use Rattle.std.specs.Prelude.{◌≡◌, ℕ, ◌+◌, ◌-◌, ◌<◌, ◌≤◌, ◌^◌, List, ◌++◌, length, map, min, Option, Some, None}
use Rattle.std.specs.Prelude.{slice_index_or}
use Rattle.map_types.specs.declared.commands.Command.{Command}
use Rattle.log_records.specs.Layout.{Layout}
use Rattle.store_layout.specs.Logs.{frame, most_commands, most_frame_bytes}

-- The commands of consecutive tickets, from `next` on. If a ticket is not in hand, it has none.
pub record Hand : Type 0 where
  pub next : ℕ
  pub slots : List (Option Command)

-- ticket t is in hand, with this command
pub record Holds (hand : Hand) (t : ℕ) (command : Command) : Type 0 where
  pub reached : hand.next ≤ t
  pub there : slice_index_or hand.slots (t - hand.next) None ≡ Some command

-- these commands are in hand, from the first place on
abbrev pub IsRun : Hand → List Command → Type 0
IsRun hand commands = (rest : List (Option Command)) × (hand.slots ≡ map Some commands ++ rest)

-- they may be one batch of a log of this layout, of at most `most`
pub record FitsBatch (layout : Layout) (most first : ℕ) (commands : List Command) : Type 0 where
  pub few : length commands ≤ most
  pub fits : first + length commands < 2 ^ 64
  pub within : length commands ≤ most_commands
  pub short : length (frame layout (record { first = first; commands = commands })) ≤ most_frame_bytes

-- how many commands one batch from this ticket on may have, by their number and by their tickets
abbrev pub most_from : ℕ → ℕ → ℕ
most_from first most = min (min most most_commands) (18446744073709551615 - first)

-- the longest run that may be one batch of a log of this layout
pub record IsLongest (layout : Layout) (most : ℕ) (hand : Hand) (commands : List Command) : Type 0 where
  pub run : IsRun hand commands
  pub fits : FitsBatch layout most hand.next commands
  pub longest : (others : List Command) → IsRun hand others → FitsBatch layout most hand.next others
      → length others ≤ length commands
