-- What the entries in hand have to do with the record of the keeper's pass.
use Rattle.std.specs.Prelude.{◌≡◌, ◌⊎◌, ℕ, ◌+◌, ◌<◌, ◌≤◌, List, length, true}
use Rattle.std.specs.List.{Contains}
use Rattle.java_hash.specs.Stripes.{stripe_of}
use Rattle.map_types.specs.declared.commands.Command.{Command}
use Rattle.ticket_order.specs.declared.stripe.Entry.{Entry}
use Rattle.ticket_order.specs.declared.record.Record.{Record}
use Rattle.ticket_order.specs.declared.record.StepMade.TheVariants.{Looked}
use Rattle.ticket_order.specs.Records.{IsWithin, entry, reach}
use Rattle.ticket_order.specs.Legality.{entries_from}
use Rattle.store_layout.specs.Hands.{Hand, Holds}

-- The entries in `taken` are exactly those of `gone`, which are no longer in hand, and those in hand. All of them are
-- entries of `seen`. Both lists of commands begin at the ticket `first`.
pub record Accounts (hand : Hand) (gone : List Command) (first : ℕ) (taken : List Entry)
    (seen : List Command) : Type 0 where
  pub low : first ≤ hand.next
  pub reached : hand.next ≤ first + length gone
  pub each : (e : Entry) → Contains taken e → Contains (entries_from first gone) e ⊎ Holds hand e.ticket e.command
  pub was_taken : (e : Entry) → Contains (entries_from first gone) e → Contains taken e
  pub held : (t : ℕ) (c : Command) → Holds hand t c → Contains taken (entry t c)
  pub known : (e : Entry) → Contains taken e → Contains (entries_from first seen) e

-- the key of each of these entries is within the limit
abbrev pub AreWithin : ℕ → List Entry → Type 0
AreWithin limit entries = (e : Entry) → Contains entries e → IsWithin limit e.command

-- The sweeps of the keeper's pass took exactly the entries of `gone`, from the opening on, which are no longer in hand,
-- and the entries in hand. All of them are entries of the one history, and their keys are within the limit of this
-- life.
pub record Gathers (hand : Hand) (gone : List Command) (p : Record) : Type 0 where
  pub keeper : p.keeper ≡ true
  pub accounts : Accounts hand gone p.opening.first p.taken p.seen
  pub within : AreWithin p.opening.key_limit p.taken

-- all entries of `seen` that are below the count, and of the stripes before this one, of n, were taken
abbrev pub AreTaken : ℕ → ℕ → ℕ → ℕ → List Entry → List Command → Type 0
AreTaken n count stripe first taken seen = (e : Entry) → Contains (entries_from first seen) e → e.ticket < count
    → stripe_of n e.command.key < stripe → Contains taken e

-- A sweep, whose LOOK found this count, has taken all entries below the count of the stripes before this one, of n.
pub record HasSweptBelow (n count stripe : ℕ) (p : Record) : Type 0 where
  pub looked : Contains p.steps (Looked count)
  pub reached : count ≤ reach p
  pub all : AreTaken n count stripe p.opening.first p.taken p.seen

-- ticket t is in hand, or it was and is no longer
abbrev pub IsGathered : Hand → List Command → Record → ℕ → Type 0
IsGathered hand gone p t = (c : Command) × (Contains (entries_from p.opening.first gone) (entry t c) ⊎ Holds hand t c)

-- every ticket from the opening up to this count is so
abbrev pub AreGathered : Hand → List Command → Record → ℕ → Type 0
AreGathered hand gone p count = (t : ℕ) → p.opening.first ≤ t → t < count → IsGathered hand gone p t

-- The entries from the first place on are in hand besides: what is in hand now was so, or is one of them.
pub record Collects (old : Hand) (entries : List Entry) (new : Hand) : Type 0 where
  pub next : new.next ≡ old.next
  pub all : (e : Entry) → Contains entries e → old.next ≤ e.ticket → (c : Command) × Holds new e.ticket c
  pub kept : (t : ℕ) (c : Command) → Holds old t c → (d : Command) × Holds new t d
  pub only : (t : ℕ) (c : Command) → Holds new t c → Holds old t c ⊎ Contains entries (entry t c)
