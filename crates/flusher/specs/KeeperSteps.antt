-- What the keeper shows.
use Rattle.std.specs.Prelude.{◌≡◌, ℕ, ◌+◌, ◌<◌, ◌≤◌, Bool, true, false, List, [], ◌∷◌, ◌++◌, drop, length, replicate}
use Rattle.std.specs.Prelude.{Option, None, Some, Result, Ok}
use Rattle.map_types.specs.declared.commands.Command.{Command}
use Rattle.map_types.specs.declared.refusals.Refusal.{Refusal}
use Rattle.ticket_order.specs.Legality.{entries_from}
use Rattle.log_records.specs.Layout.{layout_of}
use Rattle.store_layout.specs.Logs.{frame, most_log_bytes}
use Rattle.gate_log.specs.States.{LogState, IsResting, batch_of}
use Rattle.ticket_order.specs.declared.stripe.Entry.{Entry}
use Rattle.store_layout.specs.declared.log_phase.Phase.{Phase}
use Rattle.store_layout.specs.declared.log_phase.Phase.TheVariants.{Staged, Opened}
use Rattle.flusher.specs.declared.sweeper.Sweeper.{Sweeper}
use Rattle.flusher.specs.declared.sweeper.Sweep.{Sweep}
use Rattle.ticket_order.specs.declared.record.Record.{Record}
use Rattle.ticket_order.specs.declared.record.StepMade.{StepMade}
use Rattle.ticket_order.specs.declared.record.StepMade.TheVariants.{Gave, Looked}
use Rattle.ticket_order.specs.Calls.{SweepsStripe}
use Rattle.store_layout.specs.Hands.{Hand, IsLongest}
use Rattle.flusher.specs.Gathering.{HasSweptBelow, Collects}
use Rattle.flusher.specs.declared.sweeper.Walking.{Walking}
use Rattle.flusher.specs.declared.sweeper.Walking.TheVariants.{Rests, SweepTakes, SweepGives}

-- it is between the steps of a walk
abbrev pub is_walking : Walking → Bool
is_walking Rests = false
is_walking SweepTakes = true
is_walking (SweepGives walk) = true

-- the first `count` tickets are no longer in hand
abbrev pub passed : ℕ → Hand → Hand
passed count hand = record { next = hand.next + count; slots = drop count hand.slots }

-- what a step of the logs leaves of the entries in hand: after the last sync of a batch its entries are no longer in
-- hand
abbrev pub IsPast : Option LogState → Phase → Sweeper → List Entry → Sweeper → List Entry → Type 0
IsPast None Opened old staged new left =
    (new ≡ record old { in_hand = passed (length staged) old.in_hand }) × (left ≡ [])
IsPast next phase old staged new left = (new ≡ old) × (left ≡ staged)

-- how many commands a step of the logs commits: with the last sync of a batch those of the batch, and none with an end
-- frame's
abbrev pub committed_by : Result Phase Refusal → Phase → List Entry → ℕ
committed_by (Ok next) Opened staged = length staged
committed_by result phase staged = 0

-- these commands were staged as one batch, and taken out of their places
pub record Stages (commands : List Command) (old : LogState) (hand : Hand) (new : LogState) (left : Hand)
    (staged : List Entry) : Type 0 where
  pub entries : staged ≡ entries_from hand.next commands
  pub log : new ≡ record old {
    phase = Staged;
    count = length staged;
    frame = frame (layout_of old.version)
        (batch_of old.committed staged) ++ 0 ∷ [];
  }
  pub hand_is : left ≡ record hand { slots = replicate (length commands) None ++ drop (length commands) hand.slots }

-- a batch may be staged: the log rests, and none is to follow it
abbrev pub MayStage : LogState → Option LogState → Type 0
MayStage log next = IsResting log × (next ≡ None)

-- a batch of these commands would carry the log past its greatest length
abbrev pub is_too_long : LogState → List Command → Type 0
is_too_long log commands = most_log_bytes < log.gate + 1 + length
    (frame (layout_of log.version) (record { first = log.committed; commands = commands })) + 1

-- there is something to stage, and it would
pub record IsFull (most : ℕ) (log : LogState) (hand : Hand) : Type 0 where
  pub commands : List Command
  pub longest : IsLongest (layout_of log.version) most hand commands
  pub some : 1 ≤ length commands
  pub too_long : is_too_long log commands

-- A sweep is begun, and stays at a stripe. All entries of the stripes before it, that are below its count, were taken.
pub record StaysAt (n : ℕ) (sweeper : Sweeper) (p : Record) : Type 0 where
  pub sweep : Sweep
  pub sweep_is : sweeper.sweep ≡ Some sweep
  pub below : HasSweptBelow n sweep.count sweep.stripe p

-- It stays at a stripe that it had taken: the last of the steps that the pass's record gained is the GIVE of that
-- stripe.
pub record HasGivenBack (sweeper : Sweeper) (p w : Record) : Type 0 where
  pub sweep : Sweep
  pub sweep_is : sweeper.sweep ≡ Some sweep
  pub before : List StepMade
  pub steps : w.steps ≡ p.steps ++ (before ++ Gave sweep.stripe ∷ [])

-- what the LOOKs among these steps found, in order
abbrev pub looks_of : List StepMade → List ℕ
looks_of [] = []
looks_of (Looked count ∷ made) = count ∷ looks_of made
looks_of (other ∷ made) = looks_of made

-- These are steps of a sweep of this count. If it was begun before them, there is no LOOK; else there is one, which
-- found the count.
abbrev pub AreOfSweep : Option Sweep → ℕ → List StepMade → Type 0
AreOfSweep (Some begun) count made = (count ≡ begun.count) × (looks_of made ≡ [])
AreOfSweep None count made = looks_of made ≡ count ∷ []

-- the steps that the pass's record gained are of the sweep that was begun, or of a whole one
pub record MakesSweep (begun : Option Sweep) (count : ℕ) (p w : Record) : Type 0 where
  pub made : List StepMade
  pub steps : w.steps ≡ p.steps ++ made
  pub sweep : AreOfSweep begun count made

-- TAKE and GIVE: the stripe's outbox is in hand besides
pub record SweepsOnce (n i : ℕ) (old new : Hand) (p w : Record) : Type 0 where
  pub entries : List Entry
  pub sweeps : SweepsStripe n p i entries w
  pub collects : Collects old entries new
