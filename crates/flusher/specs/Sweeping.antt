-- Where the keeper's sweep stands, and what one step of it does.
use Rattle.std.specs.Prelude.{◌≡◌, ℕ, ◌+◌, ◌<◌, ◌≤◌, List, [], length, Option, Some, None, Result, Ok, Err}
use Rattle.map_types.specs.declared.commands.Command.{Command}
use Rattle.map_types.specs.declared.refusals.Refusal.{Refusal}
use Rattle.map_types.specs.declared.refusals.Refusal.TheVariants.{NoMemory}
use Rattle.ticket_order.specs.declared.walk.Walk.{Walk}
use Rattle.std.specs.List.{Contains}
use Rattle.ticket_order.specs.declared.record.StepMade.TheVariants.{Looked}
use Rattle.ticket_order.specs.declared.record.Record.{Record}
use Rattle.ticket_order.specs.Records.{missing, outbox_held}
use Rattle.ticket_order.specs.StepRules.{Looks}
use Rattle.ticket_order.specs.Calls.{SweepsStripe, RefusesSweep}
use Rattle.ticket_order.specs.Walks.{Kind, Take, Give, Look, ToSweep, Fits, steps_left, entries_of_walk}
use Rattle.ticket_order.specs.Walks.{refusal_of_walk}
use Rattle.flusher.specs.declared.sweeper.Sweep.{Sweep}
use Rattle.flusher.specs.declared.sweeper.Walking.{Walking}
use Rattle.flusher.specs.declared.sweeper.Walking.TheVariants.{Rests, SweepTakes, SweepGives}
use Rattle.flusher.specs.declared.sweeper.Swept.{Swept}
use Rattle.flusher.specs.declared.sweeper.Swept.TheVariants.{More, Held, Done}
use Rattle.flusher.specs.declared.sweeper.Sweeper.{Sweeper}
use Rattle.store_layout.specs.Hands.{Hand}
use Rattle.flusher.specs.HandSteps.{Gains}
use Rattle.flusher.specs.Gathering.{Gathers, HasSweptBelow, AreGathered, Collects}

-- the kind of the step that comes next
abbrev pub next_kind : Option Sweep → Walking → Kind
next_kind None walking = Look
next_kind (Some sweep) Rests = Take sweep.stripe
next_kind (Some sweep) SweepTakes = Take sweep.stripe
next_kind (Some sweep) (SweepGives walk) = Give sweep.stripe

-- no stripe is held, and the stripes before the sweep's are done
pub record IsBetween (n : ℕ) (sweep : Sweep) (hand : Hand) (gone : List Command) (p : Record) : Type 0 where
  pub free : p.holding ≡ None
  pub within : sweep.stripe < n
  pub below : HasSweptBelow n sweep.count sweep.stripe p
  pub gathers : Gathers hand gone p

-- the walk of a sweep of stripe i, which began at the record `begun`, has made its TAKE, and has only its GIVE left
pub record IsSwept (n : ℕ) (begun : Record) (i : ℕ) (walk : Walk) (p : Record) : Type 0 where
  pub fits : Fits n begun (ToSweep i) walk p
  pub one_left : steps_left walk ≤ 1
  pub one_made : length p.steps ≡ length begun.steps + 1

-- the stripe is held, since its TAKE
pub record IsHolding (n : ℕ) (sweep : Sweep) (walk : Walk) (hand : Hand) (gone : List Command)
    (p : Record) : Type 0 where
  pub begun : Record
  pub between : IsBetween n sweep hand gone begun
  pub taken : IsSwept n begun sweep.stripe walk p

-- no sweep is begun
pub record HasNone (hand : Hand) (gone : List Command) (p : Record) : Type 0 where
  pub free : p.holding ≡ None
  pub gathers : Gathers hand gone p

abbrev pub StandsBy : ℕ → Option Sweep → Walking → Hand → List Command → Record → Type 0
StandsBy n None Rests hand gone p = HasNone hand gone p
StandsBy n None SweepTakes hand gone p = ⊥
StandsBy n None (SweepGives walk) hand gone p = ⊥
StandsBy n (Some sweep) Rests hand gone p = IsBetween n sweep hand gone p
StandsBy n (Some sweep) SweepTakes hand gone p = IsBetween n sweep hand gone p
StandsBy n (Some sweep) (SweepGives walk) hand gone p = IsHolding n sweep walk hand gone p

-- The sweeper and the record of its pass, over n stripes, when the commands `gone` are no longer in hand.
abbrev pub Stands : ℕ → Sweeper → List Command → Record → Type 0
Stands n sweeper gone p = StandsBy n sweeper.sweep sweeper.walking sweeper.in_hand gone p

-- a LOOK began a sweep
pub record BeginsSweep (old : Hand) (new : Sweeper) (p w : Record) (result : Result Swept Refusal) : Type 0 where
  pub count : ℕ
  pub looks : Looks p count w
  pub answer : result ≡ Ok More
  pub sweep_is : new.sweep ≡ Some (record { count = count; stripe = 0 })
  pub walking : new.walking ≡ SweepTakes
  pub hand : new.in_hand ≡ old

-- a TAKE found the stripe free
pub record TakesStripe (n : ℕ) (sweep : Sweep) (old : Hand) (new : Sweeper) (p w : Record) : Type 0 where
  pub walk : Walk
  pub walking : new.walking ≡ SweepGives walk
  pub taken : IsSwept n p sweep.stripe walk w
  pub sweep_is : new.sweep ≡ Some sweep
  pub hand : new.in_hand ≡ old

-- a TAKE found the stripe held
pub record MissesStripe (sweep : Sweep) (i : ℕ) (old : Hand) (new : Sweeper) (p w : Record) : Type 0 where
  pub stripe : i ≡ sweep.stripe
  pub is : w ≡ missing p sweep.stripe
  pub walking : new.walking ≡ Rests
  pub sweep_is : new.sweep ≡ Some sweep
  pub hand : new.in_hand ≡ old

abbrev pub AfterTake : ℕ → Sweep → Hand → Sweeper → Record → Record → Result Swept Refusal → Type 0
AfterTake n sweep old new p w (Ok More) = TakesStripe n sweep old new p w
AfterTake n sweep old new p w (Ok (Held i)) = MissesStripe sweep i old new p w
AfterTake n sweep old new p w (Ok (Done count)) = ⊥
AfterTake n sweep old new p w (Err refusal) = ⊥

-- a GIVE kept the outbox, whose entries are in hand
pub record DrainsStripe (n : ℕ) (sweep : Sweep) (walk : Walk) (old : Hand) (new : Sweeper) (p w : Record) : Type 0 where
  pub swept : (begun : Record) → IsSwept n begun sweep.stripe walk p
      → SweepsStripe n begun sweep.stripe (entries_of_walk walk) w
  -- they are the outbox that was held
  pub outbox : (begun : Record) → IsSwept n begun sweep.stripe walk p → entries_of_walk walk ≡ outbox_held p.holding
  pub collects : Collects old (entries_of_walk walk) new.in_hand

-- and the sweep goes on
pub record GoesOn (n : ℕ) (sweep : Sweep) (walk : Walk) (old : Hand) (new : Sweeper) (p w : Record) : Type 0 where
  pub drains : DrainsStripe n sweep walk old new p w
  pub more : sweep.stripe + 1 < n
  pub sweep_is : new.sweep ≡ Some (record sweep { stripe = sweep.stripe + 1 })
  pub walking : new.walking ≡ SweepTakes

-- and the sweep is over
pub record Ends (n : ℕ) (sweep : Sweep) (walk : Walk) (count : ℕ) (old : Hand) (new : Sweeper)
    (p w : Record) : Type 0 where
  pub drains : DrainsStripe n sweep walk old new p w
  pub last : sweep.stripe + 1 ≡ n
  pub count_is : count ≡ sweep.count
  pub sweep_is : new.sweep ≡ None
  pub walking : new.walking ≡ Rests

-- a GIVE put the stripe back as it was taken, for want of memory
pub record PutsBack (n : ℕ) (sweep : Sweep) (walk : Walk) (refusal : Refusal) (old : Hand) (new : Sweeper)
    (p w : Record) : Type 0 where
  pub refused : refusal ≡ NoMemory
  pub swept : (begun : Record) → IsSwept n begun sweep.stripe walk p → RefusesSweep begun sweep.stripe NoMemory w
  pub collects : Collects old [] new.in_hand
  pub sweep_is : new.sweep ≡ Some sweep
  pub walking : new.walking ≡ Rests

abbrev pub AfterGive : ℕ → Sweep → Walk → Hand → Sweeper → Record → Record → Result Swept Refusal → Type 0
AfterGive n sweep walk old new p w (Ok More) = GoesOn n sweep walk old new p w
AfterGive n sweep walk old new p w (Ok (Held i)) = ⊥
AfterGive n sweep walk old new p w (Ok (Done count)) = Ends n sweep walk count old new p w
AfterGive n sweep walk old new p w (Err refusal) = PutsBack n sweep walk refusal old new p w

-- what one step of the sweep leaves, by where it stood
abbrev pub StepsOn : ℕ → Option Sweep → Walking → Hand → Sweeper → Record → Record → Result Swept Refusal → Type 0
StepsOn n None walking old new p w result = BeginsSweep old new p w result
StepsOn n (Some sweep) Rests old new p w result = AfterTake n sweep old new p w result
StepsOn n (Some sweep) SweepTakes old new p w result = AfterTake n sweep old new p w result
StepsOn n (Some sweep) (SweepGives walk) old new p w result = AfterGive n sweep walk old new p w result

-- A sweep that is over has gathered every ticket below the count that its LOOK found.
pub record HasGathered (new : Sweeper) (gone : List Command) (count : ℕ) (w : Record) : Type 0 where
  pub looked : Contains w.steps (Looked count)
  pub all : AreGathered new.in_hand gone w count

abbrev pub IsDone : Sweeper → List Command → Record → Swept → Type 0
IsDone new gone w More = Unit {0}
IsDone new gone w (Held i) = Unit {0}
IsDone new gone w (Done count) = HasGathered new gone count w

-- The walk, with a place for each entry that it hands out; or the walk that puts the stripe back.
pub record IsReady (old new : Hand) (before walk : Walk) : Type 0 where
  pub swept : (n : ℕ) (begun : Record) (i : ℕ) (p : Record) → IsSwept n begun i before p → IsSwept n begun i walk p
  pub entries : refusal_of_walk walk ≡ None → entries_of_walk walk ≡ entries_of_walk before
  pub room : refusal_of_walk walk ≡ None → (hand : Hand) → Gains new (entries_of_walk before) hand
      → Collects old (entries_of_walk before) hand
  pub same : Collects old [] new
