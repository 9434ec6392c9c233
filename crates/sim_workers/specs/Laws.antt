-- Laws of the workers of a life.
use Rattle.std.specs.Prelude.{◌≡◌, ◌⊎◌, ℕ, ◌<◌, List, length, Option, Some, None, true, false, ◌&&◌}
use Rattle.map_types.specs.declared.commands.Command.{Command}
use Rattle.map_types.specs.declared.commands.Read as read_type
use Rattle.map_types.specs.declared.refusals.Refusal.TheVariants.{KeyTooLong}
use Rattle.map_model.specs.Parts.{union_of}
use Rattle.map_model.specs.Steps.{fold_of}
use Rattle.atomic_methods.specs.PartState.{PartState}
use Rattle.ticket_order.specs.declared.held.Held.{Held}
use Rattle.ticket_order.specs.declared.record.Record.{Record}
use Rattle.ticket_order.specs.declared.walk.Walk.{Walk}
use Rattle.ticket_order.specs.declared.walk.Stepped.{Stepped}
use Rattle.ticket_order.specs.Records.{IsWithin}
use Rattle.ticket_order.specs.Walks.{ToChange, ToRead, ToRelease, Fits, IsUnderWay}
use Rattle.one_history.specs.declared.book.Book.{Book}
use Rattle.one_history.specs.Turns.{at_start, maps_of, record_of}
use Rattle.one_history.specs.Moves.{IsFree}
use Rattle.one_history.specs.OneHistory.{HoldApart, HoldsStripe, IsOneHistory}
use Rattle.store_layout.specs.Opening.{Contents, Opened, key_limit_of, prefix_of}
use Rattle.sim_rules.specs.declared.event.Event.{Event}
use Rattle.sim_rules.specs.declared.event.Event.TheVariants as event
use Rattle.sim_rules.specs.declared.outcome.End.{End}
use Rattle.sim_rules.specs.declared.outcome.Made.{Made}
use Rattle.sim_rules.specs.declared.outcome.Outcome.{Outcome}
use Rattle.sim_rules.specs.declared.outcome.Outcome.TheVariants as outcome
use Rattle.sim_rules.specs.World.{World, Life, begun_by, is_held}
use Rattle.sim_rules.specs.Fitting.{fits, is_worker}
use Rattle.sim_rules.specs.After.{after}
use Rattle.sim_rules.specs.Cases.{Meets}
use Rattle.sim_rules.specs.Sound.{AnswersLegally}
use Rattle.sim_workers.specs.Doings.{Doing, Rests, Calls, Waits, Releases, CallLeaves, ReleaseLeaves, is_resting}
use Rattle.sim_workers.specs.Doings.{is_stepping, is_waiting}
use Rattle.sim_workers.specs.Workers.{ConcernsNone, Gathers, IsNowDoing, KeeperMoves, MakesStep, Stand, StepsWalk}
use Rattle.sim_workers.specs.Workers.{WorkersStand}

-- The outcome meets the case of the event, a reply that it releases is one thread's, and the workers stand as they
-- should in the world after it.
pub record KeepsStanding (w : World) (found : Opened) (e : Event) (x : Outcome) (b : Book)
    (doings : ℕ → Doing) : Type 0 where
  pub meets : Meets w found e x
  pub answers : AnswersLegally w e x
  pub stand : Stand b (after w found e x) doings

-- ---- which events fit

-- a worker that rests may begin a call
abbrev pub ChangeFits : Type 0
ChangeFits = (b : Book) (w : World) (doings : ℕ → Doing) (j : ℕ) (c : Command) → Stand b w doings
    → fits w (event.Change j c) ≡ (is_worker j && is_resting (doings j))

abbrev pub ReadFits : Type 0
ReadFits = (b : Book) (w : World) (doings : ℕ → Doing) (j : ℕ) (r : read_type.Read) → Stand b w doings
    → fits w (event.Read j r) ≡ (is_worker j && is_resting (doings j))

-- one whose walk is under way may make its next step
abbrev pub StepFits : Type 0
StepFits = (b : Book) (w : World) (doings : ℕ → Doing) (j : ℕ) → Stand b w doings
    → fits w (event.Step j) ≡ (is_worker j && is_stepping (doings j))

-- one that holds a reply may begin to release it
abbrev pub ReleaseFits : Type 0
ReleaseFits = (b : Book) (w : World) (doings : ℕ → Doing) (j : ℕ) → Stand b w doings
    → fits w (event.Release j) ≡ (is_worker j && is_waiting (doings j))

-- ---- a walk begins

-- a change whose key is within the limit
abbrev pub ChangeBegins : Type 0
ChangeBegins = (b : Book) (w : World) (found : Opened) (doings doings' : ℕ → Doing) (j : ℕ) (c : Command) (walk : Walk)
    → Stand b w doings → j < 64
    → doings j ≡ Rests → IsWithin b.opening.key_limit c
    → ((n : ℕ) (p : Record) → p.holding ≡ None → IsWithin p.opening.key_limit c → Fits n p (ToChange c) walk p)
    → IsNowDoing j (Calls walk) doings doings'
    → KeepsStanding w found (event.Change j c) outcome.Started b doings'

-- one with a longer key is refused, and all is as it was
abbrev pub ChangeTurnedDown : Type 0
ChangeTurnedDown =
    (b : Book) (w : World) (found : Opened) (doings : ℕ → Doing) (j : ℕ) (c : Command) → Stand b w doings → j < 64
    → doings j ≡ Rests → b.opening.key_limit < length c.key
    → KeepsStanding w found (event.Change j c) (outcome.Refused KeyTooLong) b doings
    × (after w found (event.Change j c) (outcome.Refused KeyTooLong) ≡ w)

abbrev pub ReadBegins : Type 0
ReadBegins = (b : Book) (w : World) (found : Opened) (doings doings' : ℕ
    → Doing) (j : ℕ) (r : read_type.Read) (walk : Walk) → Stand b w doings
    → j < 64 → doings j ≡ Rests
    → ((n : ℕ) (p : Record) → p.holding ≡ None → Fits n p (ToRead r) walk p) → IsNowDoing j (Calls walk) doings doings'
    → KeepsStanding w found (event.Read j r) outcome.Started b doings'

abbrev pub ReleaseBegins : Type 0
ReleaseBegins = (b : Book) (w : World) (found : Opened) (doings doings' : ℕ → Doing) (j : ℕ) (held : Held) (walk : Walk)
    → Stand b w doings → j < 64
    → doings j ≡ Waits held
    → ((n : ℕ) (p : Record) → Fits n p (ToRelease held.position held.reply) walk p)
    → IsNowDoing j (Releases walk) doings doings'
    → KeepsStanding w found (event.Release j) outcome.Started b doings'

-- ---- a step of a walk

-- of a change or of a read
abbrev pub CallSteps : Type 0
CallSteps = (b b' : Book) (w : World) (found : Opened) (doings doings' : ℕ
    → Doing) (j : ℕ) (walk : Walk) (stepped : Stepped) (made : Made) (doing : Doing) (end : End) → Stand b w doings
    → j < 64
    → doings j ≡ Calls walk → MakesStep j b b' made → StepsWalk b.stripes walk (record_of j b) stepped (record_of j b')
    → CallLeaves stepped doing end
    → IsNowDoing j doing doings doings'
    → KeepsStanding w found (event.Step j) (outcome.Stepped made end) b' doings'

-- of a release
abbrev pub ReleaseSteps : Type 0
ReleaseSteps = (b b' : Book) (w : World) (found : Opened) (doings doings' : ℕ
    → Doing) (j : ℕ) (walk : Walk) (stepped : Stepped) (made : Made) (doing : Doing) (end : End) → Stand b w doings
    → j < 64
    → doings j ≡ Releases walk → MakesStep j b b' made
    → StepsWalk b.stripes walk (record_of j b) stepped (record_of j b')
    → ReleaseLeaves stepped doing end → IsNowDoing j doing doings doings'
    → KeepsStanding w found (event.Step j) (outcome.Stepped made end) b' doings'

-- ---- what a walk may do

-- the walk of a worker may make its next step
abbrev pub WalksAreUnderWay : Type 0
WalksAreUnderWay = (b : Book) (w : World) (doings : ℕ → Doing) (j : ℕ) (walk : Walk) → Stand b w doings → j < 64
    → (doings j ≡ Calls walk) ⊎ (doings j ≡ Releases walk) → IsUnderWay b.stripes walk (record_of j b)

-- what it leaves is what a call may leave
abbrev pub CallsLeave : Type 0
CallsLeave = (b : Book) (w : World) (doings : ℕ → Doing) (j : ℕ) (walk : Walk) (stepped : Stepped) (p : Record)
    → Stand b w doings → j < 64
    → doings j ≡ Calls walk → StepsWalk b.stripes walk (record_of j b) stepped p
    → (doing : Doing) × (end : End) × CallLeaves stepped doing end

-- or what a release may leave
abbrev pub ReleasesLeave : Type 0
ReleasesLeave = (b : Book) (w : World) (doings : ℕ → Doing) (j : ℕ) (walk : Walk) (stepped : Stepped) (p : Record)
    → Stand b w doings → j < 64
    → doings j ≡ Releases walk → StepsWalk b.stripes walk (record_of j b) stepped p
    → (doing : Doing) × (end : End) × ReleaseLeaves stepped doing end

-- ---- the words of the stripes

-- The word of a stripe that no pass holds is free in the world,
abbrev pub FreeIsTold : Type 0
FreeIsTold = (b : Book) (w : World) (l : Life) (doings : ℕ → Doing) (i : ℕ) → WorkersStand b w l doings → IsFree i b
    → is_held l i ≡ false

-- and that of one which a pass holds is held.
abbrev pub HeldIsTold : Type 0
HeldIsTold = (b : Book) (w : World) (l : Life) (doings : ℕ → Doing) (j i : ℕ) → WorkersStand b w l doings
    → HoldsStripe b j i → is_held l i ≡ true

-- ---- a life begins

-- All workers rest, and the words have made no step, on parts that make the map after the commands that the opening
-- found in these contents. The key of a change may have as many bytes as the contents allow.
abbrev pub LifeBegins : Type 0
LifeBegins = (b : Book) (w : World) (stripes : ℕ) (contents : Contents) (found : Opened) (parts : List PartState)
    (doings : ℕ → Doing)
    → b ≡ at_start (prefix_of found) parts (key_limit_of contents found) 64 → IsOneHistory b → HoldApart b
    → length parts ≡ stripes
    → w.life ≡ Some (begun_by stripes contents found) → length w.history ≡ prefix_of found
    → union_of (maps_of parts) ≡ fold_of w.history → ((j : ℕ) → j < 64
    → doings j ≡ Rests) → Stand b w doings

-- ---- the keeper

-- what the keeper does without a step on the words leaves the workers as they are
abbrev pub KeeperRests : Type 0
KeeperRests =
    (b : Book) (w w' : World) (l l' : Life) (doings : ℕ → Doing) → WorkersStand b w l doings → ConcernsNone w w' l l'
    → WorkersStand b w' l' doings

-- A step of the keeper leaves the workers as they are. It brings into hand no entry, or each that lies in the outbox of
-- the stripe that it gives back.
abbrev pub KeeperSteps : Type 0
KeeperSteps =
    (b b' : Book) (w w' : World) (l l' : Life) (doings : ℕ → Doing) (swept : Option ℕ) → WorkersStand b w l doings
    → KeeperMoves b b' w w' l l' → Gathers b b' w l l' swept → WorkersStand b' w' l' doings
