-- What the loop of a run keeps.
use Rattle.std.specs.Prelude.{◌≡◌, ℕ, ◌≤◌, List, ◌∷◌, ◌++◌, length, take, Option, Some, None}
use Rattle.map_types.specs.declared.commands.Command.{Command}
use Rattle.map_model.specs.Histories.{History}
use Rattle.map_model.specs.Steps.{fold_of}
use Rattle.ticket_order.specs.declared.record.Call.{Call}
use Rattle.ticket_order.specs.Legality.{IsLegalCall}
use Rattle.disk_model.specs.Files.{Contents}
use Rattle.store_layout.specs.Opening.{Opened, StandsForFront, map_of, prefix_of}
use Rattle.sim_rules.specs.declared.event.Event.{Event}
use Rattle.sim_rules.specs.declared.outcome.Outcome.{Outcome}
use Rattle.sim_rules.specs.declared.outcome.Outcome.TheVariants as outcome
use Rattle.sim_rules.specs.Machine.{MayStop, Move, Releases, AreReleasedTo, machine, whole}
use Rattle.sim_rules.specs.World.{World, Life}
use Rattle.sim_rules.specs.Runs.{AtEachMoment, Row, LeadsTo, least_of, most_of, move_of_step}

-- The rows begin with the world `from`.

-- In a life the machine has the whole history, and no reply was released above the durable count.
pub record IsSoundInside (from : World) (rows : List Row) (w : World) (durable : ℕ)
    (released : List Call) : Type 0 where
  pub leads : LeadsTo from rows w (machine w.history released)
  pub within : AreReleasedTo durable released

-- Between lives it may have kept each number of commands that no release forbids. No reply was released above this
-- count, which the next opening reaches.
pub record IsSoundOutside (from : World) (rows : List Row) (w : World) (least : ℕ) (released : List Call) : Type 0 where
  pub leads : (p : ℕ) → MayStop p (machine w.history released)
      → LeadsTo from rows w (machine (take p w.history) released)
  pub within : AreReleasedTo least released
  pub reached : least ≤ length w.history

abbrev pub IsSoundWith : Option Life → World → List Row → World → ℕ → List Call → Type 0
IsSoundWith None from rows w least released = IsSoundOutside from rows w least released
IsSoundWith (Some l) from rows w least released = IsSoundInside from rows w l.durable released

-- in a life or between lives
abbrev pub IsSound : World → List Row → World → ℕ → List Call → Type 0
IsSound from rows w least released = IsSoundWith w.life from rows w least released

-- ---- the files

-- these contents stand for a front of the history as they have to, and of no fewer than `least` commands
pub record AreAbove (w : World) (least : ℕ) (contents : Contents) : Type 0 where
  pub front : StandsForFront (whole w.history) (least_of w.life) (most_of w.history w.life) contents
  pub above : least ≤ front.count

-- at each moment of an event, and after it
abbrev pub Stays : World → ℕ → Row → World → ℕ → Type 0
Stays w least row w' next = AtEachMoment (AreAbove w least) (AreAbove w' next) row w.files w'.files

-- what is durable in a life, or between lives this count
abbrev pub durable_or : Option Life → ℕ → ℕ
durable_or None least = least
durable_or (Some l) least = l.durable

-- ---- the history as one who came later knows it

-- A front of the history, whose first commands are known by the map after them alone.
pub record IsKnownOf (h : History) (history : List Command) : Type 0 where
  pub front : List Command
  pub more : List Command
  pub first : h.first ≡ length front
  pub opening : h.opening ≡ fold_of front
  pub history_is : history ≡ front ++ (h.commands ++ more)

-- ---- what an event owes beside its case

abbrev pub released_with : Option Move → List Call → List Call
released_with (Some (Releases call)) released = call ∷ released
released_with move released = released

-- the calls whose replies were released, with that of this event
abbrev pub released_by : World → Event → Outcome → List Call → List Call
released_by w e (outcome.Stepped m end) released = released_with (move_of_step w e m end) released
released_by w e x released = released

abbrev pub ReleasesLegal : List Command → Option Move → Type 0
ReleasesLegal history (Some (Releases call)) = IsLegalCall (whole history) call
ReleasesLegal history move = Unit {0}

-- a reply that is released is one thread's at its position
abbrev pub AnswersLegally : World → Event → Outcome → Type 0
AnswersLegally w e (outcome.Stepped m end) = ReleasesLegal w.history (move_of_step w e m end)
AnswersLegally w e x = Unit {0}

-- what is found is the map after a front of the history, of at least `least` commands
pub record IsFront (w : World) (least : ℕ) (found : Opened) : Type 0 where
  pub from_least : least ≤ prefix_of found
  pub within : prefix_of found ≤ length w.history
  pub map : map_of found ≡ fold_of (take (prefix_of found) w.history)

-- an opening that succeeds finds a front
abbrev pub OpensFront : World → ℕ → Opened → Outcome → Type 0
OpensFront w least found (outcome.Opened calls prefix entries) = IsFront w least found
OpensFront w least found x = Unit {0}
