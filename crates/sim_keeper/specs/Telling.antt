-- A step of the keeper's pass, as it is told.
use Rattle.std.specs.Prelude.{◌≡◌, ℕ, [], ◌∷◌, ◌++◌, Option, None, Some, true, false, Result, Ok, Err}
use Rattle.map_types.specs.declared.refusals.Refusal.{Refusal}
use Rattle.ticket_order.specs.declared.record.Record.{Record}
use Rattle.ticket_order.specs.declared.record.StepMade.{StepMade}
use Rattle.ticket_order.specs.Walks.{Kind, kind_of}
use Rattle.flusher.specs.declared.sweeper.Swept.{Swept}
use Rattle.flusher.specs.declared.sweeper.Swept.TheVariants.{More, Held, Done}
use Rattle.sim_rules.specs.declared.outcome.End.{End}
use Rattle.sim_rules.specs.declared.outcome.End.TheVariants as ends
use Rattle.sim_rules.specs.declared.outcome.Made.{Made}
use Rattle.sim_rules.specs.declared.outcome.Made.TheVariants as told
use Rattle.sim_rules.specs.World.{World, Life, count, is_held}
use Rattle.sim_rules.specs.Told.{told_of}
use Rattle.sim_keeper.specs.KeeperInWorld.{SeesHistory}

-- What the words gave the step is what the world has.
abbrev pub AgreesWith : World → Life → Made → Type 0
AgreesWith w l (told.Took i) = is_held l i ≡ false
AgreesWith w l (told.FoundHeld i) = is_held l i ≡ true
AgreesWith w l (told.Looked q) = q ≡ count w
AgreesWith w l m = Unit {0}

-- Exactly one step was made, of this kind, and it is told so.
pub record MakesStep (w : World) (l : Life) (old new : Record) (kind : Kind) (m : Made) : Type 0 where
  pub step : StepMade
  pub steps : new.steps ≡ old.steps ++ step ∷ []
  pub kind_is : kind_of step ≡ kind
  pub told_is : told_of step ≡ Some m
  pub agrees : AgreesWith w l m
  pub history : SeesHistory new w l

-- what a step of a sweep leaves of it
abbrev pub sweep_end : Result Swept Refusal → End
sweep_end (Ok More) = ends.Goes
sweep_end (Ok (Held i)) = ends.SweepHeld i
sweep_end (Ok (Done count)) = ends.Swept count
sweep_end (Err e) = ends.Refused e

-- what a step of a capture leaves of it
abbrev pub capture_end : Result (Option ℕ) Refusal → End
capture_end (Ok None) = ends.Goes
capture_end (Ok (Some mark)) = ends.Captured mark
capture_end (Err e) = ends.Refused e
