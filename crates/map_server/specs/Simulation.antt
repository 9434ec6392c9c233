-- What comes of a script: its events are played, and what came of its lines is printed.
use Rattle.std.specs.Prelude.{◌≡◌, ◌⊎◌, ℕ, true, List, map, Option, None, Result, Ok, Err}
use Rattle.std.specs.List.{flat_map}
use Rattle.sim_rules.specs.declared.event.Event.{Event}
use Rattle.sim_rules.specs.declared.outcome.Outcome.{Outcome}
use Rattle.sim_rules.specs.Runs.{IsRun}
use Rattle.sim_script.specs.declared.bad_line.ScriptError.{ScriptError}
use Rattle.sim_script.specs.declared.bad_line.ScriptError.TheVariants.{Bad, NoMemory}
use Rattle.sim_script.specs.declared.line.Line.{Line}
use Rattle.sim_script.specs.declared.script.Span.{Span}
use Rattle.sim_script.specs.Scripts.{Fault, script_of}
use Rattle.sim_script.specs.Spans.{TakesBack, events_of, most_stripes, span_of, stray_steps}
use Rattle.sim_script.specs.Texts.{IsScriptText}
use Rattle.call_text.specs.Printing.{Prints, PrintsNothing}

abbrev pub Text : Type 0
Text = List ℕ

-- The outcomes of these events, in which no steps stand behind a release that doesn't fit. They are those of a run of
-- the events that shows no such steps. If a run shows some, those of the first such release are taken back, and the
-- outcomes are those of the events that this leaves.
pub data ComesOf (spans : List Span) (outcomes : List Outcome) : List Event → Type 0 where
  Played : (events : List Event) → IsRun events outcomes → stray_steps 0 spans outcomes ≡ None
      → ComesOf spans outcomes events
  PlayedAgain : (events : List Event) (shown : List Outcome) (left : List Event) → IsRun events shown
      → TakesBack (stray_steps 0 spans shown) events left true
      → ComesOf spans outcomes left → ComesOf spans outcomes events

-- The lines' events are played, and the text tells what came of each line.
pub record IsTold (lines : List Line) (text : Text) : Type 0 where
  pub outcomes : List Outcome
  pub played : ComesOf (map (span_of (most_stripes lines)) lines) outcomes
      (flat_map (events_of (most_stripes lines)) lines)
  pub told : IsScriptText 1 (map (span_of (most_stripes lines)) lines) outcomes text

abbrev pub TellsScript : Result (List Line) Fault → Text → Type 0
TellsScript (Ok lines) text = IsTold lines text
TellsScript (Err fault) text = ⊥

-- the script was told, or its first bad line was refused, or no memory was found
abbrev pub TellsOrFails : {X : Type 0} → Text → (X → Text) → Result X ScriptError → Type 0
TellsOrFails text view (Ok told) = TellsScript (script_of text) (view told)
TellsOrFails text view (Err NoMemory) = Unit {0}
TellsOrFails text view (Err (Bad line fault)) = script_of text ≡ Err (line, fault)

-- What came of a script's lines is printed. A script with a bad line prints nothing, with status 2; and so does one for
-- which no memory is found, with status 1.
abbrev pub SimulatesText : Text → Option (List ℕ) → Option (List ℕ) → ℕ → Type 0
SimulatesText text w0 w1 status =
    ((told : Text) × TellsScript (script_of text) told × Prints told w0 w1 status)
    ⊎ (PrintsNothing w0 w1 status ⊎ ((w1 ≡ w0) × (status ≡ 2) × ((fault : Fault) × (script_of text ≡ Err fault))))

-- A script was read and played; or nothing was printed, with status 1, or 2 if what was read isn't text.
abbrev pub Simulates : Option (List ℕ) → Option (List ℕ) → ℕ → Type 0
Simulates w0 w1 status = ((text : Text) × SimulatesText text w0 w1 status) ⊎ ((w1 ≡ w0) × ((status ≡ 1) ⊎ (status ≡ 2)))
