-- The events of a script, and how its lines divide them.
use Rattle.std.specs.Prelude.{◌≡◌, ◌+◌, ◌*◌, ◌<◌, ◌≤◌, ℕ, slice_get, max, Bool, true, false, ◌&&◌, List, [], ◌∷◌}
use Rattle.std.specs.Prelude.{length, take, drop, replicate, Option, Some, None, is_some, if◌then◌else◌}
use Rattle.std.specs.List.{fold}
use Rattle.sim_rules.specs.declared.event.Event.{Event}
use Rattle.sim_rules.specs.declared.event.Event.TheVariants as event
use Rattle.sim_rules.specs.declared.outcome.Outcome.{Outcome}
use Rattle.sim_rules.specs.declared.outcome.Outcome.TheVariants as outcome
use Rattle.sim_script.specs.declared.line.Form.{Form}
use Rattle.sim_script.specs.declared.line.Form.TheVariants.{Start, Step, Go, Release, Sweep, Capture}
use Rattle.sim_script.specs.declared.line.Line.{Line}
use Rattle.sim_script.specs.declared.script.Span.{Span}

-- how many stripes the store is opened for
abbrev pub stripes_in : Event → ℕ
stripes_in (event.Open stripes fails_at) = stripes.count
stripes_in e = 0

abbrev pub or_more : ℕ → Line → ℕ
or_more most line = max most (stripes_in line.event)

-- the most stripes that the store is opened for
abbrev pub most_stripes : List Line → ℕ
most_stripes lines = fold or_more 0 lines

-- How many events a line has behind its first: a call makes five steps at most, and a release three behind its event; a
-- sweep makes a LOOK, and a TAKE and a GIVE on each stripe; a capture makes three.
abbrev pub more_of : ℕ → Form → ℕ
more_of stripes (Go worker) = 4
more_of stripes (Release worker) = 3
more_of stripes Sweep = 2 * stripes
more_of stripes Capture = 2
more_of stripes form = 0

-- what each of them is
abbrev pub next_of : Form → Event
next_of (Start worker) = event.Step worker
next_of (Step worker) = event.Step worker
next_of (Go worker) = event.Step worker
next_of (Release worker) = event.Step worker
next_of form = event.KeeperStep

abbrev pub events_of : ℕ → Line → List Event
events_of stripes line = line.event ∷ replicate (more_of stripes line.form) (next_of line.form)

abbrev pub span_of : ℕ → Line → Span
span_of stripes line = record { form = line.form; events = 1 + more_of stripes line.form }

-- ---- what the outcomes of a line tell

abbrev pub is_skipped : Outcome → Bool
is_skipped outcome.Skipped = true
is_skipped o = false

abbrev pub or_later : Option Outcome → Outcome → Option Outcome
or_later told o = if is_skipped o then told else Some o

-- the last that isn't skipped
abbrev pub told_by : List Outcome → Option Outcome
told_by outcomes = fold or_later None outcomes

abbrev pub is_release : Form → Bool
is_release (Release worker) = true
is_release form = false

abbrev pub begins_skipped : List Outcome → Bool
begins_skipped [] = false
begins_skipped (o ∷ outcomes) = is_skipped o

-- a release that doesn't fit, with steps that do
abbrev pub is_stray : Form → List Outcome → Bool
is_stray form outcomes = is_release form && (begins_skipped outcomes && is_some (told_by outcomes))

-- the outcomes of a line, which are the next, and those behind them
abbrev pub of_line : Span → List Outcome → List Outcome
of_line span outcomes = take span.events outcomes

abbrev pub behind_line : Span → List Outcome → List Outcome
behind_line span outcomes = drop span.events outcomes

-- from which place up to which the steps of the first stray release are
abbrev pub stray_steps : ℕ → List Span → List Outcome → Option (ℕ × ℕ)
stray_steps at [] outcomes = None
stray_steps at (span ∷ spans) outcomes =
    if is_stray span.form (of_line span outcomes) then Some (at + 1, at + length (of_line span outcomes))
    else stray_steps (at + length (of_line span outcomes)) spans (behind_line span outcomes)

-- the events from the one place up to the other are now steps of a worker that there isn't, and the others are as they
-- were
pub record IsTakenBack (first behind : ℕ) (old new : List Event) : Type 0 where
  pub count : length new ≡ length old
  pub nobody : (place : ℕ) → first ≤ place → place < behind → place < length old
      → slice_get new place ≡ Some (event.Step 64)
  pub before : (place : ℕ) → place < first → slice_get new place ≡ slice_get old place
  pub after : (place : ℕ) → behind ≤ place → slice_get new place ≡ slice_get old place

-- the steps of the first stray release are taken back, if there is one
abbrev pub TakesBack : Option (ℕ × ℕ) → List Event → List Event → Bool → Type 0
TakesBack None old new taken = (taken ≡ false) × (new ≡ old)
TakesBack (Some steps) old new taken = (taken ≡ true) × IsTakenBack steps.0 steps.1 old new
