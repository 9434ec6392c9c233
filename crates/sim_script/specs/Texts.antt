-- What came of a script, as text.
use Rattle.std.specs.Prelude.{◌≡◌, ◌+◌, ℕ, true, false, List, [], ◌∷◌, ◌++◌, length, Option, Some, None, codes, decimal}
use Rattle.store_layout.specs.declared.log_phase.Phase.{Phase}
use Rattle.store_layout.specs.declared.log_phase.Phase.TheVariants as phase
use Rattle.sim_rules.specs.declared.outcome.End.{End}
use Rattle.sim_rules.specs.declared.outcome.End.TheVariants as ends
use Rattle.sim_rules.specs.declared.outcome.Made.{Made}
use Rattle.sim_rules.specs.declared.outcome.Made.TheVariants as made
use Rattle.sim_rules.specs.declared.outcome.Outcome.{Outcome}
use Rattle.sim_rules.specs.declared.outcome.Outcome.TheVariants as outcome
use Rattle.call_text.specs.Answers.{IsReplyText}
use Rattle.call_text.specs.Names.{Text}
use Rattle.sim_script.specs.declared.line.Form.{Form}
use Rattle.sim_script.specs.declared.line.Form.TheVariants.{Single, Start, Step, Go, Release, Sweep, Capture}
use Rattle.sim_script.specs.declared.script.Span.{Span}
use Rattle.sim_script.specs.Spans.{behind_line, of_line, told_by}

abbrev pub phase_name : Phase → Text
phase_name phase.Idle = codes "Idle"
phase_name phase.Header = codes "Header"
phase_name phase.HeaderWritten = codes "HeaderWritten"
phase_name phase.Staged = codes "Staged"
phase_name phase.Written = codes "Written"
phase_name phase.Synced = codes "Synced"
phase_name phase.Opened = codes "Opened"

-- a step, and what it found
abbrev pub made_text : Made → Text
made_text (made.Took stripe) = codes "TAKE"
made_text (made.FoundHeld stripe) = codes "TAKE held"
made_text (made.Gave stripe) = codes "GIVE"
made_text (made.Drew ticket) = codes "TICKET " ++ decimal ticket
made_text (made.Looked count) = codes "LOOK " ++ decimal count
made_text (made.Saw count) = codes "SEE " ++ decimal count
made_text (made.FoundAlive true) = codes "ALIVE yes"
made_text (made.FoundAlive false) = codes "ALIVE no"

-- The texts of refusals are their own.

-- how a walk ended
abbrev pub IsEndText : End → Text → Type 0
IsEndText ends.Goes text = text ≡ codes "goes"
IsEndText (ends.Held position) text = text ≡ codes "held " ++ decimal position
IsEndText (ends.Replied position reply) text =
    (words : Text) × IsReplyText reply words × (text ≡ codes "reply " ++ (decimal position ++ (codes " " ++ words)))
IsEndText ends.NotYet text = text ≡ codes "notyet"
IsEndText ends.Failed text = text ≡ codes "failed"
IsEndText (ends.Swept count) text = text ≡ codes "sweep " ++ decimal count
IsEndText (ends.SweepHeld stripe) text = text ≡ codes "sweep held " ++ decimal stripe
IsEndText (ends.Captured mark) text = text ≡ codes "mark " ++ decimal mark
IsEndText (ends.Refused refusal) text = Unit {0}

-- what came of an event
abbrev pub IsOutcomeText : Outcome → Text → Type 0
IsOutcomeText outcome.Old text = text ≡ codes "old"
IsOutcomeText outcome.Skipped text = text ≡ codes "skipped"
IsOutcomeText (outcome.Refused refusal) text = Unit {0}
IsOutcomeText (outcome.NotOpened calls refusal) text = Unit {0}
IsOutcomeText (outcome.Opened calls prefix entries) text =
    text ≡ codes "open " ++ (decimal prefix ++ (codes " " ++ decimal (length entries.items)))
IsOutcomeText outcome.Started text = text ≡ codes "start"
IsOutcomeText (outcome.Stepped made end) text = IsEndText end text
IsOutcomeText (outcome.Staged count) text = text ≡ codes "staged " ++ decimal count
IsOutcomeText (outcome.Logged call phase) text = text ≡ codes "log " ++ phase_name phase
IsOutcomeText (outcome.Checkpointed call phase) text = text ≡ codes "ckpt"
IsOutcomeText (outcome.CallFailed call) text = Unit {0}
IsOutcomeText (outcome.Published count) text = text ≡ codes "durable " ++ decimal count
IsOutcomeText outcome.FailMade text = text ≡ codes "fail"
IsOutcomeText outcome.Begun text = text ≡ codes "begin"
IsOutcomeText outcome.Sealing text = text ≡ codes "seal"
IsOutcomeText (outcome.Stopped within) text = text ≡ codes "stop"
IsOutcomeText outcome.Left text = text ≡ codes "leave"

-- the worker's number before the text
abbrev pub IsWorkerText : ℕ → Outcome → Text → Type 0
IsWorkerText worker o text = (words : Text) × IsOutcomeText o words × (text ≡ decimal worker ++ (codes " " ++ words))

abbrev pub IsStartText : ℕ → Outcome → Text → Type 0
IsStartText worker outcome.Started text = text ≡ codes "start " ++ decimal worker
IsStartText worker o text = IsWorkerText worker o text

abbrev pub IsStepText : ℕ → Outcome → Text → Type 0
IsStepText worker (outcome.Stepped made end) text = text ≡ decimal worker ++ (codes " " ++ made_text made)
IsStepText worker o text = IsWorkerText worker o text

abbrev pub IsCaptureText : Outcome → Text → Type 0
IsCaptureText (outcome.Stepped (made.FoundHeld stripe) end) text = text ≡ codes "held"
IsCaptureText o text = IsOutcomeText o text

-- what came of a line, by what tells it
abbrev pub IsLineText : Form → Outcome → Text → Type 0
IsLineText Single o text = IsOutcomeText o text
IsLineText Sweep o text = IsOutcomeText o text
IsLineText (Start worker) o text = IsStartText worker o text
IsLineText (Step worker) o text = IsStepText worker o text
IsLineText (Go worker) o text = IsWorkerText worker o text
IsLineText (Release worker) o text = IsWorkerText worker o text
IsLineText Capture o text = IsCaptureText o text

abbrev pub IsToldText : Form → Option Outcome → Text → Type 0
IsToldText form (Some o) text = IsLineText form o text
IsToldText form None text = text ≡ codes "skipped"

-- a line for each span, with its number
abbrev pub IsScriptText : ℕ → List Span → List Outcome → Text → Type 0
IsScriptText number [] outcomes text = text ≡ []
IsScriptText number (span ∷ spans) outcomes text =
    (line : Text) × (rest : Text) × IsToldText span.form (told_by (of_line span outcomes)) line
    × IsScriptText (number + 1) spans (behind_line span outcomes) rest
    × (text ≡ (decimal number ++ (codes " " ++ (line ++ codes "\n"))) ++ rest)
