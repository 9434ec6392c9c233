-- Where the walk of a capture stands between its steps.
use Rattle.std.specs.FinMap as finite
use Rattle.std.specs.Prelude.{◌≡◌, ◌⊎◌, ℕ, ◌+◌, ◌≤◌, List, [], ◌∷◌, ◌++◌, length, Some}
use Rattle.disk_model.specs.Files.{File}
use Rattle.map_model.specs.Maps.{Map}
use Rattle.map_types.specs.declared.refusals.Refusal.{Refusal}
use Rattle.map_types.specs.declared.refusals.Refusal.TheVariants.{NoMemory}
use Rattle.map_types.specs.declared.texts.Value.{Value}
use Rattle.ticket_order.specs.declared.capture_walk.Captured.{Captured}
use Rattle.ticket_order.specs.declared.record.Record.{Record}
use Rattle.ticket_order.specs.declared.walk.Walk.{Walk}
use Rattle.ticket_order.specs.Walks.{Fits, Give, Look, ToCapture, captured_of_walk, entries_captured, next_kind}
use Rattle.ticket_order.specs.Walks.{refusal_of_walk}
use Rattle.store_layout.specs.Checkpoints.{Section}
use Rattle.checkpoint_file.specs.States.{AreKeysOf, CheckpointState, with_section}
use Rattle.checkpoint_file.specs.CheckpointStates.{Stands}

-- the walk of a capture of stripe i, which began at the record `begun`, has made its TAKE, and comes to its LOOK
pub record HasTaken (n : ℕ) (begun : Record) (i : ℕ) (walk : Walk) (p : Record) : Type 0 where
  pub fits : Fits n begun (ToCapture i) walk p
  pub next : next_kind n walk ≡ Look
  pub one_made : length p.steps ≡ length begun.steps + 1

-- it has looked, and has only its GIVE left
pub record HasLooked (n : ℕ) (begun : Record) (i : ℕ) (walk : Walk) (p : Record) : Type 0 where
  pub fits : Fits n begun (ToCapture i) walk p
  pub next : next_kind n walk ≡ Give i
  pub two_made : length p.steps ≡ length begun.steps + 2

-- how the file of a checkpoint stands once it is given the entries of the next stripe, with their mark
abbrev pub StandsWith : CheckpointState → ℕ → List (List ℕ × Value) → Type 0
StandsWith w mark entries = (map : Map) (old : List ℕ) (sections : List Section) (file : File)
    → entries ≡ finite.entries map → AreKeysOf w.stripes w.count entries → w.low ≤ mark
    → Stands w old sections file → Stands (with_section mark entries w) old (sections
    ++ record { mark = mark; map = map } ∷ []) file

-- A walk that has looked is refused for want of memory, or as it was to be refused since its LOOK.
abbrev pub IsCauseOf : Walk → Refusal → Type 0
IsCauseOf walk refusal = (refusal ≡ NoMemory) ⊎ (refusal_of_walk walk ≡ Some refusal)

-- What the walk has captured was given to the checkpoint; or the walk is to put its stripe back, and nothing was given.
pub record IsStaged (old new : CheckpointState) (before walk : Walk) : Type 0 where
  pub looked : (n : ℕ) (b : Record) (i : ℕ) (p : Record) → HasLooked n b i before p → HasLooked n b i walk p
  pub given : (z : Captured) → captured_of_walk walk ≡ Some z
      → (new ≡ with_section z.mark (entries_captured z) old) × StandsWith old z.mark (entries_captured z)
  pub same : (e : Refusal) → refusal_of_walk walk ≡ Some e → new ≡ old
  pub cause : (e : Refusal) → refusal_of_walk walk ≡ Some e → IsCauseOf before e
