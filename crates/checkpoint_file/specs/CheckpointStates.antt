-- How a checkpoint's file stands between two calls, and what a stop may leave of it.
use Rattle.std.specs.Prelude.{◌≡◌, ◌≢◌, ◌⊎◌, ℕ, ◌+◌, ◌<◌, ◌^◌, true, false, List, [], ◌∷◌, ◌++◌, length}
use Rattle.disk_model.specs.Files.{File, Files, MayLeave, at_rest}
use Rattle.disk_model.specs.Gates.{IsShut, IsOpening, open_gate}
use Rattle.java_hash.specs.Stripes.{is_stripe_count}
use Rattle.store_layout.specs.Logs.{new_layout}
use Rattle.store_layout.specs.Checkpoints.{Section, Checkpoint, AreMarkedFrom, AreSections, IsCheckpoint}
use Rattle.store_layout.specs.Checkpoints.{checkpoint_bytes, checkpoint_file, checkpoint_header_bytes, greatest_mark}
use Rattle.store_layout.specs.Checkpoints.{is_sealed, is_to_close, section_bytes, sections_bytes}
use Rattle.store_layout.specs.declared.checkpoint_phase.CheckpointPhase.{CheckpointPhase}
use Rattle.store_layout.specs.declared.checkpoint_phase.CheckpointPhase.TheVariants.{Idle, Gate, GateWritten}
use Rattle.store_layout.specs.declared.checkpoint_phase.CheckpointPhase.TheVariants.{GateSynced, Ready, Staged, Header}
use Rattle.store_layout.specs.declared.checkpoint_phase.CheckpointPhase.TheVariants.{HeaderWritten, HeaderSynced}
use Rattle.store_layout.specs.declared.checkpoint_phase.CheckpointPhase.TheVariants.{Opened, Sealed}
use Rattle.checkpoint_file.specs.States.{CheckpointState}

-- the checkpoint with these sections
abbrev pub checkpoint_of : CheckpointState → List Section → Checkpoint
checkpoint_of w sections = record { generation = w.generation; low = w.low; stripes = w.stripes; sections = sections }

-- what stands behind the gate once the header is written
abbrev pub written_of : CheckpointState → List Section → List ℕ
written_of w sections = checkpoint_bytes new_layout (checkpoint_of w sections)

-- these sections were given, for the first stripes in order
pub record HasGiven (w : CheckpointState) (sections : List Section) : Type 0 where
  pub count : w.count ≡ length sections
  pub greatest : w.greatest ≡ greatest_mark sections
  pub body : w.body + length w.section ≡ length (sections_bytes new_layout sections)
  pub are : AreSections new_layout w.stripes 0 sections
  pub marks : AreMarkedFrom w.low sections
  pub generation_fits : w.generation < 2 ^ 64
  pub low_fits : w.low < 2 ^ 64
  pub body_fits : w.body + length w.section < 2 ^ 64
  pub allowed : is_stripe_count w.stripes ≡ true

-- the gate reads closed; a stop leaves the old content, or no sealed checkpoint
pub record IsClosing (old : List ℕ) (file : File) : Type 0 where
  pub gate : ℕ
  pub rest : List ℕ
  pub seen : file.seen ≡ gate ∷ rest
  pub closed : gate ≢ open_gate
  pub leaves : (content : List ℕ) → MayLeave file content → (content ≡ old) ⊎ (is_sealed content ≡ false)

-- room for the header, and these sections, behind a gate that stands closed on the disk
pub record IsFilled (sections : List Section) (file : File) : Type 0 where
  pub space : List ℕ
  pub size : length space ≡ checkpoint_header_bytes
  pub shut : IsShut [] (space ++ sections_bytes new_layout sections) file

-- the last of the sections is staged, and those before it are written
pub record HasStaged (w : CheckpointState) (sections : List Section) (file : File) : Type 0 where
  pub before : List Section
  pub last : Section
  pub parts : sections ≡ before ++ last ∷ []
  pub bytes : w.section ≡ section_bytes new_layout last
  pub filled : IsFilled before file

-- the sections are written, and none is staged
pub record HasFilled (w : CheckpointState) (sections : List Section) (file : File) : Type 0 where
  pub none_staged : w.section ≡ []
  pub filled : IsFilled sections file

-- nothing is pending, and the file holds the checkpoint, sealed
pub record IsSealed (w : CheckpointState) (sections : List Section) (file : File) : Type 0 where
  pub content : List ℕ
  pub settled : file ≡ at_rest content
  pub checkpoint : IsCheckpoint new_layout (checkpoint_of w sections) content

-- how the file stands in each phase
abbrev pub AtPhase : CheckpointPhase → CheckpointState → List ℕ → List Section → File → Type 0
AtPhase Idle w old sections file = sections ≡ []
AtPhase Gate w old sections file = (sections ≡ []) × (file ≡ at_rest old) × (is_to_close old ≡ true)
AtPhase GateWritten w old sections file = (sections ≡ []) × IsClosing old file
AtPhase GateSynced w old sections file = (sections ≡ []) × IsShut [] [] file
AtPhase Ready w old sections file = HasFilled w sections file
AtPhase Staged w old sections file = HasStaged w sections file
AtPhase Header w old sections file = (w.count ≡ w.stripes) × HasFilled w sections file
AtPhase HeaderWritten w old sections file = (w.count ≡ w.stripes) × IsShut [] (written_of w sections) file
AtPhase HeaderSynced w old sections file =
    (w.count ≡ w.stripes) × IsShut [] (written_of w sections) file × IsOpening [] (written_of w sections) file
AtPhase Opened w old sections file =
    (w.count ≡ w.stripes) × IsOpening [] (written_of w sections) file
    × ((rest : List ℕ) × (file.seen ≡ open_gate ∷ (written_of w sections ++ rest)))
AtPhase Sealed w old sections file = (w.count ≡ w.stripes) × IsSealed w sections file

-- A checkpoint that has not failed, of which these sections were given: its file stands so. Before it was begun the
-- file had the old content.
pub record Stands (w : CheckpointState) (old : List ℕ) (sections : List Section) (file : File) : Type 0 where
  pub knows : HasGiven w sections
  pub stands : AtPhase w.phase w old sections file

-- The content is sealed with this very checkpoint, or not at all.
abbrev pub IsSealedOrNot : CheckpointState → List Section → List ℕ → Type 0
IsSealedOrNot w sections content =
    (is_sealed content ≡ false) ⊎ IsCheckpoint new_layout (checkpoint_of w sections) content

-- What a stop may leave: the old content, until the closed gate is synced; nothing sealed, until the gate is opened;
-- after the last sync the sealed checkpoint.
abbrev pub MayRead : CheckpointPhase → CheckpointState → List ℕ → List Section → List ℕ → Type 0
MayRead Idle w old sections content = Unit {0}
MayRead Gate w old sections content = (content ≡ old) ⊎ (is_sealed content ≡ false)
MayRead GateWritten w old sections content = (content ≡ old) ⊎ (is_sealed content ≡ false)
MayRead GateSynced w old sections content = is_sealed content ≡ false
MayRead Ready w old sections content = is_sealed content ≡ false
MayRead Staged w old sections content = is_sealed content ≡ false
MayRead Header w old sections content = is_sealed content ≡ false
MayRead HeaderWritten w old sections content = is_sealed content ≡ false
MayRead HeaderSynced w old sections content = IsSealedOrNot w sections content
MayRead Opened w old sections content = IsSealedOrNot w sections content
MayRead Sealed w old sections content = IsCheckpoint new_layout (checkpoint_of w sections) content

-- The other files are as they were at the start, and a stop leaves what the phase allows.
pub record IsKept (w : CheckpointState) (old : List ℕ) (sections : List Section) (start files : Files) : Type 0 where
  pub others : (n : ℕ) → n ≢ checkpoint_file w.generation → files n ≡ start n
  pub reads : (content : List ℕ) → MayLeave (files (checkpoint_file w.generation)) content
      → MayRead w.phase w old sections content
