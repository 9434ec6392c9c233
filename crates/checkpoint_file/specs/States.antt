-- A checkpoint that is being written, as its callers see it.
use Rattle.std.specs.Prelude.{◌≡◌, ℕ, ◌+◌, ◌*◌, ◌<◌, ◌≤◌, ◌^◌, max, replicate, Bool, true, false, List, [], ◌∷◌, length}
use Rattle.std.specs.Prelude.{Option, None, Some}
use Rattle.std.specs.List.{AllByRecursion}
use Rattle.disk_model.specs.Gates.{Call, writes, syncs, open_gate}
use Rattle.java_hash.specs.Stripes.{is_stripe_count, stripe_of}
use Rattle.map_types.specs.declared.texts.Value.{Value}
use Rattle.log_records.specs.Layout.{Layout}
use Rattle.log_records.specs.Spelling.{IsText, IsValue}
use Rattle.store_layout.specs.Logs.{new_layout}
use Rattle.store_layout.specs.Checkpoints.{body_offset, checkpoint_header, checkpoint_header_bytes, marked_bytes}
use Rattle.store_layout.specs.declared.checkpoint_phase.CheckpointPhase.{CheckpointPhase}
use Rattle.store_layout.specs.declared.checkpoint_phase.CheckpointPhase.TheVariants.{Idle, Gate, GateWritten}
use Rattle.store_layout.specs.declared.checkpoint_phase.CheckpointPhase.TheVariants.{GateSynced, Ready, Staged, Header}
use Rattle.store_layout.specs.declared.checkpoint_phase.CheckpointPhase.TheVariants.{HeaderWritten, HeaderSynced}
use Rattle.store_layout.specs.declared.checkpoint_phase.CheckpointPhase.TheVariants.{Opened, Sealed}

pub record CheckpointState : Type 0 where
  pub generation : ℕ
  pub low : ℕ
  pub stripes : ℕ
  pub phase : CheckpointPhase
  -- how many sections were given
  pub count : ℕ
  -- the greatest of their marks
  pub greatest : ℕ
  -- how many bytes the written sections take
  pub body : ℕ
  -- the bytes of the section that is staged; empty if none is
  pub section : List ℕ
  -- a device call has failed
  pub is_broken : Bool

-- nothing was begun
abbrev pub idle : CheckpointState
idle = record {
  generation = 0;
  low = 0;
  stripes = 1;
  phase = Idle;
  count = 0;
  greatest = 0;
  body = 0;
  section = [];
  is_broken = false;
}

-- a gate that is closed already is not closed again
abbrev pub first_phase : Bool → CheckpointPhase
first_phase true = Gate
first_phase false = GateWritten

-- a checkpoint none of whose sections was given
abbrev pub begun : ℕ → ℕ → ℕ → Bool → CheckpointState
begun generation low stripes must_close = record {
  generation = generation;
  low = low;
  stripes = stripes;
  phase = first_phase must_close;
  count = 0;
  greatest = 0;
  body = 0;
  section = [];
  is_broken = false;
}

-- the checkpoint before has been sealed, or there is none
abbrev pub IsOver : CheckpointPhase → Type 0
IsOver Idle = Unit {0}
IsOver Sealed = Unit {0}
IsOver _ = ⊥

-- the section of one stripe more may be given
abbrev pub TakesSection : CheckpointState → Type 0
TakesSection w = (w.phase ≡ Ready) × (w.count < w.stripes)

-- all sections are written
abbrev pub TakesSeal : CheckpointState → Type 0
TakesSeal w = (w.phase ≡ Ready) × (w.count ≡ w.stripes)

-- the keys belong to the stripe `stripe`, of `stripes` stripes
abbrev pub AreKeysOf : ℕ → ℕ → List (List ℕ × Value) → Type 0
AreKeysOf stripes stripe entries =
    AllByRecursion (λ (entry : List ℕ × Value). stripe_of stripes entry.0 ≡ stripe) entries

-- the entries have spellings
abbrev pub AreWellFormed : Layout → List (List ℕ × Value) → Type 0
AreWellFormed layout entries =
    AllByRecursion (λ (entry : List ℕ × Value). IsText layout.key_limit entry.0 × IsValue entry.1) entries

-- a section is staged behind those before it
abbrev pub with_section : ℕ → List (List ℕ × Value) → CheckpointState → CheckpointState
with_section mark entries w = record w {
  phase = Staged;
  count = w.count + 1;
  greatest = max w.greatest mark;
  section = marked_bytes new_layout mark entries;
}

-- the device call that comes next in each phase
abbrev pub call_in : CheckpointPhase → CheckpointState → Option Call
call_in Idle w = None
call_in Gate w = Some (writes 0 (0 ∷ []))
call_in GateWritten w = Some syncs
call_in GateSynced w = Some (writes 1 (replicate checkpoint_header_bytes 0))
call_in Ready w = None
call_in Staged w = Some (writes (body_offset + w.body) w.section)
call_in Header w = Some (writes 1 (checkpoint_header new_layout w.generation w.low w.greatest w.stripes w.body))
call_in HeaderWritten w = Some syncs
call_in HeaderSynced w = Some (writes 0 (open_gate ∷ []))
call_in Opened w = Some syncs
call_in Sealed w = None

-- the checkpoint after that call
abbrev pub state_after : CheckpointPhase → CheckpointState → CheckpointState
state_after Idle w = w
state_after Gate w = record w { phase = GateWritten }
state_after GateWritten w = record w { phase = GateSynced }
state_after GateSynced w = record w { phase = Ready }
state_after Ready w = w
state_after Staged w = record w { phase = Ready; body = w.body + length w.section; section = [] }
state_after Header w = record w { phase = HeaderWritten }
state_after HeaderWritten w = record w { phase = HeaderSynced }
state_after HeaderSynced w = record w { phase = Opened }
state_after Opened w = record w { phase = Sealed }
state_after Sealed w = w

-- The most bytes of a section: its mark and its count, and fewer than 2^32 entries of fewer than 2^14 bytes each.
abbrev pub most_section_bytes : ℕ
most_section_bytes = 2 ^ 46

-- its numbers fit their types, whatever the disk does
pub record IsSound (w : CheckpointState) : Type 0 where
  pub few : w.count ≤ w.stripes
  pub allowed : is_stripe_count w.stripes ≡ true
  pub room : w.body + length w.section ≤ w.count * most_section_bytes
