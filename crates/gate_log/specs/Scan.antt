-- What a scan of a log file finds. The relations speak of the file's content, and of the batches before the gate that
-- the scan is at.
use Rattle.std.specs.Prelude.{◌≡◌, ◌≢◌, ◌⊎◌, ◌≤◌, ℕ, ◌+◌, List, [], ◌∷◌, ◌++◌, length}
use Rattle.disk_model.specs.Files.{Files, now}
use Rattle.disk_model.specs.Gates.{open_gate}
use Rattle.file_pieces.specs.Pieces.{ReaderState, Holds}
use Rattle.map_types.specs.declared.refusals.Refusal.{Refusal}
use Rattle.map_types.specs.declared.refusals.Refusal.TheVariants.{Failed, NoMemory, Damaged}
use Rattle.log_records.specs.declared.versions.Version.{Version}
use Rattle.log_records.specs.Layout.{Layout}
use Rattle.ticket_order.specs.declared.stripe.Entry.{Entry}
use Rattle.store_layout.specs.Logs.{Batch, IsBatch, IsLog, IsClosed, IsEnded, commands_in, end_distance, end_frame}
use Rattle.store_layout.specs.Logs.{frame, log_file, log_front}
pub use Rattle.store_layout.specs.Failures.{failed_in}
use Rattle.gate_log.specs.States.{AreFrom, batch_of}
use Rattle.gate_log.specs.declared.scan.Found.{Found}
use Rattle.gate_log.specs.declared.scan.Found.TheVariants.{Batch as found_batch, Ended, Closed}

-- ---- gates and frames

-- a scan as its callers see it
pub record ScanState : Type 0 where
  pub version : Version
  pub generation : ℕ
  -- the place of the gate that comes next
  pub gate : ℕ
  -- the ticket that the next batch must begin with
  pub expected : ℕ
  -- what it has read of the file
  pub reader : ReaderState

-- The scan has read the header and these batches, and behind them the content has a gate. It holds bytes of this
-- content.
pub record HasRead (layout : Layout) (low : ℕ) (batches : List Batch) (scan : ScanState)
    (content : List ℕ) : Type 0 where
  pub byte : ℕ
  pub rest : List ℕ
  pub bytes : content ≡ log_front layout scan.generation low batches ++ byte ∷ rest
  pub place : scan.gate ≡ length (log_front layout scan.generation low batches)
  pub tickets : scan.expected ≡ low + length (commands_in batches)
  pub log : IsLog layout scan.generation low batches
  pub held : Holds content scan.reader

-- At a gate `size` bytes are read. A closed gate is read alone, and an open one with the frame and the gate behind it.
pub data ReadsAtGate (layout : Layout) (tail : List ℕ) (size : ℕ) : Type 0 where
  shut : (byte : ℕ) (rest : List ℕ) → byte ≢ open_gate → tail ≡ byte ∷ rest → size ≡ 1 → ReadsAtGate layout tail size
  whole_batch : (batch : Batch) (after : ℕ) (behind : List ℕ) → IsBatch layout batch
      → tail ≡ open_gate ∷ (frame layout batch ++ after ∷ behind) → size ≡ 2 + length (frame layout batch)
      → ReadsAtGate layout tail size
  whole_end : (next after : ℕ) (behind : List ℕ) → tail ≡ open_gate ∷ (end_frame next ++ after ∷ behind)
      → size ≡ 2 + length (end_frame next) → ReadsAtGate layout tail size

-- The entries are the next batch, and the scan goes on behind it.
pub record IsNextBatch (layout : Layout) (low : ℕ) (batches : List Batch) (entries : List Entry) (old new : ScanState)
    (content : List ℕ) : Type 0 where
  pub tickets : AreFrom old.expected entries
  pub fits : IsBatch layout (batch_of old.expected entries)
  pub read : HasRead layout low (batches ++ batch_of old.expected entries ∷ []) new content

-- what stands behind these batches
abbrev pub IsFound : Layout → ℕ → List Batch → ScanState → ScanState → List ℕ → Found → Type 0
IsFound layout low batches old new content (found_batch entries) =
    IsNextBatch layout low batches entries.items old new content
IsFound layout low batches old new content Ended =
    IsEnded layout old.generation low batches (old.generation + 1) content
IsFound layout low batches old new content Closed = IsClosed layout old.generation low batches content

-- the scan is at the gate that it was at
pub record IsStill (old new : ScanState) : Type 0 where
  pub version : new.version ≡ old.version
  pub generation : new.generation ≡ old.generation
  pub gate : new.gate ≡ old.gate
  pub expected : new.expected ≡ old.expected

-- the last gate that was read: behind a frame the next one, else the one that the scan is at
abbrev pub last_gate : ScanState → ScanState → Found → ℕ
last_gate old new (found_batch entries) = new.gate
last_gate old new Ended = old.gate + end_distance
last_gate old new Closed = old.gate

-- how the scan goes on
abbrev pub GoesOn : ScanState → ScanState → Found → Type 0
GoesOn old new (found_batch entries) =
    (new.generation ≡ old.generation) × (new.expected ≡ old.expected + length entries.items) × (old.gate ≤ new.gate)
    × (new.version ≡ old.version)
GoesOn old new Ended = IsStill old new
GoesOn old new Closed = IsStill old new

-- A device call failed, or memory was wanting, or the log of this generation is damaged at this gate, for which there
-- is this reason.
abbrev pub RefusesAt : ℕ → ℕ → Type 0 → Refusal → Type 0
RefusesAt generation gate Reason refusal =
    (refusal ≡ Failed) ⊎ ((refusal ≡ NoMemory) ⊎ ((refusal ≡ Damaged (log_file generation) gate) × Reason))

-- the same of the gate that the scan is at
abbrev pub RefusesFor : ScanState → Type 0 → Refusal → Type 0
RefusesFor scan Reason refusal = RefusesAt scan.generation scan.gate Reason refusal

-- ---- device calls

-- what a read gives of the file that has the log of this generation
abbrev pub log_bytes : {D : Type 0} → (D → List Files) → D → ℕ → List ℕ
log_bytes states disk generation = (now (states disk) (log_file generation)).seen
