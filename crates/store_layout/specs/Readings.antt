-- What a log file reads as, and what may be wrong with it.
use Rattle.std.specs.Prelude.{◌≡◌, ◌≢◌, ℕ, ◌+◌, ◌<◌, ◌^◌, true, false, List, ◌∷◌, ◌++◌, length}
use Rattle.byteorder.specs.Endian.{big_bytes}
use Rattle.disk_model.specs.Gates.{open_gate}
use Rattle.map_types.specs.declared.refusals.Refusal.{Refusal}
use Rattle.map_types.specs.declared.refusals.Refusal.TheVariants.{Damaged, WrongVersion}
use Rattle.log_records.specs.Layout.{Layout}
use Rattle.store_layout.specs.Logs.{Batch, IsBatch, IsLog, IsClosed, IsEnded, commands_in, end_frame, frame, is_read}
use Rattle.store_layout.specs.Logs.{log_file, log_front, log_generation_offset, log_header_bytes, log_low_offset}

-- ---- the header

-- a whole header with these numbers, and a gate behind it
pub record HasHeader (version generation low : ℕ) (content : List ℕ) : Type 0 where
  pub gate : ℕ
  pub rest : List ℕ
  pub bytes : content ≡ (version ∷ (big_bytes 8 generation ++ big_bytes 8 low)) ++ gate ∷ rest
  pub generation_fits : generation < 2 ^ 64
  pub low_fits : low < 2 ^ 64

-- What is wrong with the header of a log that is to have this generation and this low ticket: the first of these
-- faults, and its refusal.
pub data IsBadHeader (generation low : ℕ) (content : List ℕ) (refusal : Refusal) : Type 0 where
  too_short : length content < log_header_bytes + 1 → refusal ≡ Damaged (log_file generation) 0
      → IsBadHeader generation low content refusal
  wrong_version : (v g l : ℕ) → HasHeader v g l content → is_read v ≡ false → refusal ≡ WrongVersion
      → IsBadHeader generation low content refusal
  wrong_generation : (v g l : ℕ) → HasHeader v g l content → is_read v ≡ true → g ≢ generation
      → refusal ≡ Damaged (log_file generation) log_generation_offset → IsBadHeader generation low content refusal
  wrong_low : (v l : ℕ) → HasHeader v generation l content → is_read v ≡ true → l ≢ low
      → refusal ≡ Damaged (log_file generation) log_low_offset → IsBadHeader generation low content refusal

-- ---- frames

-- What stands here is neither the frame of a batch that begins with the expected ticket nor the end frame that names
-- the next generation, with a byte behind it.
pub record HasNoFrame (layout : Layout) (expected next : ℕ) (rest : List ℕ) : Type 0 where
  pub no_batch : (batch : Batch) (after : ℕ) (behind : List ℕ) → IsBatch layout batch → batch.first ≡ expected
      → rest ≡ frame layout batch ++ after ∷ behind → ⊥
  pub no_end : (after : ℕ) (behind : List ℕ) → next < 2 ^ 64 → rest ≡ end_frame next ++ after ∷ behind → ⊥

-- Behind these batches the log goes on with an open gate, but not with a frame that may stand there.
pub record IsBroken (layout : Layout) (generation low : ℕ) (batches : List Batch) (content : List ℕ) : Type 0 where
  pub rest : List ℕ
  pub bytes : content ≡ log_front layout generation low batches ++ open_gate ∷ rest
  pub no_frame : HasNoFrame layout (low + length (commands_in batches)) (generation + 1) rest
  pub log : IsLog layout generation low batches

-- ---- one way to read

-- what a log reads as
pub data Reading : Type 0 where
  closed : (batches : List Batch) → Reading
  ended : (batches : List Batch) → Reading
  broken : (batches : List Batch) → Reading

abbrev pub Reads : Layout → ℕ → ℕ → List ℕ → Reading → Type 0
Reads layout generation low content (closed batches) = IsClosed layout generation low batches content
Reads layout generation low content (ended batches) = IsEnded layout generation low batches (generation + 1) content
Reads layout generation low content (broken batches) = IsBroken layout generation low batches content

-- where the gate behind these batches stands
abbrev pub gate_behind : Layout → ℕ → ℕ → List Batch → ℕ
gate_behind layout generation low batches = length (log_front layout generation low batches)
