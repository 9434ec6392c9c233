-- What the parts of a step of a scan find.
use Rattle.std.specs.Prelude.{◌≡◌, ◌≢◌, ℕ, ◌+◌, ◌-◌, ◌<◌, ◌≤◌, ◌^◌, List, ◌∷◌, ◌++◌, length, map, Option, None, Some}
use Rattle.std.specs.List.{AllByRecursion}
use Rattle.byteorder.specs.Endian.{big_bytes}
use Rattle.disk_model.specs.Files.{Files, now}
use Rattle.disk_model.specs.Gates.{open_gate}
use Rattle.file_pieces.specs.Pieces.{ReaderState}
use Rattle.map_types.specs.declared.commands.Command.{Command}
use Rattle.log_records.specs.Layout.{Layout}
use Rattle.log_records.specs.Spelling.{IsCommand}
use Rattle.ticket_order.specs.declared.stripe.Entry.{Entry}
use Rattle.store_layout.specs.Logs.{Batch, IsBatch, batch_kind, body_distance, end_bytes, end_distance, end_frame}
use Rattle.store_layout.specs.Logs.{end_kind, frame, head_bytes, most_frame_bytes, numbers_bytes, records_bytes}
use Rattle.gate_log.specs.States.{AreFrom, batch_of}
use Rattle.gate_log.specs.declared.parts.Ahead.{Ahead}
use Rattle.gate_log.specs.declared.parts.Ahead.TheVariants as ahead

abbrev pub commands_of : List Entry → List Command
commands_of entries = map (λ entry. entry.command) entries

-- these are `count` changes from the ticket `first` on, and the bytes are their records
pub record AreEntries (layout : Layout) (first count : ℕ) (entries : List Entry) (bytes : List ℕ) : Type 0 where
  pub tickets : AreFrom first entries
  pub so_many : length entries ≡ count
  pub well_formed : AllByRecursion (IsCommand layout) (commands_of entries)
  pub spelled : bytes ≡ records_bytes layout (commands_of entries)

-- these changes are a batch, and its frame has these bytes behind its length
pub record IsBody (layout : Layout) (expected : ℕ) (entries : List Entry) (body : List ℕ) : Type 0 where
  pub tickets : AreFrom expected entries
  pub fits : IsBatch layout (batch_of expected entries)
  pub bytes : frame layout (batch_of expected entries) ≡ batch_kind ∷ (big_bytes 4 (length body) ++ body)

-- these changes are a batch, and its frame has `len` bytes behind its length
pub record FitsBatch (layout : Layout) (expected len : ℕ) (entries : List Entry) : Type 0 where
  pub tickets : AreFrom expected entries
  pub fits : IsBatch layout (batch_of expected entries)
  pub size : length (frame layout (batch_of expected entries)) ≡ head_bytes + len

-- kind and length, as many bytes, and a byte behind them
pub record HasFrame (kind len : ℕ) (rest : List ℕ) : Type 0 where
  pub body : List ℕ
  pub after : ℕ
  pub behind : List ℕ
  pub bytes : rest ≡ kind ∷ (big_bytes 4 len ++ (body ++ after ∷ behind))
  pub size : length body ≡ len

-- the batch's frame, and a byte behind it
pub record IsAtBatch (layout : Layout) (batch : Batch) (rest : List ℕ) : Type 0 where
  pub after : ℕ
  pub behind : List ℕ
  pub bytes : rest ≡ frame layout batch ++ after ∷ behind

-- the end frame, and a byte behind it
pub record IsAtEnd (next : ℕ) (rest : List ℕ) : Type 0 where
  pub after : ℕ
  pub behind : List ℕ
  pub bytes : rest ≡ end_frame next ++ after ∷ behind
  pub next_fits : next < 2 ^ 64

-- the most bytes that a batch's frame has behind its kind and its length
abbrev pub most_body_bytes : ℕ
most_body_bytes = most_frame_bytes - head_bytes

-- a frame of this kind and length is of that sort
abbrev pub IsAheadOf : ℕ → ℕ → Option Ahead → Type 0
IsAheadOf kind len None = ((kind ≡ batch_kind) → numbers_bytes ≤ len → len ≤ most_body_bytes → ⊥)
    × ((kind ≡ end_kind) → (len ≡ end_bytes) → ⊥)
IsAheadOf kind len (Some ahead.Closed) = ⊥
IsAheadOf kind len (Some (ahead.Batch size)) =
    (kind ≡ batch_kind) × (size ≡ len) × (numbers_bytes ≤ len) × (len ≤ most_body_bytes)
IsAheadOf kind len (Some ahead.End) = (kind ≡ end_kind) × (len ≡ end_bytes)

-- its bytes and the gate behind them have places of 64 bits
abbrev pub FitsAhead : ℕ → Ahead → Type 0
FitsAhead gate ahead.Closed = Unit {0}
FitsAhead gate (ahead.Batch len) =
    (numbers_bytes ≤ len) × (len ≤ most_body_bytes) × (gate + body_distance + len + 1 < 2 ^ 64)
FitsAhead gate ahead.End = gate + end_distance + 1 < 2 ^ 64

-- what this gate and these bytes behind it begin
abbrev pub ComesAhead : ℕ → List ℕ → Ahead → Type 0
ComesAhead byte rest ahead.Closed = byte ≢ open_gate
ComesAhead byte rest (ahead.Batch len) = (byte ≡ open_gate) × HasFrame batch_kind len rest
ComesAhead byte rest ahead.End = (byte ≡ open_gate) × HasFrame end_kind end_bytes rest

-- where the gate behind this frame stands
abbrev pub behind_frame : ℕ → Ahead → ℕ
behind_frame gate ahead.Closed = gate
behind_frame gate (ahead.Batch len) = gate + body_distance + len
behind_frame gate ahead.End = gate + end_distance

-- what a read gives of the reader's file
abbrev pub bytes_of : {D : Type 0} → (D → List Files) → D → ReaderState → List ℕ
bytes_of states disk reader = (now (states disk) reader.file).seen
