-- The bytes of a log file: a header, and then frames, each behind a gate.
use Rattle.std.specs.Prelude.{◌≡◌, ◌≢◌, ℕ, ◌+◌, ◌%◌, ◌<◌, ◌≤◌, ◌^◌, Bool, ◌==◌, ◌||◌, if◌then◌else◌, List, [], ◌∷◌}
use Rattle.std.specs.Prelude.{◌++◌, length}
use Rattle.std.specs.List.{AllByRecursion}
use Rattle.byteorder.specs.Endian.{big_bytes}
use Rattle.disk_model.specs.Gates.{open_gate}
use Rattle.map_types.specs.declared.commands.Command.{Command}
use Rattle.log_records.specs.declared.versions.Version.{Version}
use Rattle.log_records.specs.declared.versions.Version.TheVariants.{Second}
use Rattle.log_records.specs.Layout.{Layout, first_layout, second_layout, layout_of}
use Rattle.log_records.specs.Spelling.{IsCommand, record_bytes}

-- the byte of a version that an opening reads
abbrev pub is_read : ℕ → Bool
is_read version = version == 1 || version == 2

-- the layout of the version with this byte
abbrev pub layout_for : ℕ → Layout
layout_for byte = if byte == 2 then second_layout else first_layout

-- the version of each new generation, and its layout
abbrev pub new_version : Version
new_version = Second

abbrev pub new_layout : Layout
new_layout = layout_of new_version

-- How many bytes a log's header has: version (1), generation (8) and low ticket (8). The first gate has this place.
abbrev pub log_header_bytes : ℕ
log_header_bytes = 17

-- The places of the header's numbers, behind the version (1 byte). A refusal names that of the one which is at fault.
abbrev pub log_generation_offset : ℕ
log_generation_offset = 1

abbrev pub log_low_offset : ℕ
log_low_offset = 9

-- how many bytes stand at the front of a frame: its kind (1) and the length of what follows (4)
abbrev pub head_bytes : ℕ
head_bytes = 5

-- how many bytes stand before the records of a batch: its first ticket (8) and its count (4)
abbrev pub numbers_bytes : ℕ
numbers_bytes = 12

-- how many bytes an end frame has behind its length: the generation of the next log
abbrev pub end_bytes : ℕ
end_bytes = 8

-- how far behind its gate a frame has its bytes behind the length: the gate (1 byte), the kind and the length
abbrev pub body_distance : ℕ
body_distance = 6

-- how far behind the gate of an end frame the next gate stands
abbrev pub end_distance : ℕ
end_distance = 14

-- the kind of a frame with records, and that of the frame that ends a log
abbrev pub batch_kind : ℕ
batch_kind = 1

abbrev pub end_kind : ℕ
end_kind = 2

-- The most commands of one batch. An opening holds the commands of one batch at a time, so this bounds its memory.
abbrev pub most_commands : ℕ
most_commands = 65536

-- The most bytes of a batch's frame, with its kind and its length. An opening holds one frame at a time, so this
-- bounds its memory.
abbrev pub most_frame_bytes : ℕ
most_frame_bytes = 1048576

-- The most bytes that a log has after a batch, with the gate behind it. So every place in a log fits 64 bits, and
-- so does a sum of two.
abbrev pub most_log_bytes : ℕ
most_log_bytes = 2 ^ 40

-- the number of the file that has the log of this generation
abbrev pub log_file : ℕ → ℕ
log_file generation = 2 + generation % 2

-- the commands of consecutive tickets, and the first of these tickets
pub record Batch : Type 0 where
  pub first : ℕ
  pub commands : List Command

-- their records, one behind the other
abbrev pub records_bytes : Layout → List Command → List ℕ
records_bytes layout [] = []
records_bytes layout (command ∷ commands) = record_bytes layout command ++ records_bytes layout commands

-- kind, length of what follows, first ticket, count, records
unfoldable pub frame : Layout → Batch → List ℕ
frame layout batch =
    batch_kind ∷ (big_bytes 4 (numbers_bytes + length (records_bytes layout batch.commands))
    ++ (big_bytes 8 batch.first ++ (big_bytes 4 (length batch.commands) ++ records_bytes layout batch.commands)))

-- kind, length of what follows, the generation of the next log
unfoldable pub end_frame : ℕ → List ℕ
end_frame next = end_kind ∷ (big_bytes 4 end_bytes ++ big_bytes 8 next)

-- version, generation, low ticket
unfoldable pub header : Layout → ℕ → ℕ → List ℕ
header layout generation low = layout.version ∷ (big_bytes 8 generation ++ big_bytes 8 low)

-- the frames, each behind an open gate
abbrev pub opened : Layout → List Batch → List ℕ
opened layout [] = []
opened layout (batch ∷ batches) = open_gate ∷ (frame layout batch ++ opened layout batches)

-- what stands before the gate behind these batches
abbrev pub log_front : Layout → ℕ → ℕ → List Batch → List ℕ
log_front layout generation low batches = header layout generation low ++ opened layout batches

-- the commands of the batches, in order
abbrev pub commands_in : List Batch → List Command
commands_in [] = []
commands_in (batch ∷ batches) = batch.commands ++ commands_in batches

-- a batch that may stand in a log
pub record IsBatch (layout : Layout) (batch : Batch) : Type 0 where
  -- its first ticket and its count fit 64 bits together
  pub fits : batch.first + length batch.commands < 2 ^ 64
  pub some : 1 ≤ length batch.commands
  pub few : length batch.commands ≤ most_commands
  -- the whole frame
  pub short : length (frame layout batch) ≤ most_frame_bytes
  pub well_formed : AllByRecursion (IsCommand layout) batch.commands

-- batches that may stand in a log whose low ticket this is: none is skipped
abbrev pub IsRun : Layout → ℕ → List Batch → Type 0
IsRun layout low [] = Unit {0}
IsRun layout low (batch ∷ batches) =
    IsBatch layout batch × (batch.first ≡ low) × IsRun layout (low + length batch.commands) batches

-- the header's numbers fit 64 bits, and the batches may stand behind it
pub record IsLog (layout : Layout) (generation low : ℕ) (batches : List Batch) : Type 0 where
  pub generation_fits : generation < 2 ^ 64
  pub low_fits : low < 2 ^ 64
  pub in_order : IsRun layout low batches

-- A log that goes on: its header, then open gate and frame any number of times, then a closed gate, then anything.
pub record IsClosed (layout : Layout) (generation low : ℕ) (batches : List Batch) (content : List ℕ) : Type 0 where
  pub gate : ℕ
  pub rest : List ℕ
  pub bytes : content ≡ log_front layout generation low batches ++ gate ∷ rest
  pub closed : gate ≢ open_gate
  pub log : IsLog layout generation low batches

-- A log that has ended: its header, then open gate and frame any number of times, then an open gate and the end frame
-- that names the next generation, then any one byte, then anything.
pub record IsEnded (layout : Layout) (generation low : ℕ) (batches : List Batch) (next : ℕ)
    (content : List ℕ) : Type 0 where
  pub after : ℕ
  pub rest : List ℕ
  pub bytes : content ≡ log_front layout generation low batches ++ open_gate ∷ (end_frame next ++ after ∷ rest)
  pub next_fits : next < 2 ^ 64
  pub log : IsLog layout generation low batches
