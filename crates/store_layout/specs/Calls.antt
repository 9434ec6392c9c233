-- How many device calls an opening makes: a formula over lengths and places that the formats give.
use Rattle.std.specs.Prelude.{ℕ, ◌+◌, List, length, Option, None, Some}
use Rattle.file_pieces.specs.Pieces.{pieces_in}
use Rattle.store_layout.specs.Logs.{Batch, end_distance, log_file}
use Rattle.store_layout.specs.Checkpoints.{Checkpoint, body_offset, checkpoint_file, sections_bytes}
use Rattle.store_layout.specs.Opening.{Contents, FoundLog, Opened, checkpoint_layout, gate_in, newest_by}

-- a checkpoint whose body has `body` bytes: its head, the length of its file, and the pieces up to the end of the body
abbrev pub checkpoint_calls : ℕ → ℕ
checkpoint_calls body = 2 + pieces_in (body_offset + body)

-- a log that is read up to this gate and with it: the length of its file, and the pieces
abbrev pub log_calls : ℕ → ℕ
log_calls gate = 1 + pieces_in (gate + 1)

-- where the last gate of a log stands
abbrev pub last_gate : Contents → FoundLog → ℕ
last_gate contents log = gate_in (contents (log_file log.generation)) log

-- Both logs. An end frame is the last of its log, and the gate behind it is read too.
abbrev pub logs_calls : Contents → Checkpoint → List Batch → Option (List Batch) → ℕ
logs_calls contents k first None = log_calls (last_gate contents (newest_by k first None))
logs_calls contents k first (Some second) =
    log_calls (last_gate contents (newest_by k first None) + end_distance)
    + log_calls (last_gate contents (newest_by k first (Some second)))

-- how many bytes the sections of the checkpoint that is used have
abbrev pub body_bytes : Contents → Checkpoint → ℕ
body_bytes contents k = length (sections_bytes (checkpoint_layout (contents (checkpoint_file k.generation))) k.sections)

-- what is read: the heads of both checkpoints, the checkpoint that is used, its logs, and the gate of the other
-- checkpoint's file
abbrev pub reading_calls : Contents → Opened → ℕ
reading_calls contents found =
    2 + checkpoint_calls
    (body_bytes contents found.checkpoint) + logs_calls contents found.checkpoint found.first found.second + 1

-- the four files are synced, and then they are read
abbrev pub opening_calls : Contents → Opened → ℕ
opening_calls contents found = 4 + reading_calls contents found
