-- The device call that is due, by what the events and outcomes so far say.
use Rattle.std.specs.Prelude.{ℕ, ◌+◌, ◌-◌, List, [], ◌∷◌, ◌++◌, length, take, drop, replicate, Option, Some, None}
use Rattle.std.specs.Prelude.{nat_lt, ◌==◌, if◌then◌else◌}
use Rattle.disk_model.specs.Gates.{Call, writes, syncs, open_gate}
use Rattle.store_layout.specs.Checkpoints.{Section, body_offset, checkpoint_file, checkpoint_header}
use Rattle.store_layout.specs.Checkpoints.{checkpoint_header_bytes, greatest_mark, sections_bytes}
use Rattle.store_layout.specs.Logs.{end_frame, frame, header, log_file, new_layout}
use Rattle.sim_rules.specs.declared.event.Side.{Side}
use Rattle.sim_rules.specs.declared.event.Side.TheVariants as side
use Rattle.sim_rules.specs.World.{World, Life, LogWork, Resting, Committing, Rotating, Running, next_batch}

-- ---- the log

-- the four calls that put a frame behind a gate, by how many are left: the frame and a closed gate, a sync, the gate
-- opened, a sync
abbrev pub frame_call : ℕ → List ℕ → ℕ → Call
frame_call gate frame left =
    if left == 4 then writes (gate + 1) (frame ++ 0 ∷ [])
    else if left == 2 then writes gate (open_gate ∷ []) else syncs

-- First come the header of the next log, of the new version, and its closed gate, and a sync; then the end frame, which
-- names its generation.
abbrev pub rotation_call : Life → ℕ → Call
rotation_call l left =
    if left == 6 then writes 0 (header new_layout (l.newest + 1) l.committed ++ 0 ∷ [])
    else if left == 5 then syncs
    else frame_call l.gate (end_frame (l.newest + 1)) left

abbrev pub log_call : World → Life → LogWork → Call
log_call w l Resting = syncs
log_call w l (Committing n left) = frame_call l.gate (frame l.layout (next_batch w l n)) left
log_call w l (Rotating left) = rotation_call l left

-- the next log has the other file
abbrev pub log_number : Life → LogWork → ℕ
log_number l Resting = log_file l.newest
log_number l (Committing n left) = log_file l.newest
log_number l (Rotating left) = if nat_lt 4 left then log_file (l.newest + 1) else log_file l.newest

-- ---- the checkpoint

-- before the sections: the gate closed, a sync, and zeros where the header will stand
abbrev pub clearing_call : ℕ → Call
clearing_call left = if left == 3 then writes 0 (0 ∷ []) else if left == 2 then syncs else writes 1
    (replicate checkpoint_header_bytes 0)

-- the last section, behind those before it, in the layout of the new version
abbrev pub section_call : List Section → Call
section_call sections =
    writes (body_offset + length (sections_bytes new_layout (take (length sections - 1) sections)))
    (sections_bytes new_layout (drop (length sections - 1) sections))

-- the seal: the header, a sync, the gate opened, a sync
abbrev pub sealing_call : Life → ℕ → Running → ℕ → Call
sealing_call l low running left =
    if left == 4 then writes 1 (checkpoint_header new_layout running.generation low
    (greatest_mark running.sections) l.stripes (length (sections_bytes new_layout running.sections)))
    else if left == 2 then writes 0 (open_gate ∷ [])
    else syncs

abbrev pub running_call : Life → ℕ → Running → Call
running_call l low running =
    if nat_lt 0 running.clears then clearing_call running.clears
    else if running.is_waiting then section_call running.sections
    else sealing_call l low running running.seals

abbrev pub checkpoint_call : Life → ℕ → Option Running → Call
checkpoint_call l low None = syncs
checkpoint_call l low (Some running) = running_call l low running

abbrev pub checkpoint_number : Option Running → ℕ
checkpoint_number None = 0
checkpoint_number (Some running) = checkpoint_file running.generation

-- ---- either

-- the call that is due on this side; of a checkpoint, with this low ticket in its header
abbrev pub due_call : World → Life → ℕ → Side → Call
due_call w l low side.Log = log_call w l l.log
due_call w l low side.Checkpoint = checkpoint_call l low l.checkpoint

-- and the number of its file
abbrev pub due_file : Life → Side → ℕ
due_file l side.Log = log_number l l.log
due_file l side.Checkpoint = checkpoint_number l.checkpoint
