-- The bytes that a reader holds. No public clause cites this module.
use Rattle.std.specs.Prelude.{ℕ, ◌-◌, List, length, slice_range}
use Rattle.file_pieces.specs.declared.buffer.Buffer.{Buffer}

-- the held bytes
abbrev pub held_in : Buffer → List ℕ
held_in b = slice_range b.bytes.items b.start b.end

-- how many bytes more there is room for
abbrev pub room_in : Buffer → ℕ
room_in b = length b.bytes.items - b.end
