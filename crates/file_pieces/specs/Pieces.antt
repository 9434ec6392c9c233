-- A file that is read in pieces, as its reader's callers see it.
use Rattle.std.specs.Prelude.{◌≡◌, ℕ, ◌+◌, ◌-◌, ◌*◌, ◌/◌, ◌%◌, ◌<◌, ◌≤◌, min, List, length, take, drop}

pub record ReaderState : Type 0 where
  -- the number of the file
  pub file : ℕ
  -- how many bytes the file had when the reading began
  pub len : ℕ
  -- where in the file the held bytes begin
  pub from : ℕ
  -- what was read and is still held
  pub held : List ℕ

-- the place behind the last byte that was read
abbrev pub end_of : ReaderState → ℕ
end_of r = r.from + length r.held

-- how many bytes a piece has: so many are read by one call, and held besides what is not let go of
abbrev pub piece_bytes : ℕ
piece_bytes = 65536

-- how many pieces have the first n bytes of a file
abbrev pub pieces_in : ℕ → ℕ
pieces_in n = (n + (piece_bytes - 1)) / piece_bytes

-- the file has this content, and the held bytes are those that it has there
pub record Holds (content : List ℕ) (r : ReaderState) : Type 0 where
  pub whole : r.len ≡ length content
  pub held : r.held ≡ take (length r.held) (drop r.from content)

-- the reader is of the same file
pub record IsSameFile (old new : ReaderState) : Type 0 where
  pub file : new.file ≡ old.file
  pub len : new.len ≡ old.len
