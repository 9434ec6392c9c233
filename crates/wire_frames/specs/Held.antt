-- What a feeder holds.
use Rattle.std.specs.Prelude.{ℕ, Bool, true, false, List, ◌++◌}

-- the bytes of a stream that no message was taken from, and whether its last message was taken
pub record Feed : Type 0 where
  pub left : List ℕ
  pub ended : Bool

abbrev pub bytes_then : Bool → List ℕ → List ℕ → List ℕ
bytes_then true left piece = left
bytes_then false left piece = left ++ piece

-- a piece behind what was left; after the last message it is left out
abbrev pub fed : Feed → List ℕ → Feed
fed feed piece = record { left = bytes_then feed.ended feed.left piece; ended = feed.ended }
