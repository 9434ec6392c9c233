-- How long a key may be.
use Rattle.std.specs.Prelude.{ℕ}

-- The most bytes of a key. With it the longest change, a replace_if of two texts, has 12,296 bytes: it fits a request,
-- which has at most 16,384.
abbrev pub most_key_bytes : ℕ
most_key_bytes = 4095
