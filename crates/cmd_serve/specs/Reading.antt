-- What a read of a socket gives.
use Rattle.std.specs.Prelude.{ℕ, ◌≤◌}
use Rattle.cmd_serve.specs.declared.client.Piece.{Piece}
use Rattle.cmd_serve.specs.declared.client.Piece.TheVariants.{Bytes, Nothing, End}

-- no more bytes than the room has
abbrev pub Fits : Piece → ℕ → Type 0
Fits (Bytes len) room = len ≤ room
Fits Nothing room = Unit {0}
Fits End room = Unit {0}
