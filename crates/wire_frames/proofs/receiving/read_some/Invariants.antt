use Rattle.std.proofs.Common.{◌≡◌, [], length}
use Rattle.std.specs.Io.KnownBytes.{Consumes}
use Rattle.wire_frames.proofs.receiving.read_some.Given as goal

abbrev pub invariant-loop : goal.invariant-loop
invariant-loop g l =
    (length l.room ≡ length l.initial.room) × Consumes (g.R.Read.remaining l.initial.reader) (g.R.Read.remaining l.reader) []
