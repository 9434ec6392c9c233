use Rattle.std.specs.Io.KnownBytes.{Keeps}
use Rattle.cmd_call.proofs.input.read_piece.Given as goal

abbrev pub invariant-loop : goal.invariant-loop
invariant-loop g l = Keeps (g.I.Read.remaining l.initial.input) (g.I.Read.remaining l.input)
