use Rattle.std.proofs.Common.{◌≤◌, length}
use Rattle.cmd_serve.proofs.client.Line.write.Given as goal

abbrev pub invariant-loop : goal.invariant-loop
invariant-loop l = l.written ≤ length l.bytes
