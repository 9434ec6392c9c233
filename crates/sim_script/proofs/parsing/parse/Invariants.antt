use Rattle.std.proofs.Common.{◌≡◌, ◌+◌, drop, length}
use Rattle.sim_script.proofs.Reading.{behind, lines_left}
use Rattle.sim_script.proofs.parsing.parse.Given as goal

abbrev pub invariant-lines : goal.invariant-lines
invariant-lines l = lines_left 1 l.text-items ≡ behind l.lines.items (lines_left (length l.lines.items + 1) (drop l.text-index l.text-items))
