use Rattle.std.proofs.Common.{◌≡◌, drop}
use Rattle.std.specs.List.{fold}
use Rattle.sim_script.specs.Spans.{or_more}
use Rattle.sim_script.proofs.script.most_stripes.Given as goal

abbrev pub invariant-lines : goal.invariant-lines
invariant-lines l = fold or_more l.most (drop l.line-index l.lines) ≡ fold or_more 0 l.lines
