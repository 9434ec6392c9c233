use Rattle.std.proofs.Common.{◌≡◌, take}
use Rattle.recovery.specs.Counting.{greatest_of}
use Rattle.recovery.proofs.restoring.greatest_of.Given as goal

abbrev pub invariant-loop-mark : goal.invariant-loop-mark
invariant-loop-mark l = l.greatest ≡ greatest_of (take l.mark-index l.marks)
