use Rattle.std.proofs.Common.{◌≡◌, take}
use Rattle.recovery.specs.Counting.{marks_in}
use Rattle.recovery.proofs.restoring.marks_of.Given as goal

abbrev pub invariant-loop-section : goal.invariant-loop-section
invariant-loop-section l = l.marks.items ≡ marks_in (take l.section-index l.sections)
