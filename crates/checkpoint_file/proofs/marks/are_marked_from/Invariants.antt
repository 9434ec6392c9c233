use Rattle.std.proofs.Common.{take}
use Rattle.store_layout.specs.Checkpoints.{AreMarkedFrom}
use Rattle.checkpoint_file.specs.Loads.{sections_of}
use Rattle.checkpoint_file.proofs.marks.are_marked_from.Given as goal

abbrev pub invariant-loop-section : goal.invariant-loop-section
invariant-loop-section l = AreMarkedFrom l.low (sections_of (take l.section-index l.sections))
