use Rattle.std.proofs.Common.{◌≡◌, take}
use Rattle.store_layout.specs.Checkpoints.{greatest_mark}
use Rattle.checkpoint_file.specs.Loads.{sections_of}
use Rattle.checkpoint_file.proofs.marks.greatest_mark.Given as goal

abbrev pub invariant-loop-section : goal.invariant-loop-section
invariant-loop-section l = l.greatest ≡ greatest_mark (sections_of (take l.section-index l.sections))
