use Rattle.std.proofs.Common.{◌≡◌, ◌≤◌}
use Rattle.disk_model.specs.Files.{File}
use Rattle.disk_model.specs.Fills.{pending_below}
use Rattle.disk_model.specs.KeptFiles.{IsKept}
use Rattle.disk_model.proofs.kept.Kept.pending_count.Given as goal

abbrev pub invariant-loop-place : goal.invariant-loop-place
invariant-loop-place l = (l.count ≤ l.place) × ((file : File) → IsKept l.self file → l.count ≡ pending_below file l.place)
