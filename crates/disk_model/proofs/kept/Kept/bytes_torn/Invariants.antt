use Rattle.std.proofs.Common.{◌≡◌}
use Rattle.disk_model.specs.Files.{File}
use Rattle.disk_model.specs.Fills.{byte_torn, bytes_by}
use Rattle.disk_model.specs.KeptFiles.{IsKept}
use Rattle.disk_model.proofs.kept.Kept.bytes_torn.Given as goal

abbrev pub invariant-loop-i : goal.invariant-loop-i
invariant-loop-i l = (file : File) → IsKept l.self file → l.left.items ≡ bytes_by l.i (byte_torn l.fill l.at l.bytes file)
