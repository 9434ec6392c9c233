use Rattle.std.proofs.Common.{◌≡◌, ◌+◌, ◌≤◌}
use Rattle.disk_model.specs.Files.{File}
use Rattle.disk_model.specs.Fills.{pending_below, byte_left, bytes_by}
use Rattle.disk_model.specs.KeptFiles.{IsKept}
use Rattle.disk_model.proofs.kept.Kept.left.Given as goal

abbrev pub invariant-loop-place : goal.invariant-loop-place
invariant-loop-place l =
    (l.count ≤ l.before + l.place)
    × ((file : File) → IsKept l.self file → (l.count ≡ l.before + pending_below file l.place)
    × (l.left.items ≡ bytes_by l.place (λ i. byte_left l.fill (l.before + pending_below file i) file i)))
