use Rattle.std.proofs.Common.{◌≡◌, ◌-◌, ◌^◌, min, sum_by, take}
use Rattle.std.specs.FinMap as finite
use Rattle.cmd_directory.proofs.summary.count_entries.Given as goal

abbrev pub invariant-loop-part : goal.invariant-loop-part
invariant-loop-part l = l.count ≡ min (sum_by (λ part. finite.len part.map) (take l.part-index l.parts)) (2 ^ 64 - 1)
