use Rattle.std.proofs.Common.{refl, arith}
use Rattle.test_bins.proofs.tables.eight_bins.Goals as goal

pub new-requires : goal.new-requires
new-requires c = record { exponent = 3; power = refl; within = omega arith }
