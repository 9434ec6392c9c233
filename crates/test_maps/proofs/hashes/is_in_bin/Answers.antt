use Rattle.std.proofs.Common.{refl}
use Rattle.test_maps.proofs.hashes.is_in_bin.Goals as goal

pub bin_of-requires : goal.bin_of-requires
bin_of-requires c = (3, refl)
