-- The layouts of both versions.
use Rattle.std.proofs.Common.{◌≤◌, arith}
use Rattle.log_records.specs.declared.versions.Version.{Version}
use Rattle.log_records.specs.declared.versions.Version.TheVariants.{First, Second}
use Rattle.log_records.specs.Layout.{layout_of}

-- in each a key's length takes two bytes at most, and a key has 4,095 at most
pub narrow : (version : Version) → (layout_of version).key_width ≤ 2
narrow First = omega arith
narrow Second = omega arith

pub short : (version : Version) → (layout_of version).key_limit ≤ 4095
short First = omega arith
short Second = omega arith
