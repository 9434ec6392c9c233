-- What the layouts of all versions have.
use Rattle.std.proofs.Common.{arith}
use Rattle.log_records.specs.declared.versions.Version.{Version}
use Rattle.log_records.specs.declared.versions.Version.TheVariants.{First, Second}
use Rattle.log_records.specs.Layout.{IsLayout, layout_of}

-- each length up to a version's limit fits its bytes
pub layout_room : (version : Version) → IsLayout (layout_of version)
layout_room First = omega arith
layout_room Second = omega arith
