-- How long entries and sections may be, whatever their version.
use Rattle.std.proofs.Common.{◌≤◌, ℕ, ◌*◌, List, [], ◌∷◌, ◌++◌, length, Some, arith, length-append}
use Rattle.std.specs.Int.{w64, cast_unsigned}
use Rattle.byteorder.specs.Endian.{big_bytes}
use Rattle.byteorder.specs.Numbers.{length-bytes_high_first}
use Rattle.map_types.specs.declared.texts.Value.{Value}
use Rattle.map_types.specs.declared.texts.Value.TheVariants.{Int, Text}
use Rattle.log_records.specs.declared.versions.Version.{Version}
use Rattle.log_records.specs.declared.versions.Version.TheVariants.{First, Second}
use Rattle.log_records.specs.Layout.{Layout, layout_of}
use Rattle.log_records.specs.Spelling.{IsText, IsValue, value_bytes}
use Rattle.store_layout.specs.Logs.{new_version, new_layout}
use Rattle.store_layout.specs.Checkpoints.{entries_bytes, entry_bytes}
use Rattle.checkpoint_file.specs.Front.{most_entry_bytes}
use Rattle.checkpoint_file.specs.States.{AreWellFormed}

-- the length of a key takes at most 2 bytes, and says at most 4,095
pub record IsShort (layout : Layout) : Type 0 where
  pub width : layout.key_width ≤ 2
  pub limit : layout.key_limit ≤ 4095

pub version_short : (version : Version) → IsShort (layout_of version)
version_short First = record { width = omega arith; limit = omega arith }
version_short Second = record { width = omega arith; limit = omega arith }

pub new_short : IsShort new_layout
new_short = version_short new_version

value_bound : (value : Value) → IsValue value → length (value_bytes (Some value)) ≤ 4099
value_bound (Int number) is = omega (arith, length-bytes_high_first 8 (cast_unsigned w64 number))
value_bound (Text text) is = omega (arith, length-append (big_bytes 2 (length text)) text, length-bytes_high_first 2 (length text), is.0)

module _ (layout : Layout) (short : IsShort layout) where
  pub entry_bound : (entry : List ℕ × Value) → IsText layout.key_limit entry.0 → IsValue entry.1 → length (entry_bytes layout entry) ≤ most_entry_bytes
  entry_bound entry text value =
      let width = short.width in
      let limit = short.limit in
      omega (
        arith,
        length-append (big_bytes layout.key_width (length entry.0) ++ entry.0) (value_bytes (Some entry.1)),
        length-append (big_bytes layout.key_width (length entry.0)) entry.0,
        length-bytes_high_first layout.key_width (length entry.0),
        value_bound entry.1 value,
        text.0,
        width,
        limit,
      )

  pub entries_bound : (entries : List (List ℕ × Value)) → AreWellFormed layout entries → length (entries_bytes layout entries) ≤ most_entry_bytes * length entries
  entries_bound [] all = omega arith
  entries_bound (x ∷ entries) all =
      omega (arith, length-append (entry_bytes layout x) (entries_bytes layout entries), entry_bound x all.0.0 all.0.1, entries_bound entries all.1)
