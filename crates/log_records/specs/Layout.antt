-- What differs between the versions of a record.
use Rattle.std.specs.Prelude.{ℕ, ◌<◌, ◌^◌}
use Rattle.map_types.specs.Limits.{most_key_bytes}
use Rattle.log_records.specs.declared.versions.Version.{Version}
use Rattle.log_records.specs.declared.versions.Version.TheVariants.{First, Second}

-- the version's byte in a file, how many bytes the length of a key takes, and the most bytes that a key may have
pub record Layout : Type 0 where
  pub version : ℕ
  pub key_width : ℕ
  pub key_limit : ℕ

-- the layout of version 01
abbrev pub first_layout : Layout
first_layout = record { version = 1; key_width = 1; key_limit = 255 }

-- the layout of version 02
abbrev pub second_layout : Layout
second_layout = record { version = 2; key_width = 2; key_limit = most_key_bytes }

-- the layout of a version
abbrev pub layout_of : Version → Layout
layout_of First = first_layout
layout_of Second = second_layout

-- each length up to the limit fits its bytes
abbrev pub IsLayout : Layout → Type 0
IsLayout layout = layout.key_limit < 256 ^ layout.key_width

-- the most bytes of a text
abbrev pub most_text_bytes : ℕ
most_text_bytes = 4096

-- the most bytes of a value: the longest text, behind its kind (1 byte) and its length (2)
abbrev pub most_value_bytes : ℕ
most_value_bytes = 4099
