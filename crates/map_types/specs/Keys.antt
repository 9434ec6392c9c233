-- The bytes of a key's text.
use Rattle.std.specs.Prelude.{ℕ, List}
use Rattle.std.specs.String.{string_bytes}
use Rattle.map_types.specs.declared.keys.KeyText.{KeyText}
use Rattle.map_types.specs.declared.keys.KeyText.TheVariants.{Short, Long}

abbrev pub key_bytes : KeyText → List ℕ
key_bytes (Short text) = text
key_bytes (Long text) = string_bytes text.value
