-- The path and the rights of a socket's file, and where it is made.
use Rattle.std.specs.Prelude.{◌≡◌, ℕ, ◌≤◌, List, ◌++◌, length, Option, None, Some, codes}
use Rattle.std.specs.Str.Parse.{IsNumeral, digits_value, without_leading_plus}

abbrev pub Text : Type 0
Text = List ℕ

-- the address of a Unix socket has room for the path
abbrev pub IsSocketPath : Text → Type 0
IsSocketPath path = (1 ≤ length path) × (length path ≤ 107)

-- the directory in which its socket is made, and the path there
abbrev pub room_of : Text → Text
room_of path = path ++ codes ".new"

abbrev pub inner_of : Text → Text
inner_of path = path ++ codes ".new/s"

-- the word is an octal of this number; a plus may stand first
pub record SpellsOctal (word : Text) (number : ℕ) : Type 0 where
  pub numeral : IsNumeral 8 (without_leading_plus word)
  pub is : number ≡ digits_value 8 (without_leading_plus word)

abbrev pub IsMode : ℕ → Type 0
IsMode mode = mode ≤ 0o777

-- the word spells these rights, or none
abbrev pub IsModeNamed : Text → Option ℕ → Type 0
IsModeNamed word (Some mode) = SpellsOctal word mode × IsMode mode
IsModeNamed word None = (mode : ℕ) → SpellsOctal word mode → IsMode mode → ⊥
