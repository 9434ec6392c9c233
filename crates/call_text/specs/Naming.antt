-- What a word of a command line names.
use Rattle.std.specs.Prelude.{◌≡◌, ℕ, ◌≤◌, true, Option, None, Some}
use Rattle.std.specs.Str.Parse.{IsNumeral, digits_value, without_leading_plus}
use Rattle.java_hash.specs.Stripes.{is_stripe_count}
use Rattle.call_text.specs.Names.{Text}

-- the word is a decimal of this number; a plus may stand first
pub record Spells (word : Text) (number : ℕ) : Type 0 where
  pub numeral : IsNumeral 10 (without_leading_plus word)
  pub is : number ≡ digits_value 10 (without_leading_plus word)

-- the word spells this allowed number, or none
abbrev pub IsNamed : (ℕ → Type 0) → Text → Option ℕ → Type 0
IsNamed Allowed word (Some number) = Spells word number × Allowed number
IsNamed Allowed word None = (number : ℕ) → Spells word number → Allowed number → ⊥

-- a port can be asked for
abbrev pub IsPort : ℕ → Type 0
IsPort number = (1 ≤ number) × (number ≤ 65535)

-- there can be `number` stripes
abbrev pub IsStripeCount : ℕ → Type 0
IsStripeCount number = is_stripe_count number ≡ true
