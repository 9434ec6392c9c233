-- That no two entries are of one key has at most one proof, so a struct may hold it.
use Rattle.std.specs.Prelude.{◌≡◌, ◌⊎◌, ℕ, ℤ, List, [], ◌∷◌}
use Rattle.std.specs.Coded.{Coded, Coded-set, code_by, coded_list, coded_option, coded_ℕ, coded_ℤ, coded⊎, ×_prop}
use Rattle.std.specs.Coded.{Unit-prop}
use Rattle.std.proofs.Common.{refl, inl, inr}
use Rattle.map_types.specs.declared.texts.Value.{Value}
use Rattle.map_types.specs.declared.texts.Value.TheVariants.{Int, Text}
use Rattle.bin_table.specs.Chains.{Entries, HasDistinctKeys}

-- a value as a number or the bytes of a text
abbrev cases : Value → ℤ ⊎ List ℕ
cases (Int number) = inl number
cases (Text text) = inr text

-- the value that is one of them
abbrev value : ℤ ⊎ List ℕ → Value
value (inl number) = Int number
value (inr text) = Text text

-- the two undo each other
value_cases : (v : Value) → value (cases v) ≡ v
value_cases (Int number) = refl
value_cases (Text text) = refl

-- the code of a value, by which there is at most one proof that two values are equal
coded_value : Coded Value
coded_value = code_by (ℤ ⊎ List ℕ) (coded⊎ coded_ℤ (coded_list coded_ℕ)) cases value value_cases

pub HasDistinctKeys-prop : (entries : Entries) → IsProp (HasDistinctKeys entries)
HasDistinctKeys-prop [] = Unit-prop
HasDistinctKeys-prop (entry ∷ entries) =
    ×_prop (Coded-set (coded_option coded_value) _ _) (HasDistinctKeys-prop entries)
