-- What may come of an opening, by what the files hold and by the device call that is to fail.
-- The clauses of one definition exclude each other.
use Rattle.std.specs.Prelude.{◌≡◌, ◌⊎◌, ℕ, ◌≤◌, List, map, Option, Some, None, Bool, false, ◌&&◌, nat_lt, nat_le}
use Rattle.std.specs.FinMap as finite
use Rattle.map_types.specs.declared.refusals.Refusal.TheVariants as refusal
use Rattle.map_types.specs.declared.texts.Value.{Value}
use Rattle.store_layout.specs.Calls.{opening_calls}
use Rattle.store_layout.specs.Opening.{Opened, Holds, Refuses, map_of, prefix_of}
use Rattle.sim_rules.specs.declared.outcome.MapEntry.{MapEntry}
use Rattle.sim_rules.specs.declared.outcome.Outcome.{Outcome}
use Rattle.sim_rules.specs.declared.outcome.Outcome.TheVariants as outcome
use Rattle.sim_rules.specs.World.{World, seen_of}

abbrev pub entry_of : MapEntry → List ℕ × Value
entry_of entry = (entry.key, entry.value)

-- the event names one of the first `calls` device calls; they are counted from 1
abbrev pub names_within : Option ℕ → ℕ → Bool
names_within None calls = false
names_within (Some n) calls = nat_lt 0 n && nat_le n calls

-- what the files hold is found; the outcome has the number of its commands, and all entries of its map in rising byte
-- order of their keys
pub record Finds (w : World) (found : Opened) (prefix : ℕ) (entries : List MapEntry) : Type 0 where
  pub holds : Holds (seen_of w.files) found
  pub prefix_is : prefix ≡ prefix_of found
  pub entries_are : map entry_of entries ≡ finite.entries (map_of found)

-- `calls` device calls are no more than those of an opening that finds what the files hold
abbrev pub MayTake : World → ℕ → Type 0
MayTake w calls = (found : Opened) → Holds (seen_of w.files) found → calls ≤ opening_calls (seen_of w.files) found

-- An opening is refused with 9 exactly if the device call that its event names was made, as the last. Else it never
-- comes to that call. Either it finds what the files hold, which the syncs leave as they read, by the device calls that
-- this takes. Or it makes its four syncs, and is refused as the files are, or for want of memory. A refused opening of
-- files that hold something makes no more device calls than finding it takes.
abbrev pub OpensFiles : World → Opened → Option ℕ → Outcome → Type 0
OpensFiles w found fails_at (outcome.Opened calls prefix entries) =
    (calls ≡ opening_calls (seen_of w.files) found) × (names_within fails_at calls ≡ false)
    × Finds w found prefix entries.items
OpensFiles w found fails_at (outcome.NotOpened calls refusal.Failed) =
    (1 ≤ calls) × (fails_at ≡ Some calls) × MayTake w calls
OpensFiles w found fails_at (outcome.NotOpened calls reason) =
    (4 ≤ calls) × (names_within fails_at calls ≡ false)
    × ((reason ≡ refusal.NoMemory) ⊎ Refuses (seen_of w.files) reason) × MayTake w calls
OpensFiles w found fails_at x = ⊥
