-- The commit of one change, row by row, and stops within it.
use Rattle.std.proofs.Common.{◌≡◌, ◌<◌, ℕ, zero, suc, Bool, true, List, [], ◌∷◌, ◌++◌, refl, sym, ap, subst, arith}
use Rattle.std.specs.Global.{Vec}
use Rattle.std.specs.Prelude.{◌&&◌, nat_lt}
use Rattle.std.specs.Str.{chars}
use Rattle.std.proofs.lemmas.Bool.Decides.{nat_tests}
use Rattle.java_hash.specs.Hash.{hash_of, weighted_sum}
use Rattle.java_hash.specs.Stripes.{stripe_of}
use Rattle.java_hash.specs.Units.{units_of}
use Rattle.disk_model.specs.Files.{AreBytes}
use Rattle.disk_model.specs.Gates.{writes}
use Rattle.store_layout.specs.Logs.{frame, header}
use Rattle.sim_rules.specs.World.{World, begun_by, start}
use Rattle.sim_rules.specs.After.{after}
use Rattle.sim_rules.specs.Examples.{AllMeet, ChangeIsReleased, FailsAsDue, after_rows, frame_bytes, new_store, opened, released_rows, staged_rows, withheld_rows, written_rows}
use Rattle.sim_rules.proofs.RowExamples.{change_is_staged, meet_on}

-- ---- bytes

all_below : List ℕ → Bool
all_below [] = true
all_below (byte ∷ bytes) = nat_lt byte 256 && all_below bytes

first_below : (byte : ℕ) (others : Bool) → nat_lt byte 256 && others ≡ true → (byte < 256) × (others ≡ true)
first_below byte others all = grind (arith, nat_tests)

are_bytes : (bytes : List ℕ) → all_below bytes ≡ true → AreBytes bytes
unfolding all_below
are_bytes [] all i = omega arith
are_bytes (byte ∷ bytes) all zero = (first_below byte (all_below bytes) all).0
are_bytes (byte ∷ bytes) all (suc i) = are_bytes bytes (first_below byte (all_below bytes) all).1 i

frame_is_bytes : AreBytes frame_bytes
unfolding frame all_below
frame_is_bytes = are_bytes frame_bytes refl

gate_is_bytes : AreBytes (165 ∷ [])
unfolding all_below
gate_is_bytes = are_bytes (165 ∷ []) refl

-- ---- worlds

unfoldable pub staged : World
staged = after_rows new_store opened staged_rows

unfoldable pub written : Vec ℕ → World
written bytes = after_rows new_store staged (written_rows bytes)

unfoldable pub withheld : Vec ℕ → World
withheld bytes = after_rows new_store (written bytes) withheld_rows

pub fails_as_due : FailsAsDue
unfolding after begun_by start stripe_of hash_of weighted_sum units_of chars frame header
fails_as_due fill call meets = (meets.1.file, meets.1.what)

written_meets : (bytes : Vec ℕ) → bytes.items ≡ frame_bytes → AllMeet new_store staged (written_rows bytes)
unfolding staged after begun_by start stripe_of hash_of weighted_sum units_of chars frame header
written_meets bytes is = (
  (
    refl,
    record {
      file = refl;
      low = 0;
      what = ap (λ (items : List ℕ). writes 18 items) is;
      possible = record { file = omega arith; place = omega arith; bytes = subst AreBytes (sym is) frame_is_bytes };
    },
    refl,
  ),
  ((refl, record { file = refl; low = 0; what = refl; possible = record { file = omega arith; place = tt; bytes = λ i. omega arith } }, refl), tt),
)

withheld_meets : (bytes : Vec ℕ) → AllMeet new_store (written bytes) withheld_rows
unfolding written staged after begun_by start stripe_of hash_of weighted_sum units_of chars frame header
withheld_meets bytes = (refl, ((refl, omega arith), ((refl, refl), tt)))

released_meets : (bytes gate : Vec ℕ) → gate.items ≡ 165 ∷ [] → AllMeet new_store (withheld bytes) (released_rows gate)
unfolding withheld written staged after begun_by start stripe_of hash_of weighted_sum units_of chars frame header
released_meets bytes gate is = (
  (
    refl,
    record {
      file = refl;
      low = 0;
      what = ap (λ (items : List ℕ). writes 17 items) is;
      possible = record { file = omega arith; place = omega arith; bytes = subst AreBytes (sym is) gate_is_bytes };
    },
    refl,
  ),
  ((refl, record { file = refl; low = 0; what = refl; possible = record { file = omega arith; place = tt; bytes = λ i. omega arith } }, refl), (refl, (refl, ((refl, omega arith, refl), tt)))),
)

pub change_is_released : ChangeIsReleased
unfolding withheld written staged
change_is_released bytes gate is opens =
    meet_on new_store opened staged_rows (written_rows bytes ++ (withheld_rows ++ released_rows gate)) change_is_staged
    (meet_on new_store staged (written_rows bytes) (withheld_rows ++ released_rows gate) (written_meets bytes is)
    (meet_on new_store (written bytes) withheld_rows (released_rows gate) (withheld_meets bytes) (released_meets bytes gate opens)))
