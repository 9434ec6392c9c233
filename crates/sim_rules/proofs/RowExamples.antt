-- One change, row by row, and phases.
use Rattle.std.proofs.Common.{◌≡◌, ◌≤◌, ◌<◌, ◌+◌, ℕ, List, [], ◌∷◌, ◌++◌, length, Option, None, Some, refl, sym, subst, ◌∙◌, ◌^◌, arith}
use Rattle.std.specs.Str.{chars}
use Rattle.java_hash.specs.Hash.{hash_of, weighted_sum}
use Rattle.java_hash.specs.Stripes.{stripe_of}
use Rattle.java_hash.specs.Units.{units_of}
use Rattle.store_layout.specs.Hands.{FitsBatch}
use Rattle.store_layout.specs.Logs.{frame, header}
use Rattle.store_layout.specs.Opening.{Opened}
use Rattle.sim_rules.specs.World.{World, Life, Place, WithWorker, InOutbox, InHand, begun_by, gate_after, next_commands, old_start, place_of, seen_of, start}
use Rattle.sim_rules.specs.After.{after}
use Rattle.sim_rules.specs.Cases.{IsLongestRun, IsPastFull}
use Rattle.sim_rules.specs.Runs.{Row}
use Rattle.sim_rules.specs.Examples.{AllMeet, BatchIsCommitted, ChangeIsStaged, CheckpointGoesOn, LongKeyIsRefused, NotYetInHand, OldKeyIsRefused, OtherIsRefused, RotationGoesOn, RotationTakesNewVersion}
use Rattle.sim_rules.specs.Examples.{after_rows, new_store, opened, put_rows, stage_rows, sweep_rows, unswept_rows}

-- ---- phases

pub batch_is_committed : BatchIsCommitted
batch_is_committed w l n = (refl, refl)

pub rotation_goes_on : RotationGoesOn
rotation_goes_on w l = refl

pub rotation_takes_new_version : RotationTakesNewVersion
rotation_takes_new_version w l = (refl, refl)

pub checkpoint_goes_on : CheckpointGoesOn
checkpoint_goes_on l running = (refl, refl, refl)

-- ---- rows behind rows

pub meet_on : (found : Opened) (w : World) (first second : List Row) → AllMeet found w first → AllMeet found (after_rows found w first) second → AllMeet found w (first ++ second)
meet_on found w [] second one two = two
meet_on found w (row ∷ first) second one two = (one.0, meet_on found (after w found row.0 row.1) first second one.1 two)

-- ---- the longest run

IsInHand : Place → Type 0
IsInHand InHand = Unit {0}
IsInHand place = ⊥

not_in_hand : (place : Place) → (IsInHand place → ⊥) → place ≡ InHand → ⊥
unfolding IsInHand
not_in_hand place none is = none (subst IsInHand (sym is) tt)

one_in_hand : (l : Life) → place_of l (l.committed + 0) ≡ InHand → (i : ℕ) → i < 1 → place_of l (l.committed + i) ≡ InHand
one_in_hand l is i small = subst (λ (j : ℕ). place_of l (l.committed + j) ≡ InHand) (let none : 0 ≡ i = omega (arith, small) in none) is

pub longest_one : (w : World) (l : Life) (most : ℕ) → place_of l (l.committed + 0) ≡ InHand → place_of l (l.committed + 1) ≡ WithWorker → FitsBatch l.layout most l.committed (next_commands w l 1)
    → IsLongestRun w l most 1
unfolding IsInHand
longest_one w l most here next fits = record {
  can = record { in_hand = one_in_hand l here; fits = fits };
  no_longer = λ can. not_in_hand WithWorker (λ none. none) (sym next ∙ can.in_hand 1 (omega arith));
}

pub longest_none : (w : World) (l : Life) (most : ℕ) → place_of l (l.committed + 0) ≡ InOutbox → l.committed < 2 ^ 64 → length (frame l.layout (record { first = l.committed; commands = [] })) ≤ 1048576
    → IsLongestRun w l most 0
unfolding IsInHand
longest_none w l most here fits short = record {
  can = record { in_hand = λ i small. absurd (omega (arith, small)); fits = record { few = omega arith; fits = omega (arith, fits); within = omega arith; short = short } };
  no_longer = λ can. not_in_hand InOutbox (λ none. none) (sym here ∙ can.in_hand 0 (omega arith));
}

-- a log that ends here is not full
pub not_full : (w : World) (l : Life) (n gate : ℕ) → gate_after w l n ≡ gate → gate < 2 ^ 40 → IsPastFull w l n → ⊥
not_full w l n gate is small full = omega (arith, is, small, full.1)

-- ---- the change

pub life_in : Option Life → Life
life_in None = begun_by 16 (seen_of start.files) new_store
life_in (Some l) = l

swept : World
swept = after_rows new_store (after_rows new_store opened put_rows) sweep_rows

pub put_meets : AllMeet new_store opened put_rows
unfolding after begun_by start stripe_of hash_of weighted_sum units_of chars header
put_meets = (omega arith, ((refl, refl), (refl, (refl, ((refl, omega arith), ((refl, refl), tt))))))

pub other_is_refused : OtherIsRefused
unfolding after begun_by start stripe_of hash_of weighted_sum units_of chars header
other_is_refused = (omega arith, ((refl, refl), (omega arith, ((refl, refl, refl), tt))))

pub long_key_is_refused : LongKeyIsRefused
unfolding after begun_by start header
long_key_is_refused long short above within = (omega (arith, above), (omega (arith, within), tt))

pub old_key_is_refused : OldKeyIsRefused
unfolding after begun_by old_start header
old_key_is_refused long short above within = (omega (arith, above), (omega (arith, within), tt))

pub sweep_meets : AllMeet new_store (after_rows new_store opened put_rows) sweep_rows
unfolding after begun_by start stripe_of hash_of weighted_sum units_of chars header
sweep_meets = (
  refl,
  (
    (refl, refl),
    (
      (refl, omega arith),
      (
        (refl, refl),
        (
          (refl, omega arith),
          (
            (refl, refl),
            (
              (refl, omega arith),
              (
                (refl, refl),
                (
                  (refl, omega arith),
                  (
                    (refl, refl),
                    (
                      (refl, omega arith),
                      (
                        (refl, refl),
                        (
                          (refl, omega arith),
                          (
                            (refl, refl),
                            (
                              (refl, omega arith),
                              (
                                (refl, refl),
                                (
                                  (refl, omega arith),
                                  (
                                    (refl, refl),
                                    (
                                      (refl, omega arith),
                                      (
                                        (refl, refl),
                                        (
                                          (refl, omega arith),
                                          (
                                            (refl, refl),
                                            (
                                              (refl, omega arith),
                                              (
                                                (refl, refl),
                                                (
                                                  (refl, omega arith),
                                                  (
                                                    (refl, refl),
                                                    (
                                                      (refl, omega arith),
                                                      (
                                                        (refl, refl),
                                                        (
                                                          (refl, omega arith),
                                                          (
                                                            (refl, refl),
                                                            (
                                                              (refl, omega arith),
                                                              ((refl, refl), ((refl, refl, refl), tt)),
                                                            ),
                                                          ),
                                                        ),
                                                      ),
                                                    ),
                                                  ),
                                                ),
                                              ),
                                            ),
                                          ),
                                        ),
                                      ),
                                    ),
                                  ),
                                ),
                              ),
                            ),
                          ),
                        ),
                      ),
                    ),
                  ),
                ),
              ),
            ),
          ),
        ),
      ),
    ),
  ),
)

pub not_yet_in_hand : NotYetInHand
unfolding after begun_by start stripe_of hash_of weighted_sum units_of chars frame header
not_yet_in_hand = meet_on new_store opened put_rows unswept_rows put_meets ((refl, refl, longest_none _ _ 10 refl (omega arith) (omega arith), λ full. omega (arith, full.0)), (refl, (refl, tt)))

pub change_is_staged : ChangeIsStaged
unfolding swept life_in after begun_by start stripe_of hash_of weighted_sum units_of chars frame header
change_is_staged =
    meet_on new_store opened put_rows (sweep_rows ++ stage_rows) put_meets (meet_on new_store (after_rows new_store opened put_rows) sweep_rows stage_rows sweep_meets
    ((refl, refl, longest_one _ _ 10 refl refl (record { few = omega arith; fits = omega arith; within = omega arith; short = omega arith }), not_full swept (life_in swept.life) 1 _ refl (omega arith)), tt))
