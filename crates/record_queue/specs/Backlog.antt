-- What waits to be written, and how many records were lost after it.
use Rattle.std.specs.Prelude.{◌≡◌, ◌==◌, if◌then◌else◌, ◌+◌, ◌-◌, ◌^◌, ◌∷◌, ◌++◌, [], ℕ, List, Option, Some, None, min}
use Rattle.record_queue.specs.declared.backlog.Waiting.{Waiting}
use Rattle.record_queue.specs.declared.backlog.Due.{Due}

-- nothing waits, and no record was lost
abbrev pub IsEmpty : List Waiting → ℕ → Type 0
IsEmpty waiting lost = (waiting ≡ []) × (lost ≡ 0)

-- one more record is lost, as far as a number of 64 bits counts, and what waits stays
abbrev pub Loses : List Waiting → ℕ → List Waiting → ℕ → Type 0
Loses waiting lost waiting' lost' = (waiting' ≡ waiting) × (lost' ≡ min (lost + 1) (2 ^ 64 - 1))

-- the line waits after all others, with the number of those that were lost right before it
abbrev pub Adds : Waiting → List Waiting → List Waiting → ℕ → Type 0
Adds line waiting waiting' lost' = (waiting' ≡ waiting ++ line ∷ []) × (lost' ≡ 0)

-- The oldest line is taken, with the number of those that were lost right before it. Without a line the number of those
-- that were lost is taken, if it isn't 0.
abbrev pub Takes : Option Due → List Waiting → ℕ → List Waiting → ℕ → Type 0
Takes due [] lost waiting' lost' =
    (due ≡ (if lost == 0 then None else Some (record { lost = lost; line = None }))) × IsEmpty waiting' lost'
Takes due (first ∷ rest) lost waiting' lost' =
    (due ≡ Some (record { lost = first.lost; line = Some first.line })) × (waiting' ≡ rest) × (lost' ≡ lost)
