-- What the words hold after steps of passes in one order, and what each step finds in them.
use Rattle.std.specs.Prelude.{◌≡◌, ◌≢◌, ℕ, ◌+◌, ◌≤◌, ◌==◌, max, List, [], ◌∷◌, ◌++◌, Option, Some, None, Bool, true}
use Rattle.std.specs.Prelude.{false, not, if◌then◌else◌}
use Rattle.ticket_order.specs.declared.record.Opening.{Opening}
use Rattle.ticket_order.specs.declared.record.StepMade.{StepMade}
use Rattle.ticket_order.specs.declared.record.StepMade.TheVariants.{Took, FoundHeld, Gave, Drew, Looked, Published, Saw}
use Rattle.ticket_order.specs.declared.record.StepMade.TheVariants.{Failed, FoundAlive}
use Rattle.ticket_order.specs.StepRules.{EndsAt}
use Rattle.one_history.specs.declared.book.PassStep.{PassStep}

-- the ticket count, the durable count, whether a FAIL was made, and for each stripe the pass that holds it and one past
-- the last ticket that was drawn on it
pub record Words : Type 0 where
  pub tickets : ℕ
  pub durable : ℕ
  pub failed : Bool
  pub holders : ℕ → Option ℕ
  pub lasts : ℕ → ℕ

-- before any step: no ticket was drawn on any stripe, which the first ticket stands for
abbrev pub words_at : Opening → Words
words_at o = record { tickets = o.first; durable = o.first; failed = false; holders = λ i. None; lasts = λ i. o.first }

-- the holders, but with this one for stripe i
abbrev pub with_holder : ℕ → Option ℕ → (ℕ → Option ℕ) → ℕ → Option ℕ
with_holder i holder holders k = if k == i then holder else holders k

abbrev pub is_held_by : ℕ → Option ℕ → Bool
is_held_by j None = false
is_held_by j (Some holder) = holder == j

-- the last tickets, but with this one for each stripe that the pass j holds
abbrev pub with_last : ℕ → ℕ → (ℕ → Option ℕ) → (ℕ → ℕ) → ℕ → ℕ
with_last j last holders lasts k = if is_held_by j (holders k) then last else lasts k

-- what a step of the pass j leaves in the words
abbrev pub moved_by : ℕ → StepMade → Words → Words
moved_by j (Took i outbox last) w = record w { holders = with_holder i (Some j) w.holders }
moved_by j (FoundHeld i) w = w
moved_by j (Gave i) w = record w { holders = with_holder i None w.holders }
moved_by j (Drew t) w = record w { tickets = w.tickets + 1; lasts = with_last j (t + 1) w.holders w.lasts }
moved_by j (Looked q) w = w
moved_by j (Published x) w = record w { durable = max w.durable x }
moved_by j (Saw d) w = w
moved_by j Failed w = record w { failed = true }
moved_by j (FoundAlive is_alive) w = w

-- another pass than j
pub record IsAnother (j : ℕ) (holder : Option ℕ) : Type 0 where
  pub other : ℕ
  pub is : holder ≡ Some other
  pub apart : other ≢ j

-- What the step of the pass j finds in the words: a TAKE whether the stripe is free, its `last`, and an outbox that
-- ends there, if it has entries; the others what their word holds.
abbrev pub Finds : ℕ → StepMade → Words → Type 0
Finds j (Took i outbox last) w = (w.holders i ≡ None) × (last ≡ w.lasts i) × EndsAt outbox last
Finds j (FoundHeld i) w = IsAnother j (w.holders i)
Finds j (Gave i) w = w.holders i ≡ Some j
Finds j (Drew t) w = t ≡ w.tickets
Finds j (Looked q) w = q ≡ w.tickets
Finds j (Published x) w = (x ≤ w.tickets) × (w.failed ≡ false)
Finds j (Saw d) w = d ≡ w.durable
Finds j Failed w = Unit {0}
Finds j (FoundAlive is_alive) w = is_alive ≡ not w.failed

-- what the words hold after these steps
unfoldable pub words_after : Words → List PassStep → Words
words_after w [] = w
words_after w (s ∷ rest) = words_after (moved_by s.pass s.step w) rest

-- each step finds what those before it left in the words
unfoldable pub AreFound : Words → List PassStep → Type 0
AreFound w [] = Unit {0}
AreFound w (s ∷ rest) = Finds s.pass s.step w × AreFound (moved_by s.pass s.step w) rest

-- the order goes on from what it was earlier
pub record GoesOn (earlier order : List PassStep) : Type 0 where
  pub later : List PassStep
  pub is : order ≡ earlier ++ later

-- the steps of the pass j
unfoldable pub steps_by : ℕ → List PassStep → List StepMade
steps_by j [] = []
steps_by j (s ∷ rest) = if s.pass == j then s.step ∷ steps_by j rest else steps_by j rest
