-- What each step on the words tells its pass: `m` is the pass's seat before it, `m'` after it, and `r` what was found
-- in the word.
use Rattle.std.specs.Prelude.{◌≡◌, ◌≢◌, ℕ, ◌+◌, ◌-◌, ◌/◌, ◌≤◌, ◌==◌, List, [], ◌∷◌, Option, Some, None}
use Rattle.atomic_table.specs.Table.{Me, Step, rest}
use Rattle.map_types.specs.declared.commands.Command.{Command}
use Rattle.ticket_order.specs.declared.stripe.Stripe.{Stripe}
use Rattle.ticket_order.specs.declared.record.Opening.{Opening}
use Rattle.ticket_order.specs.declared.record.Purpose.{Purpose}
use Rattle.ticket_order.specs.declared.record.Holding.{Holding}
use Rattle.ticket_order.specs.declared.record.Record.{Record}
use Rattle.ticket_order.specs.Records.{newcomer, enrolling, meeting, missing}
use Rattle.ticket_order.specs.StepRules.{TakesStripe, Looks, Draws, Gives, Publishes, Sees, Fails, Lives}
use Rattle.stripe_locks.specs.declared.view.SeatView.{SeatView}

abbrev pub Sat : Type 0
Sat = Me (Option Stripe) SeatView

-- what a seat knows that is no pass's, before any step
abbrev pub stepless : Record → SeatView
stepless v = record { pass = v; order = []; places = [] }

-- what the seat of the pass at the place k knows, before any step of it
abbrev pub seated_at : ℕ → Record → SeatView
seated_at k v = record { pass = v; order = []; places = k ∷ [] }

-- the slots that are out with a pass
abbrev pub carried : Option Holding → List (ℕ × Option Stripe)
carried None = []
carried (Some d) = (d.stripe, None) ∷ []

-- a step leaves which pass it is
pub record IsSameOne (v w : Record) : Type 0 where
  pub enrolled : w.enrolled ≡ v.enrolled
  pub passes : w.passes ≡ v.passes
  pub keeper : w.keeper ≡ v.keeper
  pub opening : w.opening ≡ v.opening

-- the record of a pass that joins after k others; the first is the keeper's
abbrev pub joining : Opening → ℕ → Record
joining o k = record (enrolling (newcomer o) (k + 1)) { keeper = k == 0 }

abbrev pub sat : Step (Option Stripe) → Sat → ℕ → Sat → Type 0
sat st m r m' = (m'.0 ≡ stepless (meeting m.0.pass r)) × (r ≤ 4096)

abbrev pub enrolled : Step (Option Stripe) → Sat → ℕ → Sat → Type 0
enrolled st m r m' = (m'.1 ≡ m.1) × (r ≡ st.first → m'.0 ≡ seated_at r (joining m.0.pass.opening r))
    × (r ≢ st.first → (m'.0 ≡ stepless (meeting m.0.pass r)) × (m.0.pass.passes ≤ r) × (r ≤ 4096))

-- TAKE of a free stripe, whose content the seat then has
pub record TakesHome (n i : ℕ) (m m' : Sat) : Type 0 where
  pub content : Stripe
  pub has : m'.1 ≡ (i, Some content) ∷ m.1
  pub takes : TakesStripe n m.0.pass i content m'.0.pass
  pub same : IsSameOne m.0.pass m'.0.pass

-- the stripe whose word stands there
abbrev pub stripe_at : ℕ → ℕ
stripe_at word = (word - 32) / 8

abbrev pub took : Step (Option Stripe) → Sat → ℕ → Sat → Type 0
took st m r m' = (r ≡ 0 → TakesHome st.slots (stripe_at st.word) m m')
    × (r ≢ 0 → (m'.1 ≡ m.1) × (m'.0.pass ≡ missing m.0.pass (stripe_at st.word)))

abbrev pub gave : Purpose → Step (Option Stripe) → Sat → ℕ → Sat → Type 0
gave p st m r m' = (m'.1 ≡ rest m.1) × Gives st.slots p m.0.pass m'.0.pass

abbrev pub drew : Command → Step (Option Stripe) → Sat → ℕ → Sat → Type 0
drew c st m r m' = (m'.1 ≡ m.1) × Draws m.0.pass c r m'.0.pass

abbrev pub looked : Step (Option Stripe) → Sat → ℕ → Sat → Type 0
looked st m r m' = (m'.1 ≡ m.1) × Looks m.0.pass r m'.0.pass

abbrev pub published : Step (Option Stripe) → Sat → ℕ → Sat → Type 0
published st m r m' = (m'.1 ≡ m.1) × Publishes m.0.pass st.first m'.0.pass

abbrev pub saw : Step (Option Stripe) → Sat → ℕ → Sat → Type 0
saw st m r m' = (m'.1 ≡ m.1) × Sees m.0.pass r m'.0.pass

abbrev pub failed : Step (Option Stripe) → Sat → ℕ → Sat → Type 0
failed st m r m' = (m'.1 ≡ m.1) × Fails m.0.pass m'.0.pass

abbrev pub lived : Step (Option Stripe) → Sat → ℕ → Sat → Type 0
lived st m r m' = (m'.1 ≡ m.1) × Lives m.0.pass (r == 0) m'.0.pass
