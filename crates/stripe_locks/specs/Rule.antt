-- The rule of the shared words: between any two steps of any threads there is one history, which the words and the
-- slots match. The words are the ticket count, the durable count, the failure word, the count of passes, and then one
-- for each stripe. Each has a cache line of its own, of eight words.
use Rattle.std.specs.Prelude.{◌≡◌, ℕ, ◌+◌, ◌*◌, ◌<◌, ◌≤◌, max, List, [], ◌∷◌, length, map, Option, Some, Bool, true, false}
use Rattle.std.specs.Prelude.{slice_index}
use Rattle.std.specs.List.{All, Contains}
use mathlib.Core.Option.{some}
use mathlib.Core.Option as maybe
use lib.ListN.{get_elem?}
use Rattle.atomic_table.specs.Table.{State}
use Rattle.map_types.specs.declared.commands.Command.{Command}
use Rattle.ticket_order.specs.declared.stripe.Stripe.{Stripe}
use Rattle.ticket_order.specs.declared.stripe.Entry.{Entry}
use Rattle.ticket_order.specs.declared.record.Opening.{Opening}
use Rattle.ticket_order.specs.declared.record.StepMade.{StepMade}
use Rattle.ticket_order.specs.declared.record.StepMade.TheVariants.{Saw, FoundAlive}
use Rattle.ticket_order.specs.Records.{keeper_at_start, enrolling}
use Rattle.one_history.specs.declared.book.Book.{Book}
use Rattle.one_history.specs.declared.book.PassStep.{PassStep}
use Rattle.one_history.specs.declared.slot.Slot.{Slot}
use Rattle.one_history.specs.declared.slot.Slot.TheVariants.{Home, HeldBy}
use Rattle.one_history.specs.Interleaving.{GoesOn, steps_by}
use Rattle.one_history.specs.Turns.{record_of}
use Rattle.one_history.specs.OneHistory.{IsFront}
use Rattle.one_history.specs.SharedWords.{slot_of, IsKept}
use Rattle.stripe_locks.specs.declared.view.SeatView.{SeatView}

abbrev pub bit : Bool → ℕ
bit true = 1
bit false = 0

-- A stripe whose word is 0 has its content at home. Else the word is the number of the pass that holds it: passes are
-- numbered from 1 on, in the order of the book.
abbrev pub Stands : List ℕ → List (maybe.Option (Option Stripe)) → ℕ → Slot → Type 0
Stands words homes i (Home content) =
    (slice_index words (i * 8 + 32) ≡ 0) × (get_elem? homes i ≡ some (some (Some content)))
Stands words homes i (HeldBy j) = slice_index words (i * 8 + 32) ≡ j + 1

-- The seat is that of the pass at this place of the book, which it lists alone, and whose record it knows. The one order
-- goes on from the order that it knows, in which all steps of the pass stand.
pub record IsSeated (seats : ℕ → ℕ) (b : Book) (joined : ℕ) (id : ℕ) (v : SeatView) : Type 0 where
  pub place : ℕ
  pub number_is : v.pass.passes ≡ place + 1
  pub within : place < joined
  pub seat_is : seats place ≡ id
  pub lists : v.places ≡ place ∷ []
  pub view_is : record_of place b ≡ v.pass
  pub goes_on : GoesOn v.order b.interleaving
  pub made : steps_by place v.order ≡ v.pass.steps

abbrev pub commands_of : List Entry → List Command
commands_of entries = map (λ (e : Entry). e.command) entries

-- The durable count `published` and the failure word `failed` bear out a step: a SEE found no more, and an ALIVE says
-- no only after a FAIL.
abbrev pub BearsOut : ℕ → Bool → StepMade → Type 0
BearsOut published failed (Saw d) = d ≤ published
BearsOut published failed (FoundAlive is_alive) = is_alive ≡ false → failed ≡ true
BearsOut published failed step = Unit {0}

-- The pass at the place j has joined, and this is the one seat that lists it. All its steps stand in the order that the
-- seat knows.
pub record IsListed (seats : ℕ → ℕ) (b : Book) (joined : ℕ) (id : ℕ) (order : List PassStep) (j : ℕ) : Type 0 where
  pub within : j < joined
  pub seat_is : seats j ≡ id
  pub made : steps_by j order ≡ (record_of j b).steps

-- The seat is no pass's. What it knows of the history are two fronts; its steps are borne out by what it knows of the
-- keeper's effects. The one order goes on from the order that it knows. If two passes were compared, it lists both.
pub record IsUnseated (seats : ℕ → ℕ) (b : Book) (joined : ℕ) (id : ℕ) (v : SeatView) : Type 0 where
  pub few : v.pass.passes ≤ joined
  pub front : IsFront v.pass.seen b.history
  pub other_front : IsFront (commands_of v.pass.taken) b.history
  pub borne_out : All (BearsOut v.pass.published v.pass.failed) v.pass.steps
  pub goes_on : GoesOn v.order b.interleaving
  pub listed : All (IsListed seats b joined id v.order) v.places

abbrev pub Sits : (ℕ → ℕ) → Book → ℕ → ℕ → SeatView → Bool → Type 0
Sits seats b joined id v true = IsSeated seats b joined id v
Sits seats b joined id v false = IsUnseated seats b joined id v

-- a seat lists the pass at the place j
pub record HasSeat (seats : ℕ → ℕ) (views : List SeatView) (j : ℕ) : Type 0 where
  pub view : SeatView
  pub at : get_elem? views (seats j) ≡ some view
  pub lists : Contains view.places j

-- `joined` passes have joined, at most 4,096, and each is listed by one seat. The keeper's is the first; until it joins,
-- its record stands in the book as it will begin. A step changes the view of its own seat alone. So the one order stays
-- as it was up to the last step of each other pass, and grows at its end.
pub record Kept (o : Opening) (s : State (Option Stripe) SeatView) : Type 0 where
  pub book : Book
  pub slots : List Slot
  pub seats : ℕ → ℕ
  pub opening : book.opening ≡ o
  pub wide : length s.words ≡ length s.homes * 8 + 32
  pub kept : IsKept (length s.homes) (slice_index s.words 0) (slice_index s.words 8) book.effects.failed slots book
  pub failure : slice_index s.words 16 ≡ bit book.effects.failed
  pub few : slice_index s.words 24 ≤ 4096
  pub joined : length book.passes ≡ max 1 (slice_index s.words 24)
  pub keeper : book.effects.keeper ≡ 0
  pub unjoined : slice_index s.words 24 ≡ 0 → record_of 0 book ≡ enrolling (keeper_at_start o) 1
  pub each_stripe : (i : ℕ) → i < length s.homes → Stands s.words s.homes i (slot_of i slots)
  pub each_seat : (id : ℕ) (v : SeatView) → get_elem? s.views id ≡ some v
      → Sits seats book (slice_index s.words 24) id v v.pass.enrolled
  pub each_pass : (j : ℕ) → j < slice_index s.words 24 → HasSeat seats s.views j
