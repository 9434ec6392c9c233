-- What ties the words and the slots to the book.
use Rattle.std.specs.Prelude.{◌≡◌, ℕ, ◌+◌, ◌<◌, ◌≤◌, ◌⊎◌, List, [], length, Option, Some, None, Bool, slice_index_or}
use Rattle.std.specs.Prelude.{sum_by, if◌then◌else◌}
use Rattle.std.specs.List.{All}
use Rattle.std.specs.FinMap as finite
use Rattle.atomic_methods.specs.PartState.{PartState}
use Rattle.ticket_order.specs.declared.record.Record.{Record}
use Rattle.ticket_order.specs.Records.{ticket_limit}
use Rattle.ticket_order.specs.Legality.{IsContent}
use Rattle.one_history.specs.declared.book.Book.{Book}
use Rattle.one_history.specs.declared.slot.Slot.{Slot}
use Rattle.one_history.specs.declared.slot.Slot.TheVariants.{Home, HeldBy}
use Rattle.one_history.specs.Turns.{words_of}
use Rattle.one_history.specs.OneHistory.{IsOneHistory, HoldsStripe}

abbrev pub slot_of : ℕ → List Slot → Slot
slot_of i slots = slice_index_or slots i (HeldBy 0)

-- a free stripe has its part of the map and its entries that no sweep took, and a held one has a holder
abbrev pub Lies : Book → ℕ → Slot → Type 0
Lies b i (Home content) =
    IsContent b.opening b.stripes b.history b.effects.taken i content.part.map content.outbox.items content.last
Lies b i (HeldBy j) = HoldsStripe b j i

-- the pass that holds the stripe of this place
abbrev pub holder_in : Slot → Option ℕ
holder_in (Home content) = None
holder_in (HeldBy j) = Some j

-- how many tickets the pass may draw before it looks again
abbrev pub draws_left : Record → ℕ
draws_left v = if v.fresh then 1 else 0

-- each pass draws at most once after it saw the count of tickets below its limit, so the count stays near the limit
abbrev pub HasRoom : Book → Type 0
HasRoom b = (length b.history + sum_by draws_left b.passes ≡ 0)
    ⊎ (b.opening.first + length b.history + sum_by draws_left b.passes ≤ ticket_limit + length b.passes)

pub record IsKept (n tickets durable : ℕ) (failed : Bool) (slots : List Slot) (b : Book) : Type 0 where
  pub stripes_are : b.stripes ≡ n
  pub sized : length slots ≡ n
  pub counted : tickets ≡ b.opening.first + length b.history
  pub durable_is : durable ≡ b.effects.durable
  pub failed_is : failed ≡ b.effects.failed
  pub few : length b.passes ≤ 65536
  pub room : HasRoom b
  pub one : IsOneHistory b
  pub each_slot : (i : ℕ) → i < b.stripes → Lies b i (slot_of i slots)
  pub carried : (i j : ℕ) → HoldsStripe b j i → slot_of i slots ≡ HeldBy j
  pub holders : (i : ℕ) → i < b.stripes → (words_of b).holders i ≡ holder_in (slot_of i slots)

abbrev pub no_part : PartState
no_part = record {
  map = finite.empty;
  growth = record { stripes = 0; bins = 0; moved = None };
}

-- the part is at home with no entries, and its stripe's `last` is `first`, with which the stripes begin
abbrev pub IsPlaced : ℕ → PartState → Slot → Type 0
IsPlaced first p (Home content) = (content.part ≡ p) × (content.outbox.items ≡ []) × (content.last ≡ first)
IsPlaced first p (HeldBy j) = ⊥

pub record ArePlaced (first : ℕ) (parts : List PartState) (slots : List Slot) : Type 0 where
  pub count : length slots ≡ length parts
  pub each : (i : ℕ) → i < length parts → IsPlaced first (slice_index_or parts i no_part) (slot_of i slots)

-- a part of a map of n stripes as it begins: it has no key and one bin, and no growth runs
abbrev pub empty_part : ℕ → PartState
empty_part n = record {
  map = finite.empty;
  growth = record { stripes = n; bins = 1; moved = None };
}

abbrev pub AreEmpty : ℕ → List PartState → Type 0
AreEmpty n parts = All (λ (p : PartState). p ≡ empty_part n) parts
