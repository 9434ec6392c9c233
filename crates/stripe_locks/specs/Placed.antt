-- The parts as they are stored at the start.
use Rattle.std.specs.Prelude.{ℕ, List, Option, Some, None, map}
use Rattle.atomic_methods.specs.PartState.{PartState}
use Rattle.ticket_order.specs.declared.stripe.Stripe.{Stripe}
use Rattle.one_history.specs.declared.slot.Slot.{Slot}
use Rattle.one_history.specs.declared.slot.Slot.TheVariants.{Home, HeldBy}
use Rattle.one_history.specs.SharedWords.{ArePlaced}

-- what a stored content is as a place of a stripe
abbrev pub slot_with : Option Stripe → Slot
slot_with (Some content) = Home content
slot_with None = HeldBy 0

-- each part is at home with no entries, and its stripe's `last` is `first`, with which the stripes begin
abbrev pub AreStored : ℕ → List PartState → List (Option Stripe) → Type 0
AreStored first parts slots = ArePlaced first parts (map slot_with slots)
