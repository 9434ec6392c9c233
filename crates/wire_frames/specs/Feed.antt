-- What a feeder holds, and what it gives.
use Rattle.std.specs.Prelude.{◌≡◌, ◌⊎◌, ℕ, true, false, List, ◌++◌, Err}
use Rattle.map_types.specs.declared.refusals.Refusal.TheVariants.{BadFrame}
use Rattle.wire_frames.specs.declared.feeder.First.{First}
use Rattle.wire_frames.specs.declared.feeder.First.TheVariants.{Partial, Refused, Whole}
use Rattle.wire_frames.specs.Messages.{frame, Message, AsksWholeMap, IsBody, IsPartial, IsRefusedLength, Says}
use Rattle.wire_frames.specs.Requests.{HasBulkMethod, HasCountMethod}
use Rattle.wire_frames.specs.Held.{Feed}

-- what stands at the front of the bytes
abbrev pub IsFirst : List ℕ → First → Type 0
IsFirst bytes Partial = IsPartial bytes
IsFirst bytes Refused = IsRefusedLength bytes
IsFirst bytes (Whole body rest) = IsBody body.now × (bytes ≡ frame body.now ++ rest.now)

-- a whole frame or a refused length is in hand, and no message was its last
abbrev pub HasMessage : Feed → Type 0
HasMessage feed = (feed.ended ≡ false) × (IsPartial feed.left → ⊥)

-- the message stands at the front of what was left: a frame, which is taken, or a refused length, after which nothing
-- more comes
abbrev pub Takes : Feed → Feed → Message → Type 0
Takes old new message =
    (old.ended ≡ false)
    × ((IsRefusedLength old.left × (message ≡ Err BadFrame) × (new ≡ record { left = old.left; ended = true }))
    ⊎ ((body : List ℕ) × IsBody body × (old.left ≡ frame body ++ new.left) × (new.ended ≡ false) × Says body message))

-- the next whole frame has a body of which this is true
pub record HasNext (IsSo : List ℕ → Type 0) (feed : Feed) : Type 0 where
  pub opened : feed.ended ≡ false
  pub body : List ℕ
  pub rest : List ℕ
  pub is_body : IsBody body
  pub parts : feed.left ≡ frame body ++ rest
  pub method : IsSo body

-- the next whole frame begins with the method of a call of the whole map
abbrev pub BeginsBulk : Feed → Type 0
BeginsBulk feed = HasNext HasBulkMethod feed

-- the next whole frame begins with the method of a count
abbrev pub BeginsCount : Feed → Type 0
BeginsCount feed = HasNext HasCountMethod feed

-- a message that asks something of the whole map comes out of such a frame
abbrev pub WholeMapBeginsBulk : Type 0
WholeMapBeginsBulk =
    (old new : Feed) (message : Message) → Takes old new message → AsksWholeMap message → BeginsBulk old
