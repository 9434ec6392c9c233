-- What a whole call leaves of the record of its pass.
use Rattle.std.specs.Prelude.{◌≡◌, ℕ, ◌^◌, ◌<◌, ◌≤◌, ◌⊎◌, max, List, [], ◌∷◌, ◌++◌, length, Bool, true, false}
use Rattle.std.specs.FinMap as finite
use Rattle.java_hash.specs.Stripes.{stripe_of}
use Rattle.map_types.specs.declared.texts.Value.{Value}
use Rattle.map_types.specs.declared.commands.Command.{Command}
use Rattle.map_types.specs.declared.commands.Read.{Read}
use Rattle.map_types.specs.declared.commands.Reply as reply_type
use Rattle.map_types.specs.declared.refusals.Refusal.{Refusal}
use Rattle.map_types.specs.declared.refusals.Refusal.TheVariants.{Busy, KeyTooLong, NoMemory, TicketsSpent, LogFull}
use Rattle.map_types.specs.declared.refusals.Refusal.TheVariants as refusal_type
use Rattle.map_model.specs.Maps.{Map}
use Rattle.map_model.specs.Histories.{IsLegalChange, IsLegalRead}
use Rattle.ticket_order.specs.declared.stripe.Entry.{Entry}
use Rattle.ticket_order.specs.declared.stripe.Stripe.{Stripe}
use Rattle.ticket_order.specs.declared.held.Released.{Released}
use Rattle.ticket_order.specs.declared.held.Released.TheVariants as released
use Rattle.ticket_order.specs.declared.record.Purpose.TheVariants.{Nothing, Sweep, Capture}
use Rattle.ticket_order.specs.declared.record.Asked.TheVariants.{Changing, Reading}
use Rattle.ticket_order.specs.declared.record.Record.{Record}
use Rattle.ticket_order.specs.Records.{IsWithin, ticket_limit, call, reach, past, missing, taking, looking, drawing}
use Rattle.ticket_order.specs.Records.{giving, answering, living}
use Rattle.ticket_order.specs.Legality.{history_of, IsLegalSection}
use Rattle.ticket_order.specs.StepRules.{Rises, Collects, IsLast, Sees, Lives}

-- the record after TAKE of stripe i with this content, ALIVE that says yes, and LOOK
abbrev pub walked : Record → ℕ → Map → List Entry → ℕ → List Command → List Command → Record
walked v i m es last a b = looking (living (taking v i m es last a) true) b

-- TAKE, ALIVE, LOOK, TICKET, GIVE: the change is made, whose key is within the limit. The record grew by this call
-- alone, its position is past all that the pass had seen, and it is legal there.
pub record MakesCall (n : ℕ) (v : Record) (c : Command) (position : ℕ) (reply : reply_type.Reply)
    (w : Record) : Type 0 where
  pub part : Map
  pub outbox : List Entry
  pub last : ℕ
  pub taken : List Command
  pub looked : List Command
  pub drawn : List Command
  pub within : IsWithin v.opening.key_limit c
  pub below : reach (walked v (stripe_of n c.key) part outbox last taken looked) < ticket_limit
  pub is : w ≡ giving Nothing (drawing (walked v (stripe_of n c.key) part outbox last taken looked) drawn c)
  pub position_is : position ≡ reach w
  pub grew : w.calls ≡ v.calls ++ call position (Changing c) reply ∷ []
  pub later : reach v < position
  pub legal : IsLegalChange (history_of w) position c reply

-- TAKE, ALIVE, GIVE: the read is made. Its position is the greater of what the pass had seen and of one past the last
-- ticket of its stripe, and the pass has seen it from then on. So no change of that stripe lies between its last one
-- and the position.
pub record MakesRead (n : ℕ) (v : Record) (r : Read) (position : ℕ) (reply : reply_type.Reply)
    (w : Record) : Type 0 where
  pub part : Map
  pub outbox : List Entry
  pub last : ℕ
  pub taken : List Command
  pub between : List Command
  pub is : w ≡ answering r (living (taking v (stripe_of n r.key) part outbox last taken) true) between
  pub last_is : IsLast n (stripe_of n r.key) last (taking v (stripe_of n r.key) part outbox last taken)
  pub position_is : position ≡ max (reach v) last
  pub reached : position ≡ reach w
  pub grew : w.calls ≡ v.calls ++ call position (Reading r) reply ∷ []
  pub later : reach v ≤ position
  pub legal : IsLegalRead (history_of w) position r reply

-- TAKE, ALIVE, GIVE, of which it isn't told what the TAKE showed: the read is made and it is legal, at a position that
-- the pass has seen.
pub record ReadsAt (n : ℕ) (v : Record) (r : Read) (position : ℕ) (reply : reply_type.Reply) (w : Record) : Type 0 where
  pub part : Map
  pub outbox : List Entry
  pub last : ℕ
  pub taken : List Command
  pub between : List Command
  pub is : w ≡ answering r (living (taking v (stripe_of n r.key) part outbox last taken) true) between
  pub reached : position ≡ reach w
  pub grew : w.calls ≡ v.calls ++ call position (Reading r) reply ∷ []
  pub later : reach v ≤ position
  pub legal : IsLegalRead (history_of w) position r reply

-- the record after a TAKE of stripe i that found this content
pub record HasFound (v : Record) (i : ℕ) (content : Stripe) (w : Record) : Type 0 where
  pub between : List Command
  pub is : w ≡ taking v i content.part.map content.outbox.items content.last between

abbrev pub IsNotBusy : Refusal → Type 0
IsNotBusy e = (j : ℕ) → e ≡ Busy j → ⊥

-- TAKE, and ALIVE that says no
pub record FindsFailure (v : Record) (i : ℕ) (w : Record) : Type 0 where
  pub part : Map
  pub outbox : List Entry
  pub last : ℕ
  pub taken : List Command
  pub rises : Rises v (past outbox) (taking v i part outbox last taken)
  pub is : w ≡ living (taking v i part outbox last taken) false

-- TAKE, and ALIVE that says yes
pub record FindsNoFailure (v : Record) (i : ℕ) (w : Record) : Type 0 where
  pub part : Map
  pub outbox : List Entry
  pub last : ℕ
  pub taken : List Command
  pub rises : Rises v (past outbox) (taking v i part outbox last taken)
  pub is : w ≡ living (taking v i part outbox last taken) true

-- TAKE, and an ALIVE that said this; it isn't told what the TAKE showed
pub record FindsAlive (v : Record) (i : ℕ) (is_alive : Bool) (w : Record) : Type 0 where
  pub part : Map
  pub outbox : List Entry
  pub last : ℕ
  pub taken : List Command
  pub is : w ≡ living (taking v i part outbox last taken) is_alive

-- TAKE, ALIVE and LOOK
pub record LooksAround (v : Record) (i : ℕ) (w : Record) : Type 0 where
  pub part : Map
  pub outbox : List Entry
  pub last : ℕ
  pub taken : List Command
  pub looked : List Command
  pub is : w ≡ walked v i part outbox last taken looked

-- the stripe was given back as it was taken, and no call was added
pub record GivesBack (v : Record) (Before : Record → Type 0) (w : Record) : Type 0 where
  pub holder : Record
  pub before : Before holder
  pub is : w ≡ giving Nothing holder
  pub same_calls : w.calls ≡ v.calls

-- what a refused change on stripe i leaves: no call is added
abbrev pub RefusesChange : Record → ℕ → Refusal → Record → Type 0
RefusesChange v i (Busy j) w = (j ≡ i) × (w ≡ missing v i)
RefusesChange v i refusal_type.Failed w = GivesBack v (FindsFailure v i) w
RefusesChange v i TicketsSpent w = GivesBack v (LooksAround v i) w × (ticket_limit ≤ reach w)
RefusesChange v i NoMemory w = GivesBack v (LooksAround v i) w × (reach w < ticket_limit)
RefusesChange v i other w = ⊥

-- the change has a key above the limit: no step is made
pub record IsTooLong (v : Record) (c : Command) (e : Refusal) (w : Record) : Type 0 where
  pub longer : v.opening.key_limit < length c.key
  pub refusal_is : e ≡ KeyTooLong
  pub is : w ≡ v

-- what a refused call leaves that was to make this change on n stripes: its key is too long, or the change is refused
-- on its stripe
abbrev pub TurnsDown : ℕ → Record → Command → Refusal → Record → Type 0
TurnsDown n v c e w = IsTooLong v c e w ⊎ (IsWithin v.opening.key_limit c × RefusesChange v (stripe_of n c.key) e w)

-- what a refused read on stripe i leaves
abbrev pub RefusesRead : Record → ℕ → Refusal → Record → Type 0
RefusesRead v i (Busy j) w = (j ≡ i) × (w ≡ missing v i)
RefusesRead v i refusal_type.Failed w = GivesBack v (FindsFailure v i) w
RefusesRead v i NoMemory w = GivesBack v (FindsNoFailure v i) w
RefusesRead v i other w = ⊥

-- what a refused read leaves of a stripe that it has taken, if it isn't told what the TAKE showed
abbrev pub LeavesRead : Record → ℕ → Refusal → Record → Type 0
LeavesRead v i refusal_type.Failed w = GivesBack v (FindsAlive v i false) w
LeavesRead v i NoMemory w = GivesBack v (FindsAlive v i true) w
LeavesRead v i other w = ⊥

-- a SEE reached the position
pub record Reaches (p : ℕ) (v w : Record) : Type 0 where
  pub durable : ℕ
  pub sees : Sees v durable w
  pub reached : p ≤ durable

-- a SEE was below the position
pub record Misses (p : ℕ) (v w : Record) : Type 0 where
  pub durable : ℕ
  pub sees : Sees v durable w
  pub missed : durable < p

-- a SEE was below the position, and an ALIVE said this
pub record MissesAlive (p : ℕ) (is_alive : Bool) (v w : Record) : Type 0 where
  pub between : Record
  pub misses : Misses p v between
  pub lives : Lives between is_alive w

-- a SEE was below the position, an ALIVE said no, and a second SEE did this
pub record SeesAgain (p : ℕ) (v : Record) (Second : Record → Record → Type 0) (w : Record) : Type 0 where
  pub between : Record
  pub first : MissesAlive p false v between
  pub second : Second between w

-- what a release of this position and reply leaves, by its answer
abbrev pub Releases : ℕ → reply_type.Reply → Record → Released → Record → Type 0
Releases p x v (released.Reply q y) w = (q ≡ p) × (y ≡ x) × (Reaches p v w ⊎ SeesAgain p v (Reaches p) w)
Releases p x v (released.NotYet h) w = (h.position ≡ p) × (h.reply ≡ x) × MissesAlive p true v w
Releases p x v released.Failed w = SeesAgain p v (Misses p) w

-- TAKE, GIVE: a sweep of stripe i took its outbox, which are the entries
pub record SweepsStripe (n : ℕ) (v : Record) (i : ℕ) (entries : List Entry) (w : Record) : Type 0 where
  pub part : Map
  pub last : ℕ
  pub between : List Command
  pub is : w ≡ giving Sweep (taking v i part entries last between)
  pub rises : Rises v (past entries) w
  pub collects : Collects n i v entries w

-- TAKE
pub record HasTaken (v : Record) (i : ℕ) (w : Record) : Type 0 where
  pub part : Map
  pub outbox : List Entry
  pub last : ℕ
  pub taken : List Command
  pub rises : Rises v (past outbox) (taking v i part outbox last taken)
  pub is : w ≡ taking v i part outbox last taken

-- what a refused sweep of stripe i leaves
abbrev pub RefusesSweep : Record → ℕ → Refusal → Record → Type 0
RefusesSweep v i (Busy j) w = (j ≡ i) × (w ≡ missing v i)
RefusesSweep v i NoMemory w = GivesBack v (HasTaken v i) w
RefusesSweep v i other w = ⊥

-- TAKE, LOOK, GIVE: a capture of stripe i took its part at the mark
pub record CapturesStripe (n : ℕ) (v : Record) (i : ℕ) (mark : ℕ) (entries : List (List ℕ × Value))
    (w : Record) : Type 0 where
  pub part : Map
  pub outbox : List Entry
  pub last : ℕ
  pub taken : List Command
  pub looked : List Command
  pub is : w ≡ giving Capture (looking (taking v i part outbox last taken) looked)
  pub mark_is : mark ≡ reach w
  pub entries_are : entries ≡ finite.entries part
  pub few : length entries < 2 ^ 32
  pub legal : IsLegalSection n (history_of w) (record { stripe = i; mark = mark; part = part })

-- TAKE, LOOK
pub record HasLookedAt (v : Record) (i : ℕ) (w : Record) : Type 0 where
  pub part : Map
  pub outbox : List Entry
  pub last : ℕ
  pub taken : List Command
  pub looked : List Command
  pub is : w ≡ looking (taking v i part outbox last taken) looked

-- TAKE, LOOK: the part has too many entries for a section
pub record HasTooMany (v : Record) (i : ℕ) (w : Record) : Type 0 where
  pub at : HasLookedAt v i w
  pub many : 2 ^ 32 ≤ length (finite.entries at.part)

-- what a refused capture of stripe i leaves
abbrev pub RefusesCapture : Record → ℕ → Refusal → Record → Type 0
RefusesCapture v i (Busy j) w = (j ≡ i) × (w ≡ missing v i)
RefusesCapture v i NoMemory w = GivesBack v (HasLookedAt v i) w
RefusesCapture v i LogFull w = GivesBack v (HasTooMany v i) w
RefusesCapture v i other w = ⊥
