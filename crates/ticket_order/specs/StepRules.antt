-- What each step asks of the record of its pass, and what it leaves.
use Rattle.std.specs.Prelude.{◌≡◌, ℕ, ◌+◌, ◌^◌, ◌<◌, ◌≤◌, ◌⊎◌, List, [], ◌∷◌, ◌++◌, length, Option, Some, None, Bool}
use Rattle.std.specs.Prelude.{true, false, not}
use Rattle.std.specs.List.{All}
use Rattle.java_hash.specs.Stripes.{stripe_of}
use Rattle.map_types.specs.declared.commands.Command.{Command}
use Rattle.map_types.specs.declared.commands.Read.{Read}
use Rattle.map_model.specs.Steps.{step, answer}
use Rattle.map_model.specs.Histories.{IsLegalChange, IsLegalRead}
use Rattle.ticket_order.specs.declared.stripe.Entry.{Entry}
use Rattle.ticket_order.specs.declared.stripe.Stripe.{Stripe}
use Rattle.ticket_order.specs.declared.record.Purpose.{Purpose}
use Rattle.ticket_order.specs.declared.record.Purpose.TheVariants.{Nothing, Answer, Sweep, Capture}
use Rattle.ticket_order.specs.declared.record.StepMade.{StepMade}
use Rattle.ticket_order.specs.declared.record.StepMade.TheVariants.{Took, FoundHeld}
use Rattle.ticket_order.specs.declared.record.Call.{Call}
use Rattle.ticket_order.specs.declared.record.Section.{Section}
use Rattle.ticket_order.specs.declared.record.Holding.{Holding}
use Rattle.ticket_order.specs.declared.record.Record.{Record}
use Rattle.ticket_order.specs.Records.{IsWithin, reach, past, missing, taking, looking, drawing, giving, answering}
use Rattle.ticket_order.specs.Records.{publishing, seeing, failing, living, part_held, last_held, sections_for}
use Rattle.ticket_order.specs.Records.{outbox_for}
use Rattle.ticket_order.specs.Legality.{history_of, IsLegalCall, IsLegalSection, entries_from, entries_of, last_of}

-- What made the steps between is the same pass, over as many stripes.
abbrev pub IsOfSamePass : {S : Type 0} → (S → List ℕ) → (S → ℕ) → S → S → Type 0
IsOfSamePass place stripe_count before after =
    (place after ≡ place before) × (stripe_count after ≡ stripe_count before)

-- the greatest position seen becomes n if it was less, and stays if it wasn't
abbrev pub Rises : Record → ℕ → Record → Type 0
Rises v n w = ((n ≤ reach v) × (reach w ≡ reach v)) ⊎ ((reach v ≤ n) × (reach w ≡ n))

-- What the keeper's sweeps took of stripe i, and then the outbox that it took now, are all entries of that stripe in a
-- history. That history begins with what the keeper has seen, and has no key above the limit.
pub record Collects (n i : ℕ) (v : Record) (outbox : List Entry) (w : Record) : Type 0 where
  pub more : List Command
  pub is : entries_of n i v.taken ++ outbox ≡ entries_of n i (entries_from v.opening.first (w.seen ++ more))
  pub within : All (IsWithin v.opening.key_limit) (w.seen ++ more)

-- `last` is that of stripe i of n in a history that begins with what the pass has seen
pub record IsLast (n i last : ℕ) (v : Record) : Type 0 where
  pub more : List Command
  pub is : last ≡ last_of n i v.opening.first (v.seen ++ more)

-- an outbox with entries ends with the last ticket of its stripe
abbrev pub EndsAt : List Entry → ℕ → Type 0
EndsAt es last = (es ≡ []) ⊎ (past es ≡ last)

-- the stripe was free, and had this content
pub record TakesStripe (n : ℕ) (v : Record) (i : ℕ) (content : Stripe) (w : Record) : Type 0 where
  pub between : List Command
  pub is : w ≡ taking v i content.part.map content.outbox.items content.last between
  pub rises : Rises v (past content.outbox.items) w
  pub collects : v.keeper ≡ true → Collects n i v content.outbox.items w
  pub last : IsLast n i content.last w
  pub ends : EndsAt content.outbox.items content.last

-- TAKE
abbrev pub Takes : ℕ → Record → ℕ → Option Stripe → Record → Type 0
Takes n v i None w = w ≡ missing v i
Takes n v i (Some content) w = TakesStripe n v i content w

-- the name of a TAKE with what it found
abbrev pub take_made : ℕ → Option Stripe → StepMade
take_made i None = FoundHeld i
take_made i (Some content) = Took i content.outbox.items content.last

-- LOOK: the count of tickets, all of which the pass has then seen
pub record Looks (v : Record) (q : ℕ) (w : Record) : Type 0 where
  pub between : List Command
  pub is : w ≡ looking v between
  pub count_is : q ≡ reach w

-- TICKET may be made for the change c: its key is within the limit, the stripe of its key is held, no ticket was drawn
-- for it, and the count of tickets was seen below its limit
pub record MayDraw (n : ℕ) (v : Record) (c : Command) : Type 0 where
  pub within : IsWithin v.opening.key_limit c
  pub held : Holding
  pub holding : v.holding ≡ Some held
  pub stripe_is : stripe_of n c.key ≡ held.stripe
  pub undrawn : held.has_drawn ≡ false
  pub fresh : v.fresh ≡ true

-- TICKET: the change stands at the end of the history, with the reply of one thread there
pub record Draws (v : Record) (c : Command) (t : ℕ) (w : Record) : Type 0 where
  pub between : List Command
  pub is : w ≡ drawing v between c
  pub ticket_is : t ≡ v.opening.first + length (v.seen ++ between)
  pub legal : IsLegalChange (history_of w) (t + 1) c (step (part_held v.holding) c).reply
  pub small : t < 2 ^ 63

abbrev pub HasLooked : Holding → Type 0
HasLooked d = (q : ℕ) × (d.looked ≡ Some q)

-- A stripe may be given back for a read of a key of its own, and for a capture after a LOOK. It may be given back for a
-- sweep by the keeper if no ticket was drawn.
abbrev pub Suits : ℕ → Record → Holding → Purpose → Type 0
Suits n v d Nothing = Unit {0}
Suits n v d (Answer r) = stripe_of n r.key ≡ d.stripe
Suits n v d Sweep = (v.keeper ≡ true) × (d.has_drawn ≡ false)
Suits n v d Capture = HasLooked d

-- GIVE of this content may be made: it is what the record says
pub record MayGive (n : ℕ) (v : Record) (i : ℕ) (content : Stripe) (p : Purpose) : Type 0 where
  pub held : Holding
  pub holding : v.holding ≡ Some held
  pub stripe_is : held.stripe ≡ i
  pub part_is : content.part.map ≡ held.part
  pub outbox_is : content.outbox.items ≡ outbox_for p held
  pub last_is : content.last ≡ held.last
  pub suits : Suits n v held p

abbrev pub AllLegalCalls : Record → List Call → Type 0
AllLegalCalls v [] = Unit {0}
AllLegalCalls v (x ∷ xs) = IsLegalCall (history_of v) x × AllLegalCalls v xs

abbrev pub AllLegalSections : ℕ → Record → List Section → Type 0
AllLegalSections n v [] = Unit {0}
AllLegalSections n v (x ∷ xs) = IsLegalSection n (history_of v) x × AllLegalSections n v xs

-- GIVE that makes no read: the section that it keeps is legal
pub record GivesStripe (n : ℕ) (p : Purpose) (v w : Record) : Type 0 where
  pub is : w ≡ giving p v
  pub sections : AllLegalSections n v (sections_for p v.holding)

-- GIVE that makes the read r. The read's position is the greater of what the pass had seen and of one past the last
-- ticket of the stripe, and the pass has seen it from then on. The read is legal there.
pub record Answers (r : Read) (v w : Record) : Type 0 where
  pub between : List Command
  pub is : w ≡ answering r v between
  pub rises : Rises v (last_held v.holding) w
  pub legal : IsLegalRead (history_of w) (reach w) r (answer (part_held v.holding) r)

-- GIVE
abbrev pub Gives : ℕ → Purpose → Record → Record → Type 0
Gives n (Answer r) v w = Answers r v w
Gives n p v w = GivesStripe n p v w

-- DURABLE may be made with the number x: by the keeper, before it fails, with a number that it has seen
pub record MayPublish (v : Record) (x : ℕ) : Type 0 where
  pub keeper : v.keeper ≡ true
  pub seen : x ≤ reach v
  pub unfailed : v.failed ≡ false

-- DURABLE
abbrev pub Publishes : Record → ℕ → Record → Type 0
Publishes v x w = w ≡ publishing v x

-- SEE: the durable count, up to which the pass has then seen; it is never below what the pass itself has published
pub record Sees (v : Record) (d : ℕ) (w : Record) : Type 0 where
  pub between : List Command
  pub is : w ≡ seeing v d between
  pub published : v.published ≤ d
  pub rises : Rises v d w

-- FAIL
abbrev pub Fails : Record → Record → Type 0
Fails v w = w ≡ failing v

-- ALIVE; the keeper's says no exactly if it has failed
pub record Lives (v : Record) (is_alive : Bool) (w : Record) : Type 0 where
  pub is : w ≡ living v is_alive
  pub by_keeper : v.keeper ≡ true → is_alive ≡ not v.failed
