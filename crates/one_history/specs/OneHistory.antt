-- There is one history, of which each pass has seen a front and in which each recorded call is legal.
use Rattle.std.specs.Prelude.{◌≡◌, ◌≢◌, ℕ, ◌+◌, ◌<◌, ◌≤◌, ◌==◌, List, [], ◌∷◌, ◌++◌, length, Option, Some, None, Bool}
use Rattle.std.specs.Prelude.{true, false, if◌then◌else◌}
use Rattle.std.specs.List.{All, AllByRecursion, Contains}
use Rattle.map_types.specs.declared.commands.Command.{Command}
use Rattle.map_model.specs.Parts.{parts_of, union_of}
use Rattle.atomic_methods.specs.PartState.{PartState}
use Rattle.ticket_order.specs.declared.stripe.Entry.{Entry}
use Rattle.ticket_order.specs.declared.record.Opening.{Opening}
use Rattle.ticket_order.specs.declared.record.StepMade.{StepMade}
use Rattle.ticket_order.specs.declared.record.StepMade.TheVariants.{Took, FoundHeld, Saw, FoundAlive}
use Rattle.ticket_order.specs.declared.record.Asked.{Asked}
use Rattle.ticket_order.specs.declared.record.Asked.TheVariants.{Changing, Reading}
use Rattle.ticket_order.specs.declared.record.Call.{Call}
use Rattle.ticket_order.specs.declared.record.Holding.{Holding}
use Rattle.ticket_order.specs.declared.record.Record.{Record}
use Rattle.ticket_order.specs.Records.{IsWithin, reach}
use Rattle.ticket_order.specs.Legality.{history_of, IsLegalSection, IsContent, last_of}
use Rattle.ticket_order.specs.StepRules.{AllLegalCalls, AllLegalSections}
use Rattle.one_history.specs.declared.book.Book.{Book}
use Rattle.one_history.specs.declared.book.KeeperEffects.{KeeperEffects}
use Rattle.one_history.specs.Interleaving.{Words, words_at, AreFound, steps_by}
use Rattle.one_history.specs.Turns.{record_of, pass_step, words_of, maps_of}

-- the history begins with what was seen
pub record IsFront (seen h : List Command) : Type 0 where
  pub rest : List Command
  pub is : h ≡ seen ++ rest

-- the changes that the pass j made, each with its position; the first of the list has position q
unfoldable pub changes_by : ℕ → ℕ → List ℕ → List Command → List (ℕ × Command)
changes_by j q [] h = []
changes_by j q (a ∷ authors) [] = []
changes_by j q (a ∷ authors) (c ∷ h) =
    if a == j then (q, c) ∷ changes_by j (q + 1) authors h else changes_by j (q + 1) authors h

abbrev pub if_change : Asked → ℕ → List (ℕ × Command) → List (ℕ × Command)
if_change (Changing c) position rest = (position, c) ∷ rest
if_change (Reading r) position rest = rest

-- the changes among the calls, each with its position
unfoldable pub changes_in : List Call → List (ℕ × Command)
changes_in [] = []
changes_in (x ∷ xs) = if_change x.asked x.position (changes_in xs)

abbrev pub IsUpTo : ℕ → Call → Type 0
IsUpTo q x = x.position ≤ q

abbrev pub Follows : ℕ → Asked → ℕ → Type 0
Follows p (Changing c) q = p < q
Follows p (Reading r) q = p ≤ q

-- a change stands behind the position p, and a read there or behind it
abbrev pub StandsAfter : ℕ → Call → Type 0
StandsAfter p x = Follows p x.asked x.position

-- each call stands behind those before it
abbrev pub AreInOrder : List Call → Type 0
AreInOrder [] = Unit {0}
AreInOrder (x ∷ xs) = All (StandsAfter x.position) xs × AreInOrder xs

-- the keeper's record says what the keeper did; no other pass sweeps, publishes or fails
abbrev pub HasDone : Opening → KeeperEffects → Record → Bool → Type 0
HasDone o k v true = (v.taken ≡ k.taken) × (v.published ≡ k.durable) × (v.failed ≡ k.failed)
HasDone o k v false = (v.taken ≡ []) × (v.published ≡ o.first) × (v.failed ≡ false)

module _ (o : Opening) (n : ℕ) (h : List Command) (authors : List ℕ) (k : KeeperEffects) where
  -- A stripe that is held has the content that its holder's record says. If a LOOK under it found q changes, its part
  -- is that after them.
  pub record Holds (v : Record) (d : Holding) : Type 0 where
    pub within : d.stripe < n
    pub content : IsContent o n h k.taken d.stripe d.part d.outbox d.last
    pub looked : (q : ℕ) → d.looked ≡ Some q → IsLegalSection n (history_of v)
        (record { stripe = d.stripe; mark = q; part = d.part })

  -- the record v of the pass j
  pub record Knows (j : ℕ) (v : Record) : Type 0 where
    pub opening : v.opening ≡ o
    pub front : IsFront v.seen h
    pub changes : changes_in v.calls ≡ changes_by j (o.first + 1) authors h
    pub calls : AllLegalCalls v v.calls
    pub order : AreInOrder v.calls
    pub seen : All (IsUpTo (reach v)) v.calls
    pub sections : AllLegalSections n v v.sections
    pub keeper : v.keeper ≡ (j == k.keeper)
    pub done : HasDone o k v v.keeper
    pub held : (d : Holding) → v.holding ≡ Some d → Holds v d

-- The words hold what the history and the effects say. One past the last ticket drawn on a stripe is one past the
-- greatest ticket of the changes of its keys.
pub record AreOf (b : Book) (w : Words) : Type 0 where
  pub tickets : w.tickets ≡ b.opening.first + length b.history
  pub durable : w.durable ≡ b.effects.durable
  pub failed : w.failed ≡ b.effects.failed
  pub lasts : (i : ℕ) → i < b.stripes → w.lasts i ≡ last_of b.stripes i b.opening.first b.history

-- Each change of the history is a pass's and has a key within the limit, and the records of all passes agree with it.
-- The steps that they recorded are those of one interleaving, in which each step finds what the steps before it left in
-- the words.
pub record IsOneHistory (b : Book) : Type 0 where
  pub authors : length b.authors ≡ length b.history
  pub by_passes : All (λ j. j < length b.passes) b.authors
  pub keeper : b.effects.keeper < length b.passes
  pub begun : b.opening.first ≤ b.effects.durable
  pub reached : b.effects.durable ≤ b.opening.first + length b.history
  pub passes : (j : ℕ) → j < length b.passes → Knows b.opening b.stripes b.history b.authors b.effects j (record_of j b)
  pub steps : (j : ℕ) → (record_of j b).steps ≡ steps_by j b.interleaving
  pub found : AreFound (words_at b.opening) b.interleaving
  pub words : AreOf b (words_of b)
  pub within : All (IsWithin b.opening.key_limit) b.history

-- another pass than j took the stripe
pub record IsTakenByAnother (b : Book) (j i : ℕ) : Type 0 where
  pub taker : ℕ
  pub outbox : List Entry
  pub last : ℕ
  pub apart : taker ≢ j
  pub took : Contains b.interleaving (pass_step taker (Took i outbox last))

-- What stays so once the pass j made this step. A SEE found no more than the durable count. An ALIVE says no only after
-- a FAIL. A TAKE finds its stripe held only after another pass took it.
abbrev pub StaysSo : Book → ℕ → StepMade → Type 0
StaysSo b j (Saw d) = d ≤ b.effects.durable
StaysSo b j (FoundAlive is_alive) = is_alive ≡ false → b.effects.failed ≡ true
StaysSo b j (FoundHeld i) = IsTakenByAnother b j i
StaysSo b j step = Unit {0}

-- the stripe that is held
abbrev pub stripe_in : Option Holding → Option ℕ
stripe_in None = None
stripe_in (Some d) = Some d.stripe

-- the pass j holds the stripe i
pub record HoldsStripe (b : Book) (j i : ℕ) : Type 0 where
  pub within : j < length b.passes
  pub has : stripe_in (record_of j b).holding ≡ Some i

-- no two passes hold one stripe
abbrev pub HoldApart : Book → Type 0
HoldApart b = (i j l : ℕ) → HoldsStripe b j i → HoldsStripe b l i → j ≡ l

-- the bins of each part are chosen by the bits of the hash that are left of those that chose its stripe, of n stripes
abbrev pub AreLaid : ℕ → List PartState → Type 0
AreLaid n parts = AllByRecursion (λ (p : PartState). p.growth.stripes ≡ n) parts

-- part s has the keys of stripe s, of n stripes, alone, and bins for them
pub record AreParts (n : ℕ) (parts : List PartState) : Type 0 where
  pub own : maps_of parts ≡ parts_of n (union_of (maps_of parts))
  pub laid : AreLaid n parts
