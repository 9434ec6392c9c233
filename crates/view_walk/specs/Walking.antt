-- Where a walk over the parts of all stripes stands: what the record of its pass has gained since the walk began.
use Rattle.std.specs.Prelude.{◌≡◌, ℕ, ◌+◌, ◌≤◌, ◌<◌, List, [], ◌∷◌, ◌++◌, length, fold, max, Option, Some, None, false}
use Rattle.std.specs.Prelude.{Result, Ok, Err}
use Rattle.atomic_methods.specs.PartState.{PartState}
use Rattle.map_types.specs.declared.commands.Command.{Command}
use Rattle.map_types.specs.declared.refusals.Refusal.{Refusal}
use Rattle.map_types.specs.declared.refusals.Refusal.TheVariants as refusal
use Rattle.ticket_order.specs.declared.stripe.Stripe.{Stripe}
use Rattle.ticket_order.specs.declared.record.StepMade.{StepMade}
use Rattle.ticket_order.specs.declared.record.StepMade.TheVariants.{Gave}
use Rattle.ticket_order.specs.declared.record.Section.{Section}
use Rattle.ticket_order.specs.declared.record.Record.{Record}
use Rattle.ticket_order.specs.Records.{reach}
use Rattle.ticket_order.specs.StepRules.{AllLegalSections}
use Rattle.ticket_order.specs.Calls.{Reaches, Misses, MissesAlive, SeesAgain}
use Rattle.ticket_order.specs.Walks.{Kind, Take, Give, Look, See, Alive}
use Rattle.view_walk.specs.declared.parts.PartsWalk.{PartsWalk}
use Rattle.view_walk.specs.declared.parts.Stage.{Stage}
use Rattle.view_walk.specs.declared.parts.Stage.TheVariants as stage
use Rattle.view_walk.specs.declared.awaiting.Awaiting.{Awaiting}
use Rattle.view_walk.specs.declared.awaiting.Awaiting.TheVariants.{Seeing, HasMissed, FoundFailure}
use Rattle.view_walk.specs.declared.parts.PartsWalked.{PartsWalked}
use Rattle.view_walk.specs.declared.parts.PartsWalked.TheVariants.{More, Done}

-- ---- sections

-- the greatest of the marks, or 0 if there is none
abbrev pub greatest_mark : List Section → ℕ
greatest_mark xs = fold (λ (q : ℕ) (x : Section). max q x.mark) 0 xs

-- the marks don't fall, from low to high
abbrev pub Rising : ℕ → List Section → ℕ → Type 0
Rising low [] high = low ≤ high
Rising low (x ∷ xs) high = (low ≤ x.mark) × Rising x.mark xs high

-- they are those of the stripes from i on, one of each in turn
abbrev pub AreInTurn : ℕ → List Section → Type 0
AreInTurn i [] = Unit {0}
AreInTurn i (x ∷ xs) = (x.stripe ≡ i) × AreInTurn (i + 1) xs

-- From b to p the record gained steps, a longer front of the history, and these sections of stripes 0, 1 and so on.
-- Their marks don't fall, are at least what was seen at b, and at most what is seen at p. It gained nothing else.
pub record Gains (n : ℕ) (b : Record) (xs : List Section) (p : Record) : Type 0 where
  pub made : List StepMade
  pub more : List Command
  pub steps_are : p.steps ≡ b.steps ++ made
  pub seen_is : p.seen ≡ b.seen ++ more
  pub sections_are : p.sections ≡ b.sections ++ xs
  pub in_turn : AreInTurn 0 xs
  pub legal : AllLegalSections n p xs
  pub rising : Rising (reach b) xs (reach p)
  pub opening : p.opening ≡ b.opening
  pub calls : p.calls ≡ b.calls
  pub keeper : p.keeper ≡ b.keeper
  pub taken : p.taken ≡ b.taken
  pub published : p.published ≡ b.published
  pub failed : p.failed ≡ b.failed
  pub enrolled : p.enrolled ≡ b.enrolled
  pub passes : p.passes ≡ b.passes

-- each stripe was lent and given back
pub record GainsAll (n : ℕ) (b : Record) (xs : List Section) (p : Record) : Type 0 where
  pub gains : Gains n b xs p
  pub empty_handed : p.holding ≡ None
  pub whole : length xs ≡ n

-- each was, and since then this was done
pub record After (n : ℕ) (b : Record) (xs : List Section) (Since : Record → Record → Type 0)
    (p : Record) : Type 0 where
  pub between : Record
  pub all : GainsAll n b xs between
  pub since : Since between p

-- ---- a walk

-- the stripe i is held with this content, of which no ticket was drawn
abbrev pub Holds : ℕ → Stripe → Option ℕ → Record → Type 0
Holds i content looked p = p.holding ≡ Some
    (record {
      stripe = i;
      part = content.part.map;
      outbox = content.outbox.items;
      last = content.last;
      has_drawn = false;
      looked = looked;
    })

-- the stripe that follows those of the sections is held so
pub record HoldsNext (n : ℕ) (b : Record) (xs : List Section) (content : Stripe) (looked : Option ℕ)
    (p : Record) : Type 0 where
  pub gains : Gains n b xs p
  pub holds : Holds (length xs) content looked p
  pub within : length xs < n

abbrev pub FitsAwaiting : ℕ → Record → List Section → Awaiting → Record → Type 0
FitsAwaiting n b xs Seeing p = GainsAll n b xs p
FitsAwaiting n b xs HasMissed p = After n b xs (Misses (greatest_mark xs)) p
FitsAwaiting n b xs FoundFailure p = After n b xs (MissesAlive (greatest_mark xs) false) p

abbrev pub FitsStage : ℕ → Record → List Section → Stage → Record → Type 0
FitsStage n b xs stage.Taking p = Gains n b xs p × (p.holding ≡ None) × (length xs < n)
FitsStage n b xs (stage.HasTaken content) p = HoldsNext n b xs content None p
FitsStage n b xs (stage.Lending content mark) p = HoldsNext n b xs content (Some (reach p)) p × (mark ≡ reach p)
FitsStage n b xs (stage.GivingBack content) p = HoldsNext n b xs content (Some (reach p)) p
FitsStage n b xs (stage.Awaiting awaiting) p = FitsAwaiting n b xs awaiting p

-- The walk over the parts of n stripes, which began at the record b, stands at the record p. These are the sections of
-- the stripes that it has given back.
pub record Fits (n : ℕ) (b : Record) (xs : List Section) (walk : PartsWalk) (p : Record) : Type 0 where
  pub count_is : walk.count ≡ length xs
  pub greatest_is : walk.greatest ≡ greatest_mark xs
  pub stands : FitsStage n b xs walk.stage p

abbrev pub lent_at : Stage → Option (ℕ × PartState)
lent_at (stage.Lending content mark) = Some (mark, content.part)
lent_at other = None

-- the part that is lent, with its mark
abbrev pub lent_part : PartsWalk → Option (ℕ × PartState)
lent_part walk = lent_at walk.stage

abbrev pub sections_of : ℕ → Option (ℕ × PartState) → List Section
sections_of i None = []
sections_of i (Some lent) = record { stripe = i; mark = lent.0; part = lent.1.map } ∷ []

-- the section that the next step keeps, if a part is lent
abbrev pub lent_sections : PartsWalk → List Section
lent_sections walk = sections_of walk.count (lent_part walk)

abbrev pub given_back_at : Stage → Stage
given_back_at (stage.Lending content mark) = stage.GivingBack content
given_back_at other = other

-- the walk, but a stripe whose part is lent goes back as it was taken
abbrev pub given_back : PartsWalk → PartsWalk
given_back walk = record walk { stage = given_back_at walk.stage }

-- ---- a step

abbrev pub next_of_awaiting : Awaiting → Kind
next_of_awaiting Seeing = See
next_of_awaiting HasMissed = Alive
next_of_awaiting FoundFailure = See

-- the kind of the next step, once k stripes were given back
abbrev pub next_of_stage : ℕ → Stage → Kind
next_of_stage k stage.Taking = Take k
next_of_stage k (stage.HasTaken content) = Look
next_of_stage k (stage.Lending content mark) = Give k
next_of_stage k (stage.GivingBack content) = Give k
next_of_stage k (stage.Awaiting awaiting) = next_of_awaiting awaiting

-- the kind of the step that the walk makes next
abbrev pub next_kind : PartsWalk → Kind
next_kind walk = next_of_stage walk.count walk.stage

-- a walk whose next step is of this kind holds no stripe
abbrev pub HoldsNone : Kind → Type 0
HoldsNone (Take i) = Unit {0}
HoldsNone See = Unit {0}
HoldsNone Alive = Unit {0}
HoldsNone kind = ⊥

-- the stripe that a step of this kind takes
abbrev pub stripe_of_take : Kind → Option ℕ
stripe_of_take (Take i) = Some i
stripe_of_take kind = None

abbrev pub awaited_at : ℕ → Stage → Option ℕ
awaited_at greatest (stage.Awaiting HasMissed) = Some greatest
awaited_at greatest other = None

-- the greatest mark, if a SEE was below it and ALIVE is next
abbrev pub mark_awaited : PartsWalk → Option ℕ
mark_awaited walk = awaited_at walk.greatest walk.stage

-- a SEE reached the greatest mark
pub record IsDone (n : ℕ) (b : Record) (xs : List Section) (w : Record) : Type 0 where
  pub all : GainsAll n b xs w
  pub durable : After n b xs (λ p q. Reaches (greatest_mark xs) p q) w

-- what the GIVE of a stripe that goes back as it was taken leaves
pub record IsStarved (n : ℕ) (b : Record) (xs : List Section) (w : Record) : Type 0 where
  pub gains : Gains n b xs w
  pub within : length xs < n
  pub empty_handed : w.holding ≡ None
  pub given : (before : List StepMade) × (w.steps ≡ before ++ Gave (length xs) ∷ [])

-- after a SEE below the greatest mark, ALIVE said no, and a second SEE was below it too
pub record IsFailed (n : ℕ) (b : Record) (xs : List Section) (w : Record) : Type 0 where
  pub all : GainsAll n b xs w
  pub failed : After n b xs (λ p q. SeesAgain (greatest_mark xs) p (Misses (greatest_mark xs)) q) w

-- it is refused for want of memory or for a failure alone
abbrev pub Refuses : ℕ → Record → List Section → Refusal → Record → Type 0
Refuses n b xs refusal.NoMemory w = IsStarved n b xs w
Refuses n b xs refusal.Failed w = IsFailed n b xs w
Refuses n b xs e w = ⊥

-- what a step leaves, if these are the sections that were kept by then
abbrev pub Next : ℕ → Record → List Section → Result PartsWalked Refusal → Record → Type 0
Next n b xs (Ok (More walk)) w = Fits n b xs walk w
Next n b xs (Ok Done) w = IsDone n b xs w
Next n b xs (Err e) w = Refuses n b xs e w
