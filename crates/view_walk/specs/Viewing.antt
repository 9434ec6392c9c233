-- Where the walk of a view stands: what the record of its pass has gained since the walk began, and what was copied.
use Rattle.std.specs.Prelude.{◌≡◌, ℕ, List, [], ◌∷◌, ◌++◌, Option, Result, Ok, Err}
use Rattle.std.specs.FinMap as finite
use Rattle.map_types.specs.declared.refusals.Refusal.{Refusal}
use Rattle.ticket_order.specs.declared.record.Section.{Section}
use Rattle.ticket_order.specs.declared.record.Record.{Record}
use Rattle.ticket_order.specs.Calls.{Reaches}
use Rattle.ticket_order.specs.Walks.{Kind}
use Rattle.view_walk.specs.declared.walk.Captured.{Captured}
use Rattle.view_walk.specs.declared.walk.ViewWalk.{ViewWalk}
use Rattle.view_walk.specs.declared.walk.Viewed.{Viewed}
use Rattle.view_walk.specs.declared.walk.Viewed.TheVariants.{More, Done}
use Rattle.view_walk.specs.Walking as walking
use Rattle.view_walk.specs.Walking.{After, GainsAll, Refuses, greatest_mark, lent_sections}

-- these are the marks and the entries of the sections
abbrev pub Shows : List Captured → List Section → Type 0
Shows [] [] = Unit {0}
Shows [] (x ∷ xs) = ⊥
Shows (z ∷ zs) [] = ⊥
Shows (z ∷ zs) (x ∷ xs) = (z.mark ≡ x.mark) × (z.entries.items ≡ finite.entries x.part) × Shows zs xs

-- each stripe was captured and given back
pub record ViewsAll (n : ℕ) (b : Record) (zs : List Captured) (p : Record) : Type 0 where
  pub sections : List Section
  pub all : GainsAll n b sections p
  pub shows : Shows zs sections

-- The walk of a view of n stripes, which began at the record b, stands at the record p. What was captured are the
-- sections of the stripes that it has given back, and then that of the stripe whose part is lent.
pub record Fits (n : ℕ) (b : Record) (walk : ViewWalk) (p : Record) : Type 0 where
  pub sections : List Section
  pub parts : walking.Fits n b sections walk.parts p
  pub shows : Shows walk.captured.items (sections ++ lent_sections walk.parts)

-- the kind of the step that the walk makes next
abbrev pub next_kind : ViewWalk → Kind
next_kind walk = walking.next_kind walk.parts

-- the greatest mark, if a SEE was below it and ALIVE is next
abbrev pub mark_awaited : ViewWalk → Option ℕ
mark_awaited walk = walking.mark_awaited walk.parts

-- a SEE reached the greatest mark
pub record IsDone (n : ℕ) (b : Record) (zs : List Captured) (w : Record) : Type 0 where
  pub views : ViewsAll n b zs w
  pub durable : After n b views.sections (λ p q. Reaches (greatest_mark views.sections) p q) w

-- What a step leaves. It is refused for want of memory or for a failure alone.
abbrev pub Next : ℕ → Record → Result Viewed Refusal → Record → Type 0
Next n b (Ok (More walk)) w = Fits n b walk w
Next n b (Ok (Done zs)) w = IsDone n b zs.items w
Next n b (Err e) w = (xs : List Section) × Refuses n b xs e w
