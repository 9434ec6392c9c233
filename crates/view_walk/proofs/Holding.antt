-- When a walk over the parts holds no stripe.
use Rattle.std.proofs.Common.{ℕ, ◌≡◌, List, None}
use Rattle.map_types.specs.declared.refusals.Refusal.{Refusal}
use Rattle.map_types.specs.declared.refusals.Refusal.TheVariants as refusal
use Rattle.ticket_order.specs.declared.record.Record.{Record}
use Rattle.ticket_order.specs.declared.record.Section.{Section}
use Rattle.view_walk.specs.declared.parts.PartsWalk.{PartsWalk}
use Rattle.view_walk.specs.declared.parts.Stage.{Stage}
use Rattle.view_walk.specs.declared.parts.Stage.TheVariants as stage
use Rattle.view_walk.specs.declared.awaiting.Awaiting.{Awaiting}
use Rattle.view_walk.specs.declared.awaiting.Awaiting.TheVariants.{Seeing, HasMissed, FoundFailure}
use Rattle.view_walk.specs.Walking.{Fits, FitsAwaiting, FitsStage, HoldsNone, Refuses, greatest_mark, next_kind, next_of_stage}
use Rattle.view_walk.proofs.Growing.{all_missed, all_missed_dead}

free_while_awaiting : (n : ℕ) (b : Record) (xs : List Section) (awaiting : Awaiting) (p : Record) → FitsAwaiting n b xs awaiting p → p.holding ≡ None
free_while_awaiting n b xs Seeing p k = k.empty_handed
free_while_awaiting n b xs HasMissed p k = (all_missed n b p xs (greatest_mark xs) k).empty_handed
free_while_awaiting n b xs FoundFailure p k = (all_missed_dead n b p xs (greatest_mark xs) k).empty_handed

free_at : (n : ℕ) (b : Record) (xs : List Section) (s : Stage) (p : Record) (i : ℕ) → FitsStage n b xs s p → HoldsNone (next_of_stage i s) → p.holding ≡ None
free_at n b xs stage.Taking p i k none = k.1
free_at n b xs (stage.HasTaken content) p i k none = absurd none
free_at n b xs (stage.Lending content mark) p i k none = absurd none
free_at n b xs (stage.GivingBack content) p i k none = absurd none
free_at n b xs (stage.Awaiting awaiting) p i k none = free_while_awaiting n b xs awaiting p k

-- between two steps
pub free_between : (n : ℕ) (b : Record) (xs : List Section) (walk : PartsWalk) (p : Record) → Fits n b xs walk p → HoldsNone (next_kind walk) → p.holding ≡ None
free_between n b xs walk p k none = free_at n b xs walk.stage p _ k.stands none

-- behind a refusal
pub free_after_refusal : (n : ℕ) (b : Record) (xs : List Section) (e : Refusal) (w : Record) → Refuses n b xs e w → w.holding ≡ None
free_after_refusal n b xs refusal.NoMemory w k = k.empty_handed
free_after_refusal n b xs refusal.Failed w k = k.all.empty_handed
free_after_refusal n b xs e w k = absurd k
