-- What a change that is under way makes of the growth of the part that it holds.
use Rattle.std.specs.Prelude.{◌≡◌}
use Rattle.atomic_methods.specs.PartState.{PartState, HasGrown}
use Rattle.ticket_order.specs.declared.change_walk.ChangeStage.{ChangeStage}
use Rattle.ticket_order.specs.declared.change_walk.ChangeStage.TheVariants as change
use Rattle.ticket_order.specs.declared.walk.Stage.{Stage}
use Rattle.ticket_order.specs.declared.walk.Stage.TheVariants as stage
use Rattle.ticket_order.specs.declared.walk.Stepped.{Stepped}
use Rattle.ticket_order.specs.declared.walk.Stepped.TheVariants as stepped

-- the part that a change holds still has this one's growth
abbrev pub KeepsGrowth : PartState → Stage → Type 0
KeepsGrowth p (stage.Change (change.IsAlive new t)) = t.content.part.growth ≡ p.growth
KeepsGrowth p (stage.Change (change.HasDrawn t h)) = t.content.part.growth ≡ p.growth
KeepsGrowth p (stage.GivingBack t e) = t.content.part.growth ≡ p.growth
KeepsGrowth p s = Unit {0}

-- a change that has its memory has helped the growth once
abbrev pub HelpsGrowth : PartState → Stage → Type 0
HelpsGrowth p (stage.Change (change.IsReady new t prepared)) = HasGrown p t.content.part
HelpsGrowth p s = KeepsGrowth p s

-- a step of a change helps the growth of the part that it holds as it gets its memory, and leaves it otherwise
abbrev pub GrowsOnce : ChangeStage → Stepped → Type 0
GrowsOnce (change.HasTaken new t) (stepped.More w) = KeepsGrowth t.content.part w.stage
GrowsOnce (change.IsAlive new t) (stepped.More w) = HelpsGrowth t.content.part w.stage
GrowsOnce (change.IsReady new t prepared) (stepped.More w) = KeepsGrowth t.content.part w.stage
GrowsOnce s end = Unit {0}
