-- What callers see of a running map.
use Rattle.std.specs.Prelude.{◌≡◌, ℕ, List, None, Result, Ok, Err}
use Rattle.std.specs.Arc.{arc_value}
use Rattle.map_types.specs.declared.refusals.Refusal.{Refusal}
use Rattle.ticket_order.specs.declared.record.Opening.{Opening}
use Rattle.ticket_order.specs.Walks.{Kind}
use Rattle.view_walk.specs.declared.parts.PartsWalked.{PartsWalked}
use Rattle.view_walk.specs.declared.parts.PartsWalked.TheVariants as walked
use Rattle.view_walk.specs.declared.walk.Viewed.{Viewed}
use Rattle.view_walk.specs.declared.walk.Viewed.TheVariants.{More, Done}
use Rattle.view_walk.specs.Walking as walking
use Rattle.view_walk.specs.Walking.{HoldsNone}
use Rattle.view_walk.specs.Viewing.{next_kind}
use Rattle.stripe_locks.specs.Passes as shared
use Rattle.stripe_locks.specs.Passes.{begun_with, recorded}
use Rattle.stripe_locks.specs.Holding as holding
use Rattle.stripe_locks.specs.declared.held.Held.{Held}
use Rattle.stripe_locks.specs.declared.held.Released.{Released}
use Rattle.stripe_locks.specs.declared.rule.Pass.{Pass}
use Rattle.durable_map.specs.declared.map.DurableMap.{DurableMap}

-- how many stripes it has
abbrev pub stripe_count : {D : Type 0} → DurableMap D → ℕ
stripe_count map = shared.stripe_count (arc_value map.stripes)

-- where its history begins
abbrev pub opening_of : {D : Type 0} → DurableMap D → Opening
opening_of map = begun_with (arc_value map.stripes)

-- the pass comes from this map
abbrev pub IsPassOf : {D : Type 0} → DurableMap D → Pass → Type 0
IsPassOf map pass = shared.IsPassOf (arc_value map.stripes) pass

-- it does, and holds no stripe
pub record IsReady {D : Type 0} (map : DurableMap D) (pass : Pass) : Type 0 where
  pub own : IsPassOf map pass
  pub free : (recorded pass).holding ≡ None

-- The pass of a view whose next step is of this kind comes from this map, and is ready if the view holds no stripe.
abbrev pub IsReadyFor : {D : Type 0} → DurableMap D → Kind → Pass → Type 0
IsReadyFor map kind pass = IsPassOf map pass × (HoldsNone kind → IsReady map pass)

-- The pass of a view comes from this map. It is ready once the view has ended, and between two steps if the view holds
-- no stripe.
abbrev pub LeavesReady : {D : Type 0} → DurableMap D → Result Viewed Refusal → Pass → Type 0
LeavesReady map (Ok (More walk)) pass = IsReadyFor map (next_kind walk) pass
LeavesReady map (Ok (Done captured)) pass = IsReady map pass
LeavesReady map (Err refusal) pass = IsReady map pass

-- the same of a walk over the parts
abbrev pub PartsLeaveReady : {D : Type 0} → DurableMap D → Result PartsWalked Refusal → Pass → Type 0
PartsLeaveReady map (Ok (walked.More walk)) pass = IsReadyFor map (walking.next_kind walk) pass
PartsLeaveReady map (Ok walked.Done) pass = IsReady map pass
PartsLeaveReady map (Err refusal) pass = IsReady map pass

-- a pass of this map made the call whose reply is held
abbrev pub IsHeldOf : {D : Type 0} → DurableMap D → Held → Type 0
IsHeldOf map held = holding.IsHeldOf (arc_value map.stripes) held

-- the numbers that tell this map's shared words from those of all others
abbrev pub name_of_words : {D : Type 0} → DurableMap D → List ℕ
name_of_words map = holding.name_of_words (arc_value map.stripes)

-- a reply that is still held is one of this map
abbrev pub StaysHeldOf : {D : Type 0} → DurableMap D → Released → Type 0
StaysHeldOf map released = holding.StaysHeldOf (arc_value map.stripes) released
