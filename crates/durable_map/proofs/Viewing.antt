-- A pass between the steps of a view, and once it has ended; and that there are stripes to view.
use Rattle.std.proofs.Common.{◌<◌, ℕ, List, Result, Ok, Err}
use Rattle.std.specs.Arc.{arc_value}
use Rattle.java_hash.proofs.StripeLaws.{some_stripe}
use Rattle.map_types.specs.declared.refusals.Refusal.{Refusal}
use Rattle.ticket_order.specs.declared.record.Record.{Record}
use Rattle.ticket_order.specs.declared.record.Section.{Section}
use Rattle.view_walk.specs.declared.parts.PartsWalked.{PartsWalked}
use Rattle.view_walk.specs.declared.parts.PartsWalked.TheVariants as walked
use Rattle.view_walk.specs.declared.walk.Viewed.{Viewed}
use Rattle.view_walk.specs.declared.walk.Viewed.TheVariants.{More, Done}
use Rattle.view_walk.specs.Walking as walking
use Rattle.view_walk.specs.Viewing.{Next}
use Rattle.view_walk.proofs.Holding.{free_after_refusal, free_between}
use Rattle.stripe_locks.specs.Passes.{recorded}
use Rattle.stripe_locks.specs.declared.rule.Pass.{Pass}
use Rattle.durable_map.specs.declared.map.DurableMap.{DurableMap}
use Rattle.durable_map.specs.Maps.{IsPassOf, LeavesReady, PartsLeaveReady, stripe_count}

pub ready_after : {D : Type 0} (map : DurableMap D) (n : ℕ) (b : Record) (result : Result Viewed Refusal) (pass : Pass) → IsPassOf map pass → Next n b result (recorded pass) → LeavesReady map result pass
ready_after map n b (Ok (More walk)) pass own k = (own, λ none. record { own = own; free = free_between n b k.sections walk.parts (recorded pass) k.parts none })
ready_after map n b (Ok (Done captured)) pass own k = record { own = own; free = k.views.all.empty_handed }
ready_after map n b (Err e) pass own k = record { own = own; free = free_after_refusal n b k.0 e (recorded pass) k.1 }

pub parts_ready_after : {D : Type 0} (map : DurableMap D) (n : ℕ) (b : Record) (xs : List Section) (result : Result PartsWalked Refusal) (pass : Pass) → IsPassOf map pass → walking.Next n b xs result (recorded pass) → PartsLeaveReady map result pass
parts_ready_after map n b xs (Ok (walked.More walk)) pass own k = (own, λ none. record { own = own; free = free_between n b xs walk (recorded pass) k none })
parts_ready_after map n b xs (Ok walked.Done) pass own k = record { own = own; free = k.all.empty_handed }
parts_ready_after map n b xs (Err e) pass own k = record { own = own; free = free_after_refusal n b xs e (recorded pass) k }

pub some_stripes : {D : Type 0} (map : DurableMap D) → 0 < stripe_count map
some_stripes map = some_stripe _ (arc_value map.stripes).count.allowed
