use Rattle.ticket_order.specs.declared.record.Record.{Record}
use Rattle.stripe_locks.specs.Passes.{recorded}
use Rattle.view_walk.specs.Viewing.{Fits}
use Rattle.durable_map.specs.Maps.{IsPassOf, stripe_count}
use Rattle.test_store.proofs.view_steps.advanced.Given as goal

abbrev pub invariant-loop-step : goal.invariant-loop-step
invariant-loop-step l = record {
  own : IsPassOf l.map l.pass;
  fits : (b : Record) → Fits (stripe_count l.map) b l.initial.walk (recorded l.initial.pass) → Fits (stripe_count l.map) b l.walk (recorded l.pass);
}
