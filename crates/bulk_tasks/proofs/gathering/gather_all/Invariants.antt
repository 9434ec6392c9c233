use Rattle.std.specs.Prelude.{◌++◌, List}
use Rattle.ticket_order.specs.declared.record.Section.{Section}
use Rattle.stripe_locks.specs.Passes.{recorded, IsSamePass}
use Rattle.view_walk.specs.Walking.{Fits, lent_sections}
use Rattle.durable_map.specs.Maps.{IsPassOf, stripe_count}
use Rattle.bulk_tasks.proofs.gathering.gather_all.Given as goal

abbrev pub invariant-loop-step : goal.invariant-loop-step
invariant-loop-step g l = record {
  next : (goal.iterator-loop-step g).can_next l._step-iterator;
  finite : (goal.iterator-loop-step g).is_finite l._step-iterator;
  own : IsPassOf l.map l.pass;
  same : IsSamePass l.initial.pass l.pass;
  stands : (xs : List Section) × Fits (stripe_count l.map) (recorded l.initial.pass) xs l.walk (recorded l.pass)
      × g.G.Gathers.gathered l.initial.gathering l.gathering (xs ++ lent_sections l.walk);
}
