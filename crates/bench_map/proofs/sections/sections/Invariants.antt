use Rattle.stripe_locks.specs.Passes.{recorded}
use Rattle.view_walk.specs.Viewing.{Fits}
use Rattle.durable_map.specs.Maps.{IsPassOf, stripe_count}
use Rattle.bench_map.proofs.sections.sections.Given as goal

abbrev pub invariant-loop-step : goal.invariant-loop-step
invariant-loop-step g l = record {
  next : (goal.iterator-loop-step g).can_next l._step-iterator;
  finite : (goal.iterator-loop-step g).is_finite l._step-iterator;
  own : IsPassOf l.map l.pass;
  fit : Fits (stripe_count l.map) (recorded l.initial.pass) l.walk (recorded l.pass);
}
