use Rattle.std.specs.Prelude.{◌≡◌}
use Rattle.stripe_locks.specs.Passes.{recorded, IsSamePass}
use Rattle.stripe_locks.specs.Holding.{position_of, reply_of}
use Rattle.durable_map.specs.Durable.{MakesNoCall}
use Rattle.durable_map.specs.Maps.{IsHeldOf, IsPassOf}
use Rattle.durable_map.proofs.map.DurableMap.finish.Given as goal

abbrev pub invariant-loop-turn : goal.invariant-loop-turn
invariant-loop-turn g l = record {
  next : (goal.iterator-loop-turn g).can_next l._turn-iterator;
  finite : (goal.iterator-loop-turn g).is_finite l._turn-iterator;
  own : IsPassOf l.self l.pass;
  same : IsSamePass l.initial.pass l.pass;
  beside : MakesNoCall (recorded l.initial.pass) (recorded l.pass);
  held : IsHeldOf l.self l.waiting;
  position_is : position_of l.waiting ≡ position_of l.initial.waiting;
  reply_is : reply_of l.waiting ≡ reply_of l.initial.waiting;
}
