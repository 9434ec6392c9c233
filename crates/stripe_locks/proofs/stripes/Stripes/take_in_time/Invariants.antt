use Rattle.stripe_locks.specs.Passes.{recorded, IsPassOf, IsSamePass}
use Rattle.stripe_locks.specs.Waits.{Waits}
use Rattle.stripe_locks.proofs.stripes.Stripes.take_in_time.Given as goal

abbrev pub invariant-loop-try : goal.invariant-loop-try
invariant-loop-try g l = record {
  next : (goal.iterator-loop-try g).can_next l._try-iterator;
  finite : (goal.iterator-loop-try g).is_finite l._try-iterator;
  own : IsPassOf l.self l.pass;
  same : IsSamePass l.initial.pass l.pass;
  waits : Waits l.stripe (recorded l.initial.pass) (recorded l.pass);
}
