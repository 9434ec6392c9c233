use Rattle.std.proofs.Common.{◌∙◌}
use Rattle.stripe_locks.proofs.Misses.{waits_once_more}
use Rattle.stripe_locks.proofs.stripes.Stripes.take_in_time.Goals as goal

pub loop-try-preserved : goal.loop-try-preserved
loop-try-preserved g c = record {
  next = tt;
  finite = tt;
  own = c.take.ensures.same.0 ∙ c.loop-try.invariant.own;
  same = (c.take.ensures.same.0 ∙ c.loop-try.invariant.same.0, c.take.ensures.same.1 ∙ c.loop-try.invariant.same.1);
  waits = waits_once_more _ _ _ _ c.loop-try.invariant.waits c.in-None-take.ensures.step;
}
