use Rattle.std.proofs.Common.{◌≡◌, ◌++◌, replicate}
use Rattle.sim_script.specs.Spans.{next_of}
use Rattle.sim_script.proofs.script.add_more.Given as goal

abbrev pub invariant-more : goal.invariant-more
invariant-more l = l.events.items ≡ l.fn.events.items ++ replicate l.counter (next_of l.form)
