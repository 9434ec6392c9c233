use Rattle.std.proofs.Common.{◌≡◌}
use Rattle.sim_script.specs.Spans.{IsTakenBack}
use Rattle.sim_script.proofs.script.Script.take_back_steps.Given as goal

abbrev pub invariant-places : goal.invariant-places
invariant-places l = IsTakenBack l.first l.place l.fn.self.events.items l.self.events.items × (l.self.spans ≡ l.fn.self.spans)
