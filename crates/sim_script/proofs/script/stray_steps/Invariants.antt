use Rattle.std.proofs.Common.{◌≡◌, ◌+◌, drop, length}
use Rattle.sim_script.specs.Spans.{stray_steps}
use Rattle.sim_script.proofs.script.stray_steps.Given as goal

abbrev pub invariant-spans : goal.invariant-spans
invariant-spans l = (stray_steps l.at (drop l.span-index l.spans) l.rest ≡ stray_steps 0 l.spans l.outcomes) × (l.at + length l.rest ≡ length l.outcomes)
