use Rattle.std.proofs.Common.{◌≡◌, map}
use Rattle.std.specs.List.{flat_map}
use Rattle.sim_script.specs.Spans.{events_of, span_of}
use Rattle.sim_script.proofs.script.Script.of.Given as goal

abbrev pub invariant-lines : goal.invariant-lines
invariant-lines l = (l.script.events.items ≡ flat_map (events_of l.stripes) l.yielded) × (l.script.spans.items ≡ map (span_of l.stripes) l.yielded)
