use Rattle.std.proofs.Common.{◌≡◌, List}
use Rattle.sim_rules.specs.declared.outcome.Outcome.{Outcome}
use Rattle.sim_rules.specs.Runs.{IsRun}
use Rattle.map_server.specs.Simulation.{ComesOf}
use Rattle.map_server.proofs.Playing.{left}
use Rattle.map_server.proofs.simulation.play.Given as goal

abbrev pub invariant-plays : goal.invariant-plays
invariant-plays l =
    IsRun l.script.events.items l.trace.outcomes.items × (l.script.spans ≡ l.fn.script.spans)
    × ((outcomes : List Outcome) → ComesOf l.fn.script.spans.items outcomes l.script.events.items → ComesOf l.fn.script.spans.items outcomes l.fn.script.events.items)

abbrev pub decreases-plays : goal.decreases-plays
decreases-plays l = left l.script.events.items
