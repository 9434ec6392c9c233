use Rattle.std.proofs.Common.{take}
use Rattle.sim_rules.specs.Laws.{SoundBetweenIsRun, SoundIsRun}
use Rattle.sim_rules.specs.World.{World}
use Rattle.schedule_sim.specs.Storing.{IsBeginning}
use Rattle.schedule_sim.proofs.Runs.{AreLaws, IsKept}
use Rattle.schedule_sim.proofs.running.play.Given as goal

abbrev pub invariant-loop-event : goal.invariant-loop-event
invariant-loop-event l =
    ((from : World) → IsBeginning from l.fn.store → IsKept from (take l.event-index l.events) l.outcomes.items l.store) × AreLaws × SoundIsRun × SoundBetweenIsRun
