use Rattle.std.proofs.Common.{◌≡◌, replicate}
use Rattle.schedule_sim.specs.declared.job.Job.TheVariants.{Idle}
use Rattle.schedule_sim.proofs.life.idle_workers.Given as goal

abbrev pub invariant-loop-worker : goal.invariant-loop-worker
invariant-loop-worker l = l.jobs.items ≡ replicate l._worker Idle
