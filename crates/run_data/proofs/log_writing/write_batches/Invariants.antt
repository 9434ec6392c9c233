use Rattle.gate_log.specs.LogSteps.{MayAdvance}
use Rattle.run_data.proofs.log_writing.write_batches.Given as goal

abbrev pub invariant-loop : goal.invariant-loop
invariant-loop g l = MayAdvance g.D.Disk.states g.D.Disk.honest l.log l.disk
