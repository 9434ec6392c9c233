use Rattle.checkpoint_file.specs.CheckpointSteps.{MayAdvance}
use Rattle.run_data.proofs.checkpoint_writing.advance_times.Given as goal

abbrev pub invariant-loop : goal.invariant-loop
invariant-loop g l = MayAdvance g.D.Disk.states g.D.Disk.honest l.writer l.disk
