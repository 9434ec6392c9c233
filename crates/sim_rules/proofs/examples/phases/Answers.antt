use Rattle.sim_rules.proofs.RowExamples.{batch_is_committed, checkpoint_goes_on, rotation_goes_on, rotation_takes_new_version}
use Rattle.sim_rules.proofs.examples.phases.Goals as goal

pub returns : goal.returns
returns c = record { batch = batch_is_committed; rotation = rotation_goes_on; version = rotation_takes_new_version; checkpoint = checkpoint_goes_on }
