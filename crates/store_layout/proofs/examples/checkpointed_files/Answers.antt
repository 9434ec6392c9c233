use Rattle.store_layout.proofs.CheckpointExamples.{half_written, not_yet_sealed, sealed_while_changing}
use Rattle.store_layout.proofs.examples.checkpointed_files.Goals as goal

pub returns : goal.returns
returns c = record { sealed = sealed_while_changing; not_yet = not_yet_sealed; half = half_written }
