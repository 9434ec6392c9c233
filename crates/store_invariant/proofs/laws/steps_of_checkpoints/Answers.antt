use Rattle.store_invariant.proofs.CheckpointSteps.{checkpoint_begins, checkpoint_is_sealed, rotation_begins, seal_begins, section_is_given, writer_steps_on}
use Rattle.store_invariant.proofs.laws.steps_of_checkpoints.Goals as goal

pub returns-clause-begins : goal.returns-clause-begins
returns-clause-begins c = checkpoint_begins

pub returns-clause-rotates : goal.returns-clause-rotates
returns-clause-rotates c = rotation_begins c.laws_of_logs.ensures.begins

pub returns-clause-section : goal.returns-clause-section
returns-clause-section c = section_is_given c.laws_of_sections.ensures.go_on c.laws_of_sections.ensures.marks

pub returns-clause-seals : goal.returns-clause-seals
returns-clause-seals c = seal_begins

pub returns-clause-steps : goal.returns-clause-steps
returns-clause-steps c = writer_steps_on

pub returns-clause-sealed : goal.returns-clause-sealed
returns-clause-sealed c = checkpoint_is_sealed c.laws_of_restoring.ensures.begins c.laws_of_checkpoints.ensures.older
