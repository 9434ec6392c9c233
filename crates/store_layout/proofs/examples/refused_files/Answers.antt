use Rattle.store_layout.proofs.RefusalExamples.{below, byte_left_over, missing_entry, no_frame, no_log, other_greatest_mark, other_log}
use Rattle.store_layout.proofs.examples.refused_files.Goals as goal

pub returns-clause-entry : goal.returns-clause-entry
returns-clause-entry c = missing_entry

pub returns-clause-left_over : goal.returns-clause-left_over
returns-clause-left_over c = byte_left_over

pub returns-clause-marks : goal.returns-clause-marks
returns-clause-marks c = other_greatest_mark

pub returns-clause-no_log : goal.returns-clause-no_log
returns-clause-no_log c = no_log

pub returns-clause-other_log : goal.returns-clause-other_log
returns-clause-other_log c = other_log

pub returns-clause-no_frame : goal.returns-clause-no_frame
returns-clause-no_frame c = no_frame

pub returns-clause-below : goal.returns-clause-below
returns-clause-below c = below
