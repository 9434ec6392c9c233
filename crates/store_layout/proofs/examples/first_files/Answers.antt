use Rattle.store_layout.proofs.FirstExamples.{first_change, second_version, new_store, uncommitted_change}
use Rattle.store_layout.proofs.examples.first_files.Goals as goal

pub returns : goal.returns
returns c = record { made = new_store; changed = first_change; second = second_version; uncommitted = uncommitted_change }
