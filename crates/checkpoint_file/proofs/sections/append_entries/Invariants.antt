use Rattle.std.proofs.Common.{◌≡◌, ◌++◌, take}
use Rattle.store_layout.specs.Logs.{new_layout}
use Rattle.store_layout.specs.Checkpoints.{entries_bytes}
use Rattle.checkpoint_file.specs.States.{AreWellFormed}
use Rattle.checkpoint_file.proofs.sections.append_entries.Given as goal

abbrev pub invariant-loop-entry : goal.invariant-loop-entry
invariant-loop-entry l =
    (l.out.items ≡ l.fn.out.items ++ entries_bytes new_layout (take l.entry-index l.entries)) × AreWellFormed new_layout (take l.entry-index l.entries)
