use Rattle.std.specs.Prelude.{◌≡◌, fold, take}
use Rattle.std.specs.Option.{option_copied}
use Rattle.bulk_tasks.specs.Nearest.{approached}
use Rattle.bulk_tasks.proofs.searching.nearest_on.Given as goal

abbrev pub invariant-loop-entry : goal.invariant-loop-entry
invariant-loop-entry l = option_copied l.near ≡ fold (approached l.sought) (option_copied l.start) (take l.entry-index l.entries)
