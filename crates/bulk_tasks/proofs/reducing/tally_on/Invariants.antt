use Rattle.std.specs.Prelude.{◌≡◌, fold, take}
use Rattle.bulk_tasks.specs.Tallies.{counted}
use Rattle.bulk_tasks.proofs.reducing.tally_on.Given as goal

abbrev pub invariant-loop-entry : goal.invariant-loop-entry
invariant-loop-entry l = l.tally ≡ fold (counted l.func) l.fn.start (take l.entry-index l.entries)
