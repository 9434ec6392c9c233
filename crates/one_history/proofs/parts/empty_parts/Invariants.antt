use Rattle.std.proofs.Common.{◌≡◌, length}
use Rattle.one_history.specs.SharedWords.{AreEmpty}
use Rattle.one_history.proofs.parts.empty_parts.Given as goal

abbrev pub invariant-loop-stripe : goal.invariant-loop-stripe
invariant-loop-stripe l = record { count : length l.parts.items ≡ l._stripe; empty : AreEmpty l.stripes.count l.parts.items }
