use Rattle.std.proofs.Common.{◌+◌, ◌<◌, ◌≤◌, take}
use Rattle.std.specs.List.{All}
use Rattle.flusher.proofs.in_hand.places_for.Given as goal

abbrev pub invariant-loop-entry : goal.invariant-loop-entry
invariant-loop-entry l = All (λ e. l.next ≤ e.ticket → e.ticket < l.next + l.len) (take l.entry-index l.entries)
