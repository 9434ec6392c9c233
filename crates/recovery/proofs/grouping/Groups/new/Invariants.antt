use Rattle.std.proofs.Common.{◌≡◌, [], length}
use Rattle.std.specs.List.{AllByRecursion}
use Rattle.recovery.proofs.grouping.Groups.new.Given as goal

-- so many lists, and none has an entry
abbrev pub invariant-loop : goal.invariant-loop
invariant-loop l = (length l.lists.items ≡ l.counter) × AllByRecursion (λ list. list.items ≡ []) l.lists.items
