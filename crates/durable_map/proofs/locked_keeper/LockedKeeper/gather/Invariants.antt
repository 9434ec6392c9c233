use Rattle.std.specs.Prelude.{◌≡◌}
use Rattle.durable_map.proofs.locked_keeper.LockedKeeper.gather.Given as goal

abbrev pub invariant-loop-stripe : goal.invariant-loop-stripe
invariant-loop-stripe g l = l.self.words ≡ l.initial.self.words
