use Rattle.std.proofs.Common.{◌≡◌, drop, None}
use Rattle.std.specs.List.{fold}
use Rattle.std.specs.Option.{option_copied}
use Rattle.sim_script.specs.Spans.{or_later}
use Rattle.sim_script.proofs.script.telling.Given as goal

abbrev pub invariant-outcomes : goal.invariant-outcomes
invariant-outcomes l = fold or_later (option_copied l.told) (drop l.outcome-index l.outcomes) ≡ fold or_later None l.outcomes
