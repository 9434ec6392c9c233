use Rattle.std.proofs.Common.{◌≡◌, ◌≤◌, Some, ◌∙◌, ap, arith}
use Rattle.std.proofs.lemmas.Bool.Decides.{nat_tests}
use Rattle.schedule_sim.specs.Opening.{Syncing}
use Rattle.schedule_sim.proofs.store.is_last.Goals as goal

pub returns-else-calls-gt4 : goal.returns-else-calls-gt4
returns-else-calls-gt4 c = λ lost.
    let before = c.has_lost_sync.ensures lost in
    let same : c.in-Some.number ≡ c.args.calls = grind (arith, nat_tests, c.if-number-calls.true) in
    let low : c.args.calls ≤ 4 = grind (arith, nat_tests, c.if-calls-gt4.false) in
    (c.in-Some.is ∙ ap (λ n. Some n) same, Syncing before.0 low before.1)
