use Rattle.std.proofs.Common.{◌≡◌, length, arith}
use Rattle.recovery.proofs.GroupingLemmas.{blank_groups}
use Rattle.recovery.proofs.grouping.Groups.new.Goals as goal

pub returns-clause-ok : goal.returns-clause-ok
returns-clause-ok c =
    let inv = c.loop.invariant in
    let many : length c.loop.lists.items ≡ c.args.stripes.count = let e = c.get-end.ensures.value in let size = inv.0 in let over = c.loop-test.false in let end = c.loop.auto.counter-end in omega (arith, e, size, over, end) in
    blank_groups (λ list. list.items) c.args.stripes.count c.loop.lists.items many inv.1
