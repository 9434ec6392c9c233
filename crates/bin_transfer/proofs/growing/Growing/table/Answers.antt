use Rattle.std.proofs.Common.{◌<◌, ◌≤◌, ap, ◌∙◌, arith}
use Rattle.std.specs.FinMap as finite
use Rattle.bin_table.specs.Tables.{bin_of_key}
use Rattle.bin_table.proofs.BinLaws.{bin_is}
use Rattle.bin_transfer.proofs.SplitLaws.{look_new, look_old}
use Rattle.bin_transfer.proofs.GrowthLaws.{running, whole}
use Rattle.bin_transfer.proofs.growing.Growing.table.Goals as goal

pub returns-then-bin-growth : goal.returns-then-bin-growth
returns-then-bin-growth c = λ k of_spread.
    let b = c.self.inside.bins in
    let g = c.in-Some.growth in
    let r = running b c.self.inside.growth g c.in-Some.is c.self.invariant in
    let place = bin_is _ _ _ _ k c.bin.ensures.value of_spread in
    let at : bin_of_key b.stripes b.bins k < g.moved = omega (arith, c.if-bin-growth.true) in
    look_new b.stripes b.bins g.moved b.map g.table.map k r.split at
    ∙ ap (λ m. finite.get m k) (whole b c.self.inside.growth g c.args.self.now c.in-Some.is c.self.view_is)

pub returns-else-bin-growth : goal.returns-else-bin-growth
returns-else-bin-growth c = λ k of_spread.
    let b = c.self.inside.bins in
    let g = c.in-Some.growth in
    let r = running b c.self.inside.growth g c.in-Some.is c.self.invariant in
    let place = bin_is _ _ _ _ k c.bin.ensures.value of_spread in
    let at : g.moved ≤ bin_of_key b.stripes b.bins k = omega (arith, c.if-bin-growth.false) in
    look_old b.stripes b.bins g.moved b.map g.table.map k r.split at
    ∙ ap (λ m. finite.get m k) (whole b c.self.inside.growth g c.args.self.now c.in-Some.is c.self.view_is)
