use Rattle.std.proofs.Common.{◌<◌, ◌≤◌, is_some, ap, ◌∙◌, arith}
use Rattle.std.specs.FinMap as finite
use Rattle.bin_table.specs.Tables.{bin_of_key}
use Rattle.bin_transfer.specs.Split.{joined}
use Rattle.bin_table.proofs.BinLaws.{bin_is}
use Rattle.bin_transfer.proofs.SplitLaws.{look_new, look_old, none_left, joined_insert_left, joined_insert_right, split_insert_left, split_insert_right}
use Rattle.bin_transfer.proofs.GrowthLaws.{running, whole, running_table, running_bins}
use Rattle.bin_transfer.proofs.growing.Growing.replace.Goals as goal

pub replace-requires-then-bin-growth-clause-mapped : goal.replace-requires-then-bin-growth-clause-mapped
replace-requires-then-bin-growth-clause-mapped c =
    let b = c.self.inside.bins in
    let g = c.in-Some.growth in
    let k = c.args.key.now in
    let r = running b c.self.inside.growth g c.in-Some.is c.self.invariant in
    let place = bin_is _ _ _ _ k c.bin.ensures.value c.requires.spread in
    let at : bin_of_key b.stripes b.bins k < g.moved = omega (arith, c.if-bin-growth.true) in
    ap is_some (look_new b.stripes b.bins g.moved b.map g.table.map k r.split at) ∙ ap (λ m. is_some (finite.get m k)) (whole b c.self.inside.growth g c.args.self.now c.in-Some.is c.self.view_is) ∙ c.requires.mapped

pub replace-requires-else-bin-growth-clause-mapped : goal.replace-requires-else-bin-growth-clause-mapped
replace-requires-else-bin-growth-clause-mapped c =
    let b = c.self.inside.bins in
    let g = c.in-Some.growth in
    let k = c.args.key.now in
    let r = running b c.self.inside.growth g c.in-Some.is c.self.invariant in
    let place = bin_is _ _ _ _ k c.bin.ensures.value c.requires.spread in
    let at : g.moved ≤ bin_of_key b.stripes b.bins k = omega (arith, c.if-bin-growth.false) in
    ap is_some (look_old b.stripes b.bins g.moved b.map g.table.map k r.split at) ∙ ap (λ m. is_some (finite.get m k)) (whole b c.self.inside.growth g c.args.self.now c.in-Some.is c.self.view_is) ∙ c.requires.mapped

pub invariant_of-self-then-bin-growth : goal.invariant_of-self-then-bin-growth
invariant_of-self-then-bin-growth c =
    let b = c.self.inside.bins in
    let g = c.in-Some.growth in
    let k = c.args.key.now in
    let r = running b c.self.inside.growth g c.in-Some.is c.self.invariant in
    let place = bin_is _ _ _ _ k c.bin.ensures.value c.requires.spread in
    let at : bin_of_key b.stripes b.bins k < g.moved = omega (arith, c.if-bin-growth.true) in
    running_table b g c.replace-then-bin-growth.new.self r c.replace-then-bin-growth.ensures.stripes c.replace-then-bin-growth.ensures.bins (rw c.replace-then-bin-growth.ensures.map (split_insert_right b.stripes b.bins g.moved b.map g.table.map k c.args.value r.split at))

pub invariant_of-self-else-bin-growth : goal.invariant_of-self-else-bin-growth
invariant_of-self-else-bin-growth c =
    let b = c.self.inside.bins in
    let g = c.in-Some.growth in
    let k = c.args.key.now in
    let r = running b c.self.inside.growth g c.in-Some.is c.self.invariant in
    let place = bin_is _ _ _ _ k c.bin.ensures.value c.requires.spread in
    let at : g.moved ≤ bin_of_key b.stripes b.bins k = omega (arith, c.if-bin-growth.false) in
    running_bins b c.replace-else-bin-growth.new.self g r c.replace-else-bin-growth.ensures.stripes c.replace-else-bin-growth.ensures.bins (rw c.replace-else-bin-growth.ensures.map (split_insert_left b.stripes b.bins g.moved b.map g.table.map k c.args.value r.split at))

pub returns-then-bin-growth-clause-map : goal.returns-then-bin-growth-clause-map
returns-then-bin-growth-clause-map c =
    let b = c.self.inside.bins in
    let g = c.in-Some.growth in
    let k = c.args.key.now in
    let r = running b c.self.inside.growth g c.in-Some.is c.self.invariant in
    let place = bin_is _ _ _ _ k c.bin.ensures.value c.requires.spread in
    let at : bin_of_key b.stripes b.bins k < g.moved = omega (arith, c.if-bin-growth.true) in
    ap (joined b.map) c.replace-then-bin-growth.ensures.map ∙ joined_insert_right b.map g.table.map k c.args.value (none_left b.stripes b.bins g.moved b.map g.table.map k r.split at)
    ∙ ap (λ m. finite.insert m k c.args.value) (whole b c.self.inside.growth g c.args.self.now c.in-Some.is c.self.view_is)

pub returns-else-bin-growth-clause-map : goal.returns-else-bin-growth-clause-map
returns-else-bin-growth-clause-map c =
    let b = c.self.inside.bins in
    let g = c.in-Some.growth in
    let k = c.args.key.now in
    let r = running b c.self.inside.growth g c.in-Some.is c.self.invariant in
    let place = bin_is _ _ _ _ k c.bin.ensures.value c.requires.spread in
    let at : g.moved ≤ bin_of_key b.stripes b.bins k = omega (arith, c.if-bin-growth.false) in
    ap (λ m. joined m g.table.map) c.replace-else-bin-growth.ensures.map ∙ joined_insert_left b.map g.table.map k c.args.value
    ∙ ap (λ m. finite.insert m k c.args.value) (whole b c.self.inside.growth g c.args.self.now c.in-Some.is c.self.view_is)
