use Rattle.bin_transfer.proofs.LenLaws.{both_copied}
use Rattle.bin_transfer.proofs.GrowthLaws.{running, whole}
use Rattle.bin_transfer.proofs.growing.Growing.lend_entries.Goals as goal

pub returns-in_ok-lend_entries-in-Some-2 : goal.returns-in_ok-lend_entries-in-Some-2
returns-in_ok-lend_entries-in-Some-2 c =
    let b = c.self.inside.bins in
    let g = c.in-Some.growth in
    let r = running b c.self.inside.growth g c.in-Some.is c.self.invariant in
    rw (← whole b c.self.inside.growth g c.args.self.now c.in-Some.is c.self.view_is)
    (both_copied b.stripes b.bins g.moved b.map g.table.map _ _ _ r.split c.in_ok-lend_entries-in-Some.ensures c.in_ok-lend_entries-in-Some-2.ensures)
