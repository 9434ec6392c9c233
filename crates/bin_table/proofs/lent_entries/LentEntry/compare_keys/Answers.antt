use Rattle.std.proofs.Common.{sym}
use Rattle.bin_table.proofs.Ranked.{by_rank}
use Rattle.bin_table.proofs.lent_entries.LentEntry.compare_keys.Goals as goal

pub returns-in_default : goal.returns-in_default
returns-in_default c =
    rw (← c.self.view_is, ← c.other.view_is)
    (by_rank c.self.inside.key.now c.other.inside.key.now c.self.inside.rank c.other.inside.rank c.cmp.result c.self.invariant c.other.invariant
    (sym c.cmp.ensures) c.in_default.not-Equal)
