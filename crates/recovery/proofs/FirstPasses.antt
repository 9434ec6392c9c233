-- The first pass of stripes that were begun has made no step.
use Rattle.std.proofs.Common.{refl}
use Rattle.ticket_order.specs.declared.record.Opening.{Opening}
use Rattle.stripe_locks.specs.Plays.{joining}
use Rattle.flusher.specs.Fitting.{IsUnused}

pub unused : (o : Opening) → IsUnused o.first o.key_limit (joining o 0)
unused o = record { opening = refl; limit = refl; keeper = refl; free = refl; none_taken = refl; published = refl; works = refl }
