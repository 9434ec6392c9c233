-- The first pass of stripes has made no step, and a keeper that fits it.
use Rattle.std.proofs.Common.{◌≡◌, ℕ, List, refl, sym, subst}
use Rattle.disk_model.specs.Files.{Files}
use Rattle.ticket_order.specs.declared.record.Opening.{Opening}
use Rattle.ticket_order.specs.declared.record.Record.{Record}
use Rattle.stripe_locks.specs.Plays.{joining}
use Rattle.flusher.specs.declared.keeper.Keeper.{Keeper}
use Rattle.flusher.specs.Fitting.{IsKept, IsUnused}

pub unused_first : (o : Opening) (p : Record) → p ≡ joining o 0 → IsUnused o.first o.key_limit p
unused_first o p first = subst (λ (r : Record). IsUnused o.first o.key_limit r) (sym first) (record { opening = refl; limit = refl; keeper = refl; free = refl; none_taken = refl; published = refl; works = refl })

pub kept_as : {D : Type 0} (states : D → List Files) (honest : D → Type 0) (keeper : Keeper D) (m n : ℕ) (p q : Record) → n ≡ m → q ≡ p → IsKept states honest m keeper p → IsKept states honest n keeper q
kept_as states honest keeper m n p q count pass k = subst (λ (i : ℕ). IsKept states honest i keeper q) (sym count) (subst (λ (r : Record). IsKept states honest m keeper r) (sym pass) k)
