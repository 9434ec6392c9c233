-- Other refusals than that of a full log.
use Rattle.std.proofs.Common.{◌≡◌, subst}
use Rattle.map_types.specs.declared.refusals.Refusal.{Refusal}
use Rattle.map_types.specs.declared.refusals.Refusal.TheVariants as refusal

abbrev IsOther : Refusal → Type 0
IsOther refusal.LogFull = ⊥
IsOther e = Unit {0}

pub not_full_by_memory : refusal.NoMemory ≡ refusal.LogFull → ⊥
not_full_by_memory is = subst IsOther is tt

pub not_full_by_failure : refusal.Failed ≡ refusal.LogFull → ⊥
not_full_by_failure is = subst IsOther is tt

pub not_full_by_tickets : refusal.TicketsSpent ≡ refusal.LogFull → ⊥
not_full_by_tickets is = subst IsOther is tt
