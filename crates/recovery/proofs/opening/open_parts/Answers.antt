use Rattle.recovery.proofs.opening.open_parts.Goals as goal

pub open_parts_by-requires : goal.open_parts_by-requires
open_parts_by-requires g c = record { accepts = λ p. tt; runs = λ p q called. called }
