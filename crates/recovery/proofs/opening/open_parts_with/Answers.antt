use denote.Param.Send.{sendable}
use Rattle.recovery.proofs.opening.open_parts_with.Goals as goal

pub open_parts_by-requires : goal.open_parts_by-requires
open_parts_by-requires g c = record { accepts = λ p. search sendable depth 20; runs = λ p q called. called }
