-- A step of a pass, as it is told.
use Rattle.std.specs.Prelude.{Option, None, Some}
use Rattle.ticket_order.specs.declared.record.StepMade.{StepMade}
use Rattle.ticket_order.specs.declared.record.StepMade.TheVariants.{Took, FoundHeld, Gave, Drew, Looked, Published, Saw}
use Rattle.ticket_order.specs.declared.record.StepMade.TheVariants.{Failed, FoundAlive}
use Rattle.sim_rules.specs.declared.outcome.Made.{Made}
use Rattle.sim_rules.specs.declared.outcome.Made.TheVariants as told

-- The step as it is told. A DURABLE and a FAIL are the keeper's alone, and aren't told as steps.
abbrev pub told_of : StepMade → Option Made
told_of (Took i outbox last) = Some (told.Took i)
told_of (FoundHeld i) = Some (told.FoundHeld i)
told_of (Gave i) = Some (told.Gave i)
told_of (Drew t) = Some (told.Drew t)
told_of (Looked q) = Some (told.Looked q)
told_of (Published x) = None
told_of (Saw d) = Some (told.Saw d)
told_of Failed = None
told_of (FoundAlive is_alive) = Some (told.FoundAlive is_alive)
