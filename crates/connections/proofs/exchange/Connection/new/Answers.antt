use Rattle.std.proofs.Common.{refl}
use Rattle.connections.proofs.Steps.{past_none}
use Rattle.connections.proofs.exchange.Connection.new.Goals as goal

pub returns-clause-past : goal.returns-clause-past
returns-clause-past g c = rw (c.new.ensures, c.new-2.ensures.items, c.new-3.ensures) past_none

pub returns-clause-fresh : goal.returns-clause-fresh
returns-clause-fresh g c = rw (c.new.ensures, c.new-2.ensures.items, c.new-3.ensures) refl
