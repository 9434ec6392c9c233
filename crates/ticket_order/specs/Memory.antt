-- The memory that a change needs.
use Rattle.std.specs.Prelude.{◌<◌, vec_len, vec_capacity}
use Rattle.map_types.specs.declared.commands.Command.{Command}
use Rattle.atomic_methods.specs.Prepared.{PreparedChange, IsPrepared}
use Rattle.ticket_order.specs.declared.stripe.Stripe.{Stripe}

-- the memory for the change was got
pub record HasMemory (c : Command) (x : Stripe) (prepared : PreparedChange) : Type 0 where
  pub prepared_is : IsPrepared x.part.map c prepared
  pub room : vec_len x.outbox < vec_capacity x.outbox
