-- The shared stripes may be used by several threads.
use denote.Param.Send.{IsSend, IsSync, sendable}
use Rattle.std.proofs.Crossing.{crosses, Vec-send}
use Rattle.std.proofs.Crossing as heap
use Rattle.atomic_table.proofs.shared.Shared.TheSendSync as shared
use Rattle.atomic_table.proofs.send_lease.SendLease.TheSendSync as lease
use Rattle.java_hash.proofs.stripe_count.StripeCount.TheSendSync as count
use Rattle.atomic_methods.proofs.Crosses.{part_send}
use Rattle.ticket_order.specs.contracts.stripe.Stripe as Stripe
use Rattle.ticket_order.proofs.stripe.Entry.TheSendSync as entry
use Rattle.stripe_locks.specs.contracts.stripes.Stripes as Stripes

pub stripe_send : IsSend (Stripe.the_field).row
stripe_send = search (part_send, entry.the_send, Vec-send, sendable) depth 20

pub stripes_sync : IsSync Stripes.the_row
stripes_sync = search (stripe_send, shared.the_sync, lease.the_sync, heap.frees, count.the_field_sync, crosses, sendable) depth 20
