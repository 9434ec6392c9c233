-- A table, and an entry outside of it, may go from thread to thread.
use denote.Param.Send.{IsSend, sendable}
use Rattle.std.proofs.Crossing.{crosses, Vec-send}
use Rattle.java_hash.proofs.stripe_count.StripeCount.TheSendSync as count
use Rattle.bin_table.specs.contracts.bins.Bins as Bins
use Rattle.bin_table.specs.contracts.chains.Chain as Chain
use Rattle.bin_table.specs.contracts.chains.Node as Node
use Rattle.bin_table.proofs.chains.Chain.TheLaws.TheKnot as knot

chain_send : IsSend (Chain.the_field).row
chain_send = search (knot.send-Chain, sendable, crosses) depth 40

pub node_send : IsSend (Node.the_field).row
node_send = search (knot.send-Node, sendable, crosses) depth 40

pub bins_send : IsSend Bins.the_row
bins_send = search (chain_send, count.the_field_send, Vec-send, sendable) depth 20
