-- A map whose bins grow may go from thread to thread.
use denote.Param.Send.{IsSend, sendable}
use Rattle.bin_table.proofs.Crosses.{bins_send}
use Rattle.bin_transfer.specs.contracts.growing.Growing as Growing
use Rattle.bin_transfer.specs.contracts.growing.Growth as Growth

growth_send : IsSend (Growth.the_field).row
growth_send = search (bins_send, sendable) depth 20

pub growing_send : IsSend Growing.the_row
growing_send = search (bins_send, growth_send, sendable) depth 20
