-- A part, and a change that is prepared for it, may go from thread to thread.
use denote.Param.Send.{IsSend, sendable}
use Rattle.std.proofs.Crossing.{crosses, Box-send}
use Rattle.map_types.proofs.commands.Reply.TheSendSync as reply
use Rattle.map_types.proofs.texts.Value.TheSendSync as value
use Rattle.bin_table.proofs.Crosses.{node_send}
use Rattle.bin_transfer.proofs.Crosses.{growing_send}
use Rattle.atomic_methods.specs.contracts.parts.Action as Action
use Rattle.atomic_methods.specs.contracts.parts.Part as Part
use Rattle.atomic_methods.specs.contracts.parts.Prepared as Prepared

pub part_send : IsSend Part.the_row
part_send = search (growing_send, Box-send, crosses, sendable) depth 20

action_send : IsSend (Action.the_field).row
action_send = search (node_send, value.the_field_send, Box-send, sendable) depth 20

pub prepared_send : IsSend Prepared.the_row
prepared_send = search (action_send, reply.the_field_send, crosses, sendable) depth 20
