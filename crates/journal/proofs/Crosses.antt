-- A journal may go from thread to thread where its disk and its steps may; so may the steps of a pass on shared stripes.
use denote.RattleType.{RattleType}
use denote.Param.Send.{IsSend, AllSend, sendable, view_send, struct_send, recorded_send}
use denote.Struct.Declared.{shape}
use Rattle.std.proofs.Crossing.{crosses, Vec-send, Box-send}
use Rattle.std.proofs.Crossing as heap
use Rattle.disk_model.specs.declared.disk.Disk as disk
use Rattle.ticket_order.specs.declared.steps.Steps as the_steps
use Rattle.atomic_table.proofs.shared.Shared.TheSendSync as shared
use Rattle.atomic_table.proofs.shared.Seat.TheSendSync as seat
use Rattle.atomic_table.proofs.send_lease.SendLease.TheSendSync as lease
use Rattle.stripe_locks.specs.contracts.stripes.Stripes as Stripes
use Rattle.stripe_locks.specs.contracts.rule.Pass as Pass
use Rattle.stripe_locks.proofs.Crosses.{stripe_send, stripes_sync}
use Rattle.atomic_methods.proofs.Crosses.{prepared_send}
use Rattle.map_types.proofs.commands.Reply.TheSendSync as reply
use Rattle.map_types.proofs.commands.Read.TheSendSync as read
use Rattle.map_types.proofs.keys.Key.TheSendSync as key
use Rattle.map_types.proofs.texts.Value.TheSendSync as value
use Rattle.map_types.proofs.refusals.Refusal.TheSendSync as refusal
use Rattle.ticket_order.specs.contracts.walk.Walk as Walk
use Rattle.ticket_order.specs.contracts.walk.Stage as Stage
use Rattle.ticket_order.specs.contracts.walk.Taken as Taken
use Rattle.ticket_order.specs.contracts.change_walk.ChangeStage as ChangeStage
use Rattle.ticket_order.specs.contracts.read_walk.ReadStage as ReadStage
use Rattle.ticket_order.specs.contracts.sweep_walk.SweepStage as SweepStage
use Rattle.ticket_order.specs.contracts.capture_walk.Captured as Captured
use Rattle.ticket_order.specs.contracts.capture_walk.CaptureStage as CaptureStage
use Rattle.ticket_order.proofs.stripe.Entry.TheSendSync as entry
use Rattle.flusher.specs.contracts.sweeper.Sweeper as Sweeper
use Rattle.flusher.specs.contracts.sweeper.Walking as Walking
use Rattle.flusher.specs.contracts.keeper.Keeper as Keeper
use Rattle.flusher.proofs.in_hand.InHand.TheSendSync as hand
use Rattle.flusher.proofs.spare.Spare.TheSendSync as spare
use Rattle.flusher.proofs.sweeper.Sweep.TheSendSync as sweep
use Rattle.gate_log.proofs.log.GateLog.TheSendSync as log
use Rattle.gate_log.proofs.zeros.Zeros.TheSendSync as zeros
use Rattle.checkpoint_file.proofs.writer.CheckpointWriter.TheSendSync as writer
use Rattle.java_hash.proofs.stripe_count.StripeCount.TheSendSync as count
use Rattle.ticket_order.proofs.held.Held.TheSendSync as held
use Rattle.ticket_order.proofs.change_walk.NewChange.TheSendSync as new_change
use Rattle.ticket_order.proofs.release_walk.ReleaseStage.TheSendSync as release
use Rattle.journal.specs.contracts.owner.Journal as Journal
use Rattle.journal.specs.contracts.owner.Journal.TheInside as Inside
use Rattle.journal.specs.contracts.own_steps.OwnSteps as OwnSteps

ruleset leaves = (reply.the_send, reply.the_field_send, read.the_send, read.the_field_send, key.the_send, value.the_send, value.the_field_send, refusal.the_send, refusal.the_field_send, entry.the_send, entry.the_field_send, held.the_send, held.the_field_send, new_change.the_send, new_change.the_field_send, release.the_send, release.the_field_send, heap.send, Vec-send, Box-send)

taken : IsSend (Taken.the_field).row
taken = search (stripe_send, sendable) depth 20

change : IsSend (ChangeStage.the_field).row
change = search (taken, prepared_send, leaves, sendable) depth 20

reads : IsSend (ReadStage.the_field).row
reads = search (taken, leaves, sendable) depth 20

sweeps : IsSend (SweepStage.the_field).row
sweeps = search (taken, leaves, sendable) depth 20

captured : IsSend (Captured.the_field).row
captured = search (crosses, sendable) depth 20

captures : IsSend (CaptureStage.the_field).row
captures = search (taken, captured, leaves, sendable) depth 20

stage : IsSend (Stage.the_field).row
stage = search (change, reads, sweeps, captures, taken, leaves, sendable) depth 20

walk : IsSend Walk.the_row
walk = search (stage, sendable) depth 20

walking : IsSend (Walking.the_field).row
walking = search (stage, leaves, sendable) depth 20

sweeper : IsSend (Sweeper.the_field).row
sweeper = search (walking, hand.the_send, spare.the_send, sweep.the_send, leaves, sendable) depth 20

pass : IsSend (Pass.the_field).row
pass = search (stripe_send, seat.the_send, sendable) depth 20

stripes_send : IsSend (Stripes.the_row)
stripes_send = search (stripe_send, shared.the_send, lease.the_send, heap.frees, count.the_field_send, leaves, crosses, sendable) depth 20

steps_fields : AllSend (shape OwnSteps.the_type).fields
steps_fields = (heap.Arc-send Stripes.the_row stripes_send stripes_sync, (pass, ((search sendable), tt)))

pub own_steps : IsSend OwnSteps.the_row
own_steps = recorded_send _ _ _ OwnSteps.the_type.to_one (struct_send (shape OwnSteps.the_type) steps_fields)

module _ (D : RattleType) where
  keeper : IsSend D → IsSend (Keeper.the_field D).row
  keeper s = search (walk, sweeper, log.the_send, zeros.the_send, writer.the_send, count.the_field_send, leaves, sendable) depth 20

module _ (D S : RattleType) (g : disk.Ghosts D.Denot) (h : the_steps.Ghosts S.Denot) where
  fields : IsSend D → IsSend S → AllSend (shape (Inside.the_type D S g h)).fields
  fields d s = (keeper D d, (s, tt))

  inside : IsSend D → IsSend S → IsSend (Inside.the_row D S g h)
  inside d s = recorded_send _ _ _ (Inside.the_type D S g h).to_one (struct_send (shape (Inside.the_type D S g h)) (fields d s))

  pub journal : IsSend D → IsSend S → IsSend (Journal.the_row D S g h)
  journal d s = search (inside d s, view_send)
