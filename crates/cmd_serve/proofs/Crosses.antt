-- What the threads of a service share may be shared by them, if the disk may go to another thread.
use denote.RattleType.{RattleType}
use denote.Ref.{NamedLft}
use denote.Struct.Declared.{shape}
use denote.Param.Send.{IsSend, IsSync, AllSync, sendable, shr_sync, struct_sync, recorded_sync}
use Rattle.std.proofs.Crossing.{crosses}
use Rattle.disk_model.specs.declared.disk.Disk.{Ghosts}
use Rattle.disk_model.proofs.first_error.FirstError.TheSendSync as first_error
use Rattle.durable_map.proofs.Crosses.{map_sync}
use Rattle.cmd_serve.proofs.bells.Bell.TheSendSync as bell
use Rattle.ticket_order.proofs.held.Held.TheSendSync as ticket
use Rattle.wire_frames.proofs.requests.Bulk.TheSendSync as bulk
use Rattle.crossbeam_channel.proofs.channel.Sender.TheSendSync as sender
use Rattle.crossbeam_channel.proofs.channel.Receiver.TheSendSync as receiver
use Rattle.stripe_locks.specs.contracts.held.Held as Held
use Rattle.connections.proofs.resting.Resting.TheSendSync as resting
use Rattle.connections.proofs.room.Row.TheSendSync as row
use Rattle.connections.proofs.room.Buffer.TheSendSync as buffer
use Rattle.cmd_serve.specs.contracts.begun.Begun as Begun
use Rattle.cmd_serve.specs.contracts.errands.Errand as Errand
use Rattle.cmd_serve.specs.contracts.errands.Office as Office
use Rattle.cmd_serve.specs.contracts.desk.Seat as Seat
use Rattle.cmd_serve.specs.contracts.desk.Stock as Stock
use Rattle.cmd_serve.specs.contracts.pool.Pool as Pool
use Rattle.cmd_serve.specs.contracts.service.Ending as Ending
use Rattle.cmd_serve.specs.contracts.service.Service as Service

-- what is held, and what has it, may go to another thread
held_send : IsSend (Held.the_field).row
held_send = search (ticket.the_field_send, crosses, sendable) depth 20

begun_send : IsSend Begun.the_row
begun_send = search (held_send, bulk.the_field_send, crosses, sendable) depth 20

errand_send : IsSend Errand.the_row
errand_send = search (begun_send, resting.the_send, crosses, sendable) depth 20

pub office_send : IsSend Office.the_row
office_send = search (errand_send, sender.the_send, receiver.the_send, crosses, sendable) depth 40

pub seat_send : IsSend Seat.the_row
seat_send = search (errand_send, sender.the_send, receiver.the_send, crosses, sendable) depth 40

pub stock_send : IsSend Stock.the_row
stock_send = search (begun_send, row.the_send, buffer.the_send, crosses, sendable) depth 40

module _ (a : NamedLft) (D : RattleType) (g : Ghosts D.Denot) where
  service_fields : IsSend D → AllSync (shape (Service.the_type a D g)).fields
  service_fields s = (
    search sendable,
    (
      shr_sync _ _ _ (map_sync D g s),
      (
        search (first_error.the_field_sync, sendable, crosses) depth 20,
        (search sendable, (search sendable, (search sendable, (search sendable, (search (sendable, crosses), tt))))),
      ),
    ),
  )

  pub service_sync : IsSend D → IsSync (Service.the_row a D g)
  service_sync s = recorded_sync _ _ _ (Service.the_type a D g).to_one (struct_sync (shape (Service.the_type a D g)) (service_fields s))

module _ (a : NamedLft) (D O R : RattleType) (g : Ghosts D.Denot) where
  ending_fields : IsSend D → IsSync O → IsSync R → AllSync (shape (Ending.the_type a D O R g)).fields
  ending_fields s y r = (
    shr_sync _ _ _ r,
    (
      shr_sync _ _ _ (map_sync D g s),
      (
        shr_sync _ _ _ y,
        (
          search (bell.the_sync, sendable, crosses) depth 20,
          (search (sendable, crosses) depth 10, (search (sendable, crosses) depth 10, tt)),
        ),
      ),
    ),
  )

  pub ending_sync : IsSend D → IsSync O → IsSync R → IsSync (Ending.the_row a D O R g)
  ending_sync s y r = recorded_sync _ _ _ (Ending.the_type a D O R g).to_one (struct_sync (shape (Ending.the_type a D O R g)) (ending_fields s y r))

module _ (a : NamedLft) (D O : RattleType) (g : Ghosts D.Denot) where
  pool_fields : IsSend D → IsSync O → AllSync (shape (Pool.the_type a D O g)).fields
  pool_fields s y = (
    search sendable,
    (
      shr_sync _ _ _ (map_sync D g s),
      (
        shr_sync _ _ _ y,
        (
          search (sendable, crosses),
          (search sendable, (search sendable, (search (bell.the_sync, sendable, crosses) depth 20, tt))),
        ),
      ),
    ),
  )

  pub pool_sync : IsSend D → IsSync O → IsSync (Pool.the_row a D O g)
  pool_sync s y = recorded_sync _ _ _ (Pool.the_type a D O g).to_one (struct_sync (shape (Pool.the_type a D O g)) (pool_fields s y))
