-- The keeper of a running map may go from thread to thread where its disk may, and the map may be shared.
use denote.RattleType.{RattleType}
use denote.Param.Send.{IsSend, IsSync, AllSend, AllSync, sendable, view_send, struct_send, struct_sync, recorded_send, recorded_sync}
use denote.Struct.Declared.{shape}
use Rattle.std.proofs.Crossing.{crosses}
use Rattle.std.proofs.Crossing as heap
use Rattle.disk_model.specs.declared.disk.Disk.{Ghosts}
use Rattle.atomic_table.proofs.shared.Shared.TheSendSync as shared
use Rattle.atomic_table.proofs.send_lease.SendLease.TheSendSync as lease
use Rattle.keyed_lock.proofs.guarding.KeyedLock.TheSendSync as keyed
use Rattle.stripe_locks.specs.contracts.stripes.Stripes as Stripes
use Rattle.stripe_locks.proofs.Crosses.{stripe_send, stripes_sync}
use Rattle.durable_map.specs.contracts.locked_keeper.LockedKeeper as LockedKeeper
use Rattle.durable_map.specs.contracts.locked_keeper.LockedKeeper.TheInside as Inside
use Rattle.durable_map.specs.contracts.locked_keeper.LockedKeeperKeyedStripes.TheImpl as fitting
use Rattle.durable_map.specs.contracts.map.DurableMap as DurableMap
use Rattle.durable_map.proofs.gathering.Gathering.TheSendSync as gathering
use Rattle.durable_map.proofs.telling.Done.TheSendSync as done
use Rattle.java_hash.proofs.stripe_count.StripeCount.TheSendSync as count
use Rattle.journal.specs.contracts.own_steps.OwnSteps as OwnSteps
use Rattle.journal.specs.contracts.own_steps.OwnStepsSteps.TheImpl as stepping
use Rattle.journal.proofs.Crosses.{journal, own_steps}

stripes_send : IsSend (Stripes.the_row)
stripes_send = search (stripe_send, shared.the_send, lease.the_send, heap.frees, count.the_field_send, crosses, sendable) depth 20

module _ (D : RattleType) where
  module _ (g : Ghosts D.Denot) where
    fields : IsSend D → AllSend (shape (Inside.the_type D g)).fields
    fields s = (journal D OwnSteps.the_row g stepping.ghosts s own_steps, ((search sendable), (search (done.the_field_send, crosses, sendable) depth 20, tt)))

    inside : IsSend D → IsSend (Inside.the_row D g)
    inside s = recorded_send _ _ _ (Inside.the_type D g).to_one (struct_send (shape (Inside.the_type D g)) (fields s))

    locked : IsSend D → IsSend (LockedKeeper.the_row D g)
    locked s = search (inside s, view_send)

    map_fields_send : IsSend D → AllSend (shape (DurableMap.the_type D g)).fields
    map_fields_send s = (heap.Arc-send Stripes.the_row stripes_send stripes_sync, (keyed.the_field_send (LockedKeeper.the_row D g) Stripes.the_row (fitting.ghosts D g fitting.no_dict) (locked s), (search (crosses, sendable), (gathering.the_field_send, tt))))

    map_fields_sync : IsSend D → AllSync (shape (DurableMap.the_type D g)).fields
    map_fields_sync s = (heap.Arc-sync Stripes.the_row stripes_send stripes_sync, (keyed.the_field_sync (LockedKeeper.the_row D g) Stripes.the_row (fitting.ghosts D g fitting.no_dict) (locked s), (search (crosses, sendable), (gathering.the_field_sync, tt))))

    pub map_send : IsSend D → IsSend (DurableMap.the_row D g)
    map_send s = recorded_send _ _ _ (DurableMap.the_type D g).to_one (struct_send (shape (DurableMap.the_type D g)) (map_fields_send s))

    -- also where a struct has the map among its fields
    pub map_field_sync : IsSend D → IsSync (DurableMap.the_field D g).row
    map_field_sync s = struct_sync (shape (DurableMap.the_type D g)) (map_fields_sync s)

    pub map_sync : IsSend D → IsSync (DurableMap.the_row D g)
    map_sync s = recorded_sync _ _ _ (DurableMap.the_type D g).to_one (map_field_sync s)

-- as a set for `search`
pub ruleset shared_by_threads = (map_send, map_sync)
