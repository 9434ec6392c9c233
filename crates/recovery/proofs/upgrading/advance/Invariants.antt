use Rattle.std.proofs.Common.{◌≡◌, ℕ}
use Rattle.ticket_order.specs.declared.record.Opening.{Opening}
use Rattle.ticket_order.specs.declared.record.Record.{Record}
use Rattle.flusher.specs.Rotating.{logs_of}
use Rattle.recovery.specs.Upgrading.{IsUnmoved, StandsThroughout, logs_after, sealed_stripes}
use Rattle.recovery.proofs.upgrading.advance.Given as goal

abbrev pub invariant-loop : goal.invariant-loop
invariant-loop g l = record {
  unmoved : (n : ℕ) (o : Opening) (p : Record) → IsUnmoved g.D.Disk.states g.D.Disk.honest n o l.initial.keeper p → IsUnmoved g.D.Disk.states g.D.Disk.honest n o l.keeper p;
  stands : (n : ℕ) (o : Opening) (p : Record) → IsUnmoved g.D.Disk.states g.D.Disk.honest n o l.initial.keeper p → StandsThroughout g.D.Disk.states g.D.Disk.honest o.first o.map l.initial.keeper.disk l.keeper.disk;
  logs : logs_of l.keeper ≡ logs_after l.counter (logs_of l.initial.keeper);
  checkpoint : l.keeper.checkpoint ≡ l.initial.keeper.checkpoint;
  sealed : l.keeper.sealed ≡ l.initial.keeper.sealed;
  stripes : sealed_stripes g.D.Disk.states l.keeper ≡ sealed_stripes g.D.Disk.states l.initial.keeper;
  counted : g.D.Disk.failures l.keeper.disk ≡ g.D.Disk.failures l.initial.keeper.disk;
}
