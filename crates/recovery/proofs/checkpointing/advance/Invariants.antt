use Rattle.std.proofs.Common.{◌≡◌, ◌≢◌, ℕ}
use Rattle.ticket_order.specs.declared.record.Opening.{Opening}
use Rattle.ticket_order.specs.declared.record.Record.{Record}
use Rattle.flusher.specs.Rotating.{logs_of}
use Rattle.checkpoint_walk.specs.Checkpointing.{checkpoints_of}
use Rattle.recovery.specs.Upgrading.{IsUnmoved, StandsThroughout, checkpoints_after, sealed_stripes}
use Rattle.recovery.proofs.checkpointing.advance.Given as goal

abbrev pub invariant-loop : goal.invariant-loop
invariant-loop g l = record {
  unmoved : (n : ℕ) (o : Opening) (p : Record) → IsUnmoved g.D.Disk.states g.D.Disk.honest n o l.initial.keeper p → IsUnmoved g.D.Disk.states g.D.Disk.honest n o l.keeper p;
  stands : (n : ℕ) (o : Opening) (p : Record) → IsUnmoved g.D.Disk.states g.D.Disk.honest n o l.initial.keeper p → StandsThroughout g.D.Disk.states g.D.Disk.honest o.first o.map l.initial.keeper.disk l.keeper.disk;
  checkpoints : checkpoints_of l.keeper ≡ checkpoints_after l.counter (checkpoints_of l.initial.keeper);
  logs : logs_of l.keeper ≡ logs_of l.initial.keeper;
  stripes : l.keeper.stripes ≡ l.initial.keeper.stripes;
  seals : g.D.Disk.honest l.keeper.disk → l.keeper.sealed ≢ l.initial.keeper.sealed → sealed_stripes g.D.Disk.states l.keeper ≡ l.initial.keeper.stripes.count;
  counted : g.D.Disk.failures l.keeper.disk ≡ g.D.Disk.failures l.initial.keeper.disk;
}
