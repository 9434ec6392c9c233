use Rattle.std.proofs.Common.{◌≡◌, ℕ}
use Rattle.ticket_order.specs.declared.record.Opening.{Opening}
use Rattle.flusher.specs.Rotating.{logs_of}
use Rattle.recovery.specs.Upgrading.{HasSections, IsUnmovedWith, StandsThroughout}
use Rattle.recovery.proofs.checkpointing.capture_all.Given as goal

abbrev pub invariant-loop-stripe : goal.invariant-loop-stripe
invariant-loop-stripe g l = record {
  unmoved : (o : Opening) → IsUnmovedWith g.D.Disk.states g.D.Disk.honest o l.initial.keeper l.initial.steps.pass l.initial.steps.words.now → IsUnmovedWith g.D.Disk.states g.D.Disk.honest o l.keeper l.steps.pass l.steps.words.now;
  stands : (o : Opening) → IsUnmovedWith g.D.Disk.states g.D.Disk.honest o l.initial.keeper l.initial.steps.pass l.initial.steps.words.now
      → StandsThroughout g.D.Disk.states g.D.Disk.honest o.first o.map l.initial.keeper.disk l.keeper.disk;
  given : (o : Opening) (generation : ℕ) → IsUnmovedWith g.D.Disk.states g.D.Disk.honest o l.initial.keeper l.initial.steps.pass l.initial.steps.words.now
      → HasSections generation 0 o.first l.initial.keeper.checkpoint → HasSections generation l.stripe o.first l.keeper.checkpoint;
  sealed : l.keeper.sealed ≡ l.initial.keeper.sealed;
  logs : logs_of l.keeper ≡ logs_of l.initial.keeper;
  stripes : l.keeper.stripes ≡ l.initial.keeper.stripes;
  counted : g.D.Disk.failures l.keeper.disk ≡ g.D.Disk.failures l.initial.keeper.disk;
}
