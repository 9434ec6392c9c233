use Rattle.recovery.specs.Syncing.{AfterSyncs}
use Rattle.recovery.proofs.syncing.sync_files.Given as goal

-- so many files were synced
abbrev pub invariant-loop-file : goal.invariant-loop-file
invariant-loop-file g l = record {
  synced : AfterSyncs g.D.Disk.states g.D.Disk.failures l.file l.fn.disk l.disk;
  was_honest : g.D.Disk.honest l.disk → g.D.Disk.honest l.fn.disk;
}
