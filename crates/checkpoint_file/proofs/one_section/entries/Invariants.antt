use Rattle.std.proofs.Common.{◌≡◌, length}
use Rattle.log_records.specs.Layout.{layout_of}
use Rattle.disk_model.specs.Calls.{Looks}
use Rattle.store_layout.specs.Checkpoints.{entries_bytes}
use Rattle.store_layout.specs.Faults.{AreEntries}
use Rattle.checkpoint_file.specs.Loads.{seen_in, ForRest, IsBehind, GoesOn}
use Rattle.file_pieces.specs.Counting.{ReadsPieces}
use Rattle.file_pieces.specs.Pieces.{Holds}
use Rattle.checkpoint_file.specs.Front.{IsAt}
use Rattle.checkpoint_file.proofs.one_section.entries.Given as goal

-- so many entries were read with looks alone, and the rest stands behind them
abbrev pub invariant-loop : goal.invariant-loop
invariant-loop g l = record {
  looks : Looks g.D.Disk.states g.D.Disk.failures g.D.Disk.honest 0 l.fn.disk l.disk;
  behind : IsBehind l.fn.unread l.rest;
  so_many : l.counter ≡ length l.entries.items;
  are : AreEntries (layout_of l.fn.unread.version) l.stripe.of.count l.stripe.number l.entries.items;
  at : IsAt l.reader l.rest;
  called : ReadsPieces g.D.Disk.states l.fn.disk l.disk l.fn.reader l.reader;
  held : g.D.Disk.honest l.disk → Holds (seen_in g.D.Disk.states l.disk l.rest.file) l.reader;
  read : g.D.Disk.honest l.disk → ForRest g.D.Disk.states l.fn.disk l.fn.unread (λ rest.
      GoesOn (seen_in g.D.Disk.states l.fn.disk l.fn.unread.file) (entries_bytes (layout_of l.fn.unread.version) l.entries.items) rest l.rest);
}
