use Rattle.std.proofs.Common.{◌≡◌, ◌+◌, ◌-◌, ◌≤◌, max, length}
use Rattle.disk_model.specs.Calls.{Looks}
use Rattle.disk_model.specs.Files.{now}
use Rattle.file_pieces.specs.Pieces.{Holds, IsSameFile, end_of, pieces_in}
use Rattle.file_pieces.proofs.reader.FileReader.reach.Given as goal

-- so many pieces were read, each by one look
abbrev pub invariant-loop-self : goal.invariant-loop-self
invariant-loop-self g l = record {
  looks : Looks g.D.Disk.states g.D.Disk.failures g.D.Disk.honest 0 l.fn.disk l.disk;
  file : IsSameFile l.fn.self l.self;
  from : l.self.from ≡ l.fn.self.from;
  forward : end_of l.fn.self ≤ end_of l.self;
  no_more : pieces_in (end_of l.self) ≤ max (pieces_in (end_of l.fn.self)) (pieces_in l.end);
  called : length (g.D.Disk.states l.disk) + pieces_in (end_of l.fn.self) ≡ length (g.D.Disk.states l.fn.disk) + pieces_in (end_of l.self);
  holds : g.D.Disk.honest l.disk → Holds (now (g.D.Disk.states l.fn.disk) l.fn.self.file).seen l.fn.self
      → Holds (now (g.D.Disk.states l.fn.disk) l.fn.self.file).seen l.self;
}

abbrev pub decreases-loop-self : goal.decreases-loop-self
decreases-loop-self g l = l.self.len - end_of l.self
