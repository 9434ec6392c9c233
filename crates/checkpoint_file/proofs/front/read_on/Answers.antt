use Rattle.std.proofs.Common.{ℕ, List, sym, subst}
use Rattle.file_pieces.specs.Pieces.{Holds}
use Rattle.checkpoint_file.specs.Loads.{seen_in}
use Rattle.checkpoint_file.proofs.LookLemmas.{same_seen}
use Rattle.checkpoint_file.proofs.front.read_on.Goals as goal

pub returns-in-Ok-clause-held : goal.returns-in-Ok-clause-held
returns-in-Ok-clause-held g c = λ honest.
    let old = c.args.disk.now in
    let file = c.requires.at.file in
    let there = c.requires.held (c.in-Ok.ensures.looks.was_honest honest) in
    let read = c.in-Ok.ensures.holds honest (subst (λ (n : ℕ). Holds (seen_in g.D.Disk.states old n) c.args.reader.now) (sym file) there) in
    subst (λ (content : List ℕ). Holds content c.reach.new.self)
    (sym (same_seen g.D.Disk.states g.D.Disk.failures g.D.Disk.honest old c.reach.new.disk c.args.reader.now.file c.args.unread.file (sym file) c.in-Ok.ensures.looks)) read
