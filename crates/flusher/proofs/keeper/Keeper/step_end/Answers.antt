use Rattle.std.proofs.Common.{sym, ap, subst}
use Rattle.gate_log.specs.LogSteps.{Advances}
use Rattle.flusher.specs.declared.keeper.Keeper.{Keeper}
use Rattle.flusher.proofs.keeper.Keeper.step_end.Goals as goal

pub returns-then-is_ok-clause-advances : goal.returns-then-is_ok-clause-advances
returns-then-is_ok-clause-advances g c =
    let t = c.advance-called in
    let noted = c.noted-stepped in
    let disk = ap (λ (k : Keeper g.row.D.Denot). k.disk) noted.ensures.same in
    let advances = Advances g.D.Disk.states g.D.Disk.failures g.D.Disk.honest c.args.self.now.log t.new.self c.args.self.now.disk in (
      t.new.self,
      subst (λ (d : g.row.D.Denot). advances d noted.result) (sym disk)
          (subst (λ r. advances t.new.disk r) (sym noted.ensures.result) (t.ensures.advances c.requires.works.1 c.requires.moves)),
    )

pub returns-else-is_last-clause-advances : goal.returns-else-is_last-clause-advances
returns-else-is_last-clause-advances g c =
    let t = c.advance-called in
    let noted = c.noted-stepped in
    let disk = ap (λ (k : Keeper g.row.D.Denot). k.disk) noted.ensures.same in
    let advances = Advances g.D.Disk.states g.D.Disk.failures g.D.Disk.honest c.args.self.now.log t.new.self c.args.self.now.disk in (
      t.new.self,
      subst (λ (d : g.row.D.Denot). advances d noted.result) (sym disk)
          (subst (λ r. advances t.new.disk r) (sym noted.ensures.result) (t.ensures.advances c.requires.works.1 c.requires.moves)),
    )
