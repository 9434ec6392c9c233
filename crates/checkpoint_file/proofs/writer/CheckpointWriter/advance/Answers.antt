use Rattle.std.proofs.Common.{◌≡◌, sym, ap, ◌∙◌, true, false}
use Rattle.checkpoint_file.specs.States.{CheckpointState}
use Rattle.checkpoint_file.proofs.AdvanceLemmas.{placed_if, succeeded, failed, may_go_on}
use Rattle.checkpoint_file.proofs.writer.CheckpointWriter.advance.Goals as goal

pub make_call-requires : goal.make_call-requires
make_call-requires g c =
    let w = c.args.self.now in
    let works : w.is_broken ≡ false = ap (λ (v : CheckpointState). v.is_broken) (sym c.self.view_is) ∙ c.if-self.false in
    record { place = placed_if g.D.Disk.states g.D.Disk.failures g.D.Disk.honest w c.args.disk.now c.args.disk.now c.requires.stands works }

pub returns-in-Ok-clause-advances : goal.returns-in-Ok-clause-advances
returns-in-Ok-clause-advances g c = λ works call due.
    let w = c.args.self.now in
    succeeded g.D.Disk.states g.D.Disk.failures g.D.Disk.honest w c.args.disk.now c.make_call.new.disk call due c.in-Ok.ensures.was_honest (c.in-Ok.ensures.ok call due)
    c.go_on.new.self c.go_on.ensures c.self-in-Ok.inside.phase (ap (λ (v : CheckpointState). v.phase) c.self-in-Ok.view_is)

pub returns-in-Err-clause-advances : goal.returns-in-Err-clause-advances
returns-in-Err-clause-advances g c = λ works call due.
    let w = c.args.self.now in
    failed g.D.Disk.states g.D.Disk.failures g.D.Disk.honest w c.args.disk.now c.make_call.new.disk call due c.in-Err.ensures.was_honest (c.in-Err.ensures.err call due)
    _ (ap (λ (v : CheckpointState). record v { is_broken = true }) c.self.view_is)

pub returns-in-Ok-clause-stands : goal.returns-in-Ok-clause-stands
returns-in-Ok-clause-stands g c =
    let w = c.args.self.now in
    let works : w.is_broken ≡ false = ap (λ (v : CheckpointState). v.is_broken) (sym c.self.view_is) ∙ c.if-self.false in
    may_go_on g.D.Disk.states g.D.Disk.failures g.D.Disk.honest w c.args.disk.now c.make_call.new.disk (λ rests. (c.in-Ok.ensures.rests rests).1) c.in-Ok.ensures.ok c.in-Ok.ensures.was_honest works
    c.go_on.new.self c.go_on.ensures c.requires.stands
