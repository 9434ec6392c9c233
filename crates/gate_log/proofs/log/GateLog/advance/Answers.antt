use Rattle.std.proofs.Common.{◌≡◌, sym, ap, ◌∙◌, true, false}
use Rattle.gate_log.specs.States.{LogState}
use Rattle.gate_log.proofs.AdvanceLemmas.{some_due, succeeded, failed, may_go_on}
use Rattle.gate_log.proofs.log.GateLog.advance.Goals as goal

pub returns-in-Ok-clause-advances : goal.returns-in-Ok-clause-advances
returns-in-Ok-clause-advances g c = λ works other.
    let log = c.args.self.now in
    let due = some_due log.phase log other in
    succeeded g.D.Disk.states g.D.Disk.failures g.D.Disk.honest log c.args.disk.now c.make_call.new.disk due.0 due.1 c.in-Ok.ensures.was_honest (c.in-Ok.ensures.ok due.0 due.1)
    c.go_on.new.self c.go_on.ensures c.self-in-Ok.inside.phase (ap (λ (l : LogState). l.phase) c.self-in-Ok.view_is)

pub returns-in-Err-clause-advances : goal.returns-in-Err-clause-advances
returns-in-Err-clause-advances g c = λ works other.
    let log = c.args.self.now in
    let due = some_due log.phase log other in
    failed g.D.Disk.states g.D.Disk.failures g.D.Disk.honest log c.args.disk.now c.make_call.new.disk due.0 due.1 c.in-Err.ensures.was_honest (c.in-Err.ensures.err due.0 due.1)
    _ (ap (λ (l : LogState). record l { is_broken = true }) c.self.view_is)

pub returns-in-Ok-clause-stands : goal.returns-in-Ok-clause-stands
returns-in-Ok-clause-stands g c =
    let log = c.args.self.now in
    let works : log.is_broken ≡ false = ap (λ (l : LogState). l.is_broken) (sym c.self.view_is) ∙ c.if-self.false in
    may_go_on g.D.Disk.states g.D.Disk.failures g.D.Disk.honest log c.args.disk.now c.make_call.new.disk (λ rests. (c.in-Ok.ensures.idle rests).1) c.in-Ok.ensures.ok c.in-Ok.ensures.was_honest works
    c.go_on.new.self c.go_on.ensures c.requires.stands
