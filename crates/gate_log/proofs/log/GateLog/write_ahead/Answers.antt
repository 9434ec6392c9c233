use Rattle.std.proofs.Common.{◌≡◌, inr, sym, ap, ◌∙◌, false, true, rules}
use Rattle.gate_log.specs.States.{LogState}
use Rattle.gate_log.specs.Ahead.{IsAheadDue}
use Rattle.gate_log.proofs.AheadLemmas.{wrote, failed, may_go_on}
use Rattle.gate_log.proofs.log.GateLog.write_ahead.Goals as goal

pub returns-in-Ok-clause-stands : goal.returns-in-Ok-clause-stands
returns-in-Ok-clause-stands g c =
    let log = c.args.self.now in
    let due : IsAheadDue c.args.zeros.now log = search rules in
    let works : log.is_broken ≡ false = ap (λ (l : LogState). l.is_broken) (sym c.self.view_is) ∙ c.if-self.false in
    may_go_on g.D.Disk.states g.D.Disk.failures g.D.Disk.honest log c.args.zeros.now c.args.disk.now c.write_zeros.new.disk due c.in-Ok.ensures.was_honest c.in-Ok.ensures.ok works _ c.self.view_is c.requires.stands

pub returns-in-Ok-clause-works : goal.returns-in-Ok-clause-works
returns-in-Ok-clause-works g c = λ works.
    let log = c.args.self.now in
    let due : IsAheadDue c.args.zeros.now log = search rules in
    inr (wrote g.D.Disk.states g.D.Disk.failures g.D.Disk.honest log c.args.zeros.now c.args.disk.now c.write_zeros.new.disk due c.in-Ok.ensures.was_honest c.in-Ok.ensures.ok _ c.self.view_is)

pub returns-in-Err-clause-works : goal.returns-in-Err-clause-works
returns-in-Err-clause-works g c = λ works.
    let log = c.args.self.now in
    let due : IsAheadDue c.args.zeros.now log = search rules in
    inr (failed g.D.Disk.states g.D.Disk.failures g.D.Disk.honest log c.args.zeros.now c.args.disk.now c.write_zeros.new.disk due c.in-Err.ensures.was_honest c.in-Err.ensures.err _ (ap (λ (l : LogState). record l { is_broken = true }) c.self.view_is))
