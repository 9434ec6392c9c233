use Rattle.std.proofs.Common.{ℕ, true, sym, subst}
use Rattle.ticket_order.specs.declared.record.Record.{Record}
use Rattle.flusher.specs.Fitting.{Fits}
use Rattle.flusher.proofs.FittingKeepers.{fits_failed}
use Rattle.flusher.proofs.keeper.Keeper.fail.Goals as goal

pub returns-clause-fits : goal.returns-clause-fits
returns-clause-fits g c = λ done f.
    let n = g.S.Steps.stripe_count c.args.steps.now in
    let p = g.S.Steps.recorded c.args.steps.now in
    subst (λ (m : ℕ). Fits g.D.Disk.states g.D.Disk.honest m done (record c.args.self.now { has_failed = true }) (g.S.Steps.recorded c.fail.new.self)) (sym c.fail.ensures.stripes)
    (subst (λ (w : Record). Fits g.D.Disk.states g.D.Disk.honest n done (record c.args.self.now { has_failed = true }) w) (sym c.fail.ensures.step)
    (fits_failed g.D.Disk.states g.D.Disk.honest n done c.args.self.now p f c.requires.rests))
