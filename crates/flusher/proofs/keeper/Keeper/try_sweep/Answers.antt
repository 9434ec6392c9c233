use Rattle.std.proofs.Common.{ℕ, sym, subst}
use Rattle.flusher.specs.declared.sweeper.Sweeper.{Sweeper}
use Rattle.flusher.specs.Fitting.{Fits}
use Rattle.flusher.proofs.FittingKeepers.{is_free}
use Rattle.flusher.proofs.Trying.{fits_tried, same_if_refused}
use Rattle.flusher.proofs.keeper.Keeper.try_sweep.Goals as goal

pub returns-clause-kept : goal.returns-clause-kept
returns-clause-kept g c = same_if_refused c.args.self.now.sweeper.in_hand c.sweep_stripe.new.self.in_hand c.sweep_stripe.result c.sweep_stripe.ensures.kept

pub returns-clause-fits : goal.returns-clause-fits
returns-clause-fits g c = λ done f.
    let n = g.S.Steps.stripe_count c.args.steps.now in
    let p = g.S.Steps.recorded c.args.steps.now in
    let w = g.S.Steps.recorded c.sweep_stripe.new.steps in
    let k = is_free g.D.Disk.states g.D.Disk.honest n done c.args.self.now p f c.requires.rests in
    subst (λ (m : ℕ). Fits g.D.Disk.states g.D.Disk.honest m done (record c.args.self.now { sweeper = c.sweep_stripe.new.self }) w) (sym c.sweep_stripe.ensures.pass.1)
    (subst (λ (s : Sweeper). Fits g.D.Disk.states g.D.Disk.honest n done (record c.args.self.now { sweeper = s }) w) (sym c.sweep_stripe.ensures.same)
    (fits_tried g.D.Disk.states g.D.Disk.honest n c.args.stripe done c.args.self.now c.sweep_stripe.new.self.in_hand p w c.sweep_stripe.result c.beginnings_of_stores.ensures.stays c.laws_of_found.ensures.stays f c.requires.rests k.free c.sweep_stripe.ensures.ok c.sweep_stripe.ensures.err c.sweep_stripe.ensures.kept))
