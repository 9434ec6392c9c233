use Rattle.std.proofs.Common.{◌++◌, ℕ, sym, subst}
use Rattle.gate_log.specs.States.{commands_of}
use Rattle.flusher.specs.Sweeping.{Stands}
use Rattle.flusher.specs.Fitting.{Fits}
use Rattle.flusher.proofs.Quiet.{calm_step}
use Rattle.flusher.proofs.Seeing.{sees_more}
use Rattle.flusher.proofs.FittingKeepers.{fits_swept}
use Rattle.flusher.proofs.keeper.Keeper.sweep_step.Goals as goal

pub returns-clause-fits : goal.returns-clause-fits
returns-clause-fits g c = λ done f.
    let n = g.S.Steps.stripe_count c.args.steps.now in
    let w = g.S.Steps.recorded c.step.new.steps in
    let gone = done ++ commands_of c.args.self.now.staged.items in
    let calm = calm_step n c.args.self.now.sweeper gone c.step.new.self (g.S.Steps.recorded c.args.steps.now) w c.step.result f.stands c.step.ensures.steps_on in
    subst (λ (m : ℕ). Fits g.D.Disk.states g.D.Disk.honest m done (record c.args.self.now { sweeper = c.step.new.self }) w) (sym c.step.ensures.pass.1)
    (fits_swept g.D.Disk.states g.D.Disk.honest n done c.args.self.now c.step.new.self (g.S.Steps.recorded c.args.steps.now) w c.beginnings_of_stores.ensures.stays c.laws_of_found.ensures.stays f
    (subst (λ (m : ℕ). Stands m c.step.new.self gone w) c.step.ensures.pass.1 (c.step.ensures.stands gone f.stands)) calm.quiet
    (sees_more n c.args.self.now.sweeper gone c.step.new.self (g.S.Steps.recorded c.args.steps.now) w c.step.result f.stands c.step.ensures.steps_on) calm.next)

pub returns-clause-quiet : goal.returns-clause-quiet
returns-clause-quiet g c =
    let f = c.requires.1 in
    (calm_step (g.S.Steps.stripe_count c.args.steps.now) c.args.self.now.sweeper (c.requires.0 ++ commands_of c.args.self.now.staged.items) c.step.new.self (g.S.Steps.recorded c.args.steps.now) (g.S.Steps.recorded c.step.new.steps)
    c.step.result f.stands c.step.ensures.steps_on).quiet

pub returns-clause-seen : goal.returns-clause-seen
returns-clause-seen g c =
    let f = c.requires.1 in
    sees_more (g.S.Steps.stripe_count c.args.steps.now) c.args.self.now.sweeper (c.requires.0 ++ commands_of c.args.self.now.staged.items) c.step.new.self (g.S.Steps.recorded c.args.steps.now) (g.S.Steps.recorded c.step.new.steps)
    c.step.result f.stands c.step.ensures.steps_on
