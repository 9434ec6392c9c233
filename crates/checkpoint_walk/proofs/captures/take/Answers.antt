use Rattle.std.proofs.Common.{ℕ, Some, sym, subst}
use Rattle.ticket_order.specs.declared.record.Record.{Record}
use Rattle.checkpoint_walk.specs.Walking.{FitsWalking}
use Rattle.checkpoint_walk.proofs.Given.{missed_from, over_fits, taking_fits}
use Rattle.checkpoint_walk.proofs.captures.take.Goals as goal

pub returns-in-Err-clause-fits : goal.returns-in-Err-clause-fits
returns-in-Err-clause-fits g c = λ done f. over_fits g.D.Disk.states g.D.Disk.honest (g.S.Steps.stripe_count c.args.steps.now) done c.args.keeper.now (g.S.Steps.recorded c.args.steps.now) c.requires.over f

pub returns-in-Some-clause-fits : goal.returns-in-Some-clause-fits
returns-in-Some-clause-fits g c = λ done f.
    let states = g.D.Disk.states in
    let honest = g.D.Disk.honest in
    let n = g.S.Steps.stripe_count c.args.steps.now in
    let w = g.S.Steps.recorded c.hold.new.steps in
    let k = c.args.keeper.now in
    subst (λ (m : ℕ). FitsWalking states honest m done c.go_under_way.new.keeper w) (sym c.in-Some.ensures.pass.1)
    (subst (λ (keeper : _). FitsWalking states honest n done keeper w) (sym c.go_under_way.ensures)
    (taking_fits states honest n done k (g.S.Steps.recorded c.args.steps.now) w c.args.stripe c.in-Some.walk f c.requires.rests c.in-Ok.ensures.ok.0 c.in-Ok.ensures.ok.1 c.in-Some.ensures.some))

pub returns-in-None-clause-fits : goal.returns-in-None-clause-fits
returns-in-None-clause-fits g c = λ done f.
    let states = g.D.Disk.states in
    let honest = g.D.Disk.honest in
    let n = g.S.Steps.stripe_count c.args.steps.now in
    let k = c.args.keeper.now in
    let w = g.S.Steps.recorded c.hold.new.steps in
    subst (λ (m : ℕ). FitsWalking states honest m done k w) (sym c.in-None.ensures.pass.1)
    (subst (λ (r : Record). FitsWalking states honest n done k r) (sym c.in-None.ensures.none)
    (over_fits states honest n done k _ c.requires.over (missed_from states honest n done k (g.S.Steps.recorded c.args.steps.now) c.args.stripe c.pass_goes_on.ensures.fits c.pass_goes_on.ensures.free f c.requires.rests)))
