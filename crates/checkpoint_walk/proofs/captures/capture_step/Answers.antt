use Rattle.std.proofs.Common.{◌≡◌, ℕ, Option, None, Some, sym, subst, ◌∙◌}
use Rattle.ticket_order.specs.declared.walk.Walk.{Walk}
use Rattle.checkpoint_walk.specs.Walking.{AfterStep, FitsBy, FitsWalking}
use Rattle.checkpoint_walk.proofs.Given.{none_taken, walk_moved, walked_fits, walked_part}
use Rattle.checkpoint_walk.proofs.ChangedKeepers.{fits_capture}
use Rattle.checkpoint_walk.proofs.captures.capture_step.Goals as goal

pub go_on-requires-clause-walked : goal.go_on-requires-clause-walked
go_on-requires-clause-walked g c =
    let states = g.D.Disk.states in
    let honest = g.D.Disk.honest in
    let is : c.args.keeper.now.capture ≡ Some c.in-Some.walk = sym c.take.ensures.value ∙ c.in-Some.is in
    let k = subst (λ (o : Option Walk). FitsBy o states honest (g.S.Steps.stripe_count c.args.steps.now) c.requires.fits.0 c.args.keeper.now (g.S.Steps.recorded c.args.steps.now)) is c.requires.fits.1 in
    (k.begun, k.stripe, k.walked)

pub returns-in-Some-clause-after : goal.returns-in-Some-clause-after
returns-in-Some-clause-after g c =
    let n = g.S.Steps.stripe_count c.args.steps.now in
    let p = g.S.Steps.recorded c.args.steps.now in
    let w = g.S.Steps.recorded c.go_on.new.steps in
    let is : c.args.keeper.now.capture ≡ Some c.in-Some.walk = sym c.take.ensures.value ∙ c.in-Some.is in
    subst (λ (o : Option Walk). AfterStep n c.args.stripe o c.args.keeper.now c.go_on.new.keeper p w c.go_on.result) (sym is)
    (walk_moved n c.in-Some.walk c.args.keeper.now c.go_on.new.keeper c.take.new.self p w c.go_on.result c.go_on.ensures.after)

pub returns-in-Some-clause-fits : goal.returns-in-Some-clause-fits
returns-in-Some-clause-fits g c = λ done f.
    let states = g.D.Disk.states in
    let honest = g.D.Disk.honest in
    let n = g.S.Steps.stripe_count c.args.steps.now in
    let p = g.S.Steps.recorded c.args.steps.now in
    let w = g.S.Steps.recorded c.go_on.new.steps in
    let old = c.args.keeper.now in
    let is : old.capture ≡ Some c.in-Some.walk = sym c.take.ensures.value ∙ c.in-Some.is in
    let k = subst (λ (o : Option Walk). FitsBy o states honest n done old p) is f in
    subst (λ (m : ℕ). FitsWalking states honest m done c.go_on.new.keeper w) (sym c.go_on.ensures.pass.1)
    (walked_fits states honest n done old c.go_on.new.keeper p w c.in-Some.walk c.go_on.result c.steps_of_checkpoints.ensures.section c.pass_goes_on.ensures.fits c.pass_goes_on.ensures.free k
    (walk_moved n c.in-Some.walk old c.go_on.new.keeper c.take.new.self p w c.go_on.result c.go_on.ensures.after))

pub returns-in-None-clause-fits : goal.returns-in-None-clause-fits
returns-in-None-clause-fits g c = λ done f.
    let states = g.D.Disk.states in
    let honest = g.D.Disk.honest in
    let n = g.S.Steps.stripe_count c.args.steps.now in
    let p = g.S.Steps.recorded c.args.steps.now in
    let old = c.args.keeper.now in
    let is : old.capture ≡ None = sym c.take.ensures.value ∙ c.in-None.is in
    c.take-in-None.ensures.fits done (fits_capture states honest n done old p c.take.new.self (subst (λ (o : Option Walk). FitsBy o states honest n done old p) is f))

pub returns-in-Some-clause-given : goal.returns-in-Some-clause-given
returns-in-Some-clause-given g c = λ done sections f h given.
    let states = g.D.Disk.states in
    let honest = g.D.Disk.honest in
    let n = g.S.Steps.stripe_count c.args.steps.now in
    let p = g.S.Steps.recorded c.args.steps.now in
    let w = g.S.Steps.recorded c.go_on.new.steps in
    let old = c.args.keeper.now in
    let is : old.capture ≡ Some c.in-Some.walk = sym c.take.ensures.value ∙ c.in-Some.is in
    let k = subst (λ (o : Option Walk). FitsBy o states honest n done old p) is f in
    walked_part states honest n done old c.go_on.new.keeper p w c.in-Some.walk c.go_on.result sections c.pass_goes_on.ensures.fits k
    (walk_moved n c.in-Some.walk old c.go_on.new.keeper c.take.new.self p w c.go_on.result c.go_on.ensures.after) h given

pub returns-in-None-clause-given : goal.returns-in-None-clause-given
returns-in-None-clause-given g c = λ done sections f h given.
    none_taken g.D.Disk.states _ _ c.args.stripe _ c.take-in-None.new.keeper (g.S.Steps.recorded c.args.steps.now) (g.S.Steps.recorded c.take-in-None.new.steps) c.take-in-None.result sections c.take-in-None.ensures.after
