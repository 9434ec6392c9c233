use Rattle.std.proofs.Common.{ℕ, sym, ◌∙◌, subst}
use Rattle.ticket_order.specs.declared.record.Record.{Record}
use Rattle.flusher.specs.Fitting.{Fits}
use Rattle.checkpoint_walk.specs.Capturing.{HasLooked, HasTaken}
use Rattle.checkpoint_walk.proofs.Given.{missed_from, whole_from, whole_given}
use Rattle.checkpoint_walk.proofs.captures.try_capture.Goals as goal

pub returns-in_default-clause-fits : goal.returns-in_default-clause-fits
returns-in_default-clause-fits g c = λ done f.
    let states = g.D.Disk.states in
    let honest = g.D.Disk.honest in
    let n = g.S.Steps.stripe_count c.args.steps.now in
    let k = c.args.keeper.now in
    subst (λ (m : ℕ). Fits states honest m done k (g.S.Steps.recorded c.hold.new.steps)) (sym c.in_default.ensures.pass.1)
    (subst (λ (w : Record). Fits states honest n done k w) (sym c.in_default.ensures.none)
    (missed_from states honest n done k (g.S.Steps.recorded c.args.steps.now) c.args.stripe c.pass_goes_on.ensures.fits c.pass_goes_on.ensures.free f c.requires.rests))

pub look-walk-requires : goal.look-walk-requires
look-walk-requires g c = (
  g.S.Steps.recorded c.args.steps.now,
  c.args.stripe,
  subst (λ (m : ℕ). HasTaken m (g.S.Steps.recorded c.args.steps.now) c.args.stripe c.in-Some.walk (g.S.Steps.recorded c.hold.new.steps)) (sym c.in-Some.ensures.pass.1) c.in-Some.ensures.some,
)

pub give-requires-clause-next : goal.give-requires-clause-next
give-requires-clause-next g c = (c.args.stripe, c.in-Ok.ensures.ok.1)

pub give-requires-clause-looked : goal.give-requires-clause-looked
give-requires-clause-looked g c =
    let b = g.S.Steps.recorded c.args.steps.now in
    let i = c.args.stripe in
    let taken = subst (λ (m : ℕ). HasTaken m b i c.in-Some.walk (g.S.Steps.recorded c.hold.new.steps)) (sym c.in-Some.ensures.pass.1) c.in-Some.ensures.some in
    (b, i, subst (λ (m : ℕ). HasLooked m b i c.look-walk.result (g.S.Steps.recorded c.look-walk.new.steps)) (sym c.look-walk.ensures.pass.1) (c.look-walk.ensures.looked b i taken))

pub returns-clause-fits : goal.returns-clause-fits
returns-clause-fits g c = λ done f.
    let states = g.D.Disk.states in
    let honest = g.D.Disk.honest in
    let b = g.S.Steps.recorded c.args.steps.now in
    let i = c.args.stripe in
    let k = c.args.keeper.now in
    let w = g.S.Steps.recorded c.give.new.steps in
    let m = g.S.Steps.stripe_count c.look-walk.new.steps in
    let taken = subst (λ (m : ℕ). HasTaken m b i c.in-Some.walk (g.S.Steps.recorded c.hold.new.steps)) (sym c.in-Some.ensures.pass.1) c.in-Some.ensures.some in
    let looked = subst (λ (m : ℕ). HasLooked m b i c.look-walk.result (g.S.Steps.recorded c.look-walk.new.steps)) (sym c.look-walk.ensures.pass.1) (c.look-walk.ensures.looked b i taken) in
    let same = c.look-walk.ensures.pass.1 ∙ c.in-Some.ensures.pass.1 in
    subst (λ (m : ℕ). Fits states honest m done c.give.new.keeper w) (sym c.give.ensures.pass.1)
    (whole_from states honest m done k b (g.S.Steps.recorded c.look-walk.new.steps) w i c.look-walk.result c.give.result c.give.new.keeper c.steps_of_checkpoints.ensures.section c.pass_goes_on.ensures.fits c.pass_goes_on.ensures.free
    (subst (λ (m : ℕ). Fits states honest m done k b) (sym same) f) c.requires.rests c.in-Ok.ensures.ok.0 c.in-Ok.ensures.ok.1 looked c.give.ensures.given c.give.ensures.back)

pub returns-clause-given : goal.returns-clause-given
returns-clause-given g c = λ done sections f h given.
    let states = g.D.Disk.states in
    let honest = g.D.Disk.honest in
    let n = g.S.Steps.stripe_count c.args.steps.now in
    let b = g.S.Steps.recorded c.args.steps.now in
    let w = g.S.Steps.recorded c.give.new.steps in
    let i = c.args.stripe in
    let m = g.S.Steps.stripe_count c.look-walk.new.steps in
    let taken = subst (λ (m : ℕ). HasTaken m b i c.in-Some.walk (g.S.Steps.recorded c.hold.new.steps)) (sym c.in-Some.ensures.pass.1) c.in-Some.ensures.some in
    let looked = subst (λ (m : ℕ). HasLooked m b i c.look-walk.result (g.S.Steps.recorded c.look-walk.new.steps)) (sym c.look-walk.ensures.pass.1) (c.look-walk.ensures.looked b i taken) in
    let same = c.look-walk.ensures.pass.1 ∙ c.in-Some.ensures.pass.1 in
    whole_given states honest n m done c.args.keeper.now b (g.S.Steps.recorded c.look-walk.new.steps) w i c.look-walk.result c.give.result c.give.new.keeper sections same c.pass_goes_on.ensures.fits f c.requires.rests c.in-Ok.ensures.ok.0 c.in-Ok.ensures.ok.1 looked c.give.ensures.given h given
