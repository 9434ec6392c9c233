use Rattle.std.proofs.Common.{◌≡◌, ◌∙◌, ◌++◌, List, Ok, ap, subst}
use Rattle.ticket_order.specs.declared.stripe.Entry.{Entry}
use Rattle.gate_log.specs.States.{commands_of}
use Rattle.flusher.specs.declared.keeper.Keeper.{Keeper}
use Rattle.flusher.specs.declared.sweeper.Swept.TheVariants.{Done}
use Rattle.flusher.specs.Sweeping.{IsDone}
use Rattle.flusher.proofs.Counting.{After, gave_back, goes_on, not_over, stays_in}
use Rattle.flusher.proofs.Quiet.{quiet_then}
use Rattle.flusher.proofs.Seeing.{sees_then}
use Rattle.flusher.proofs.Trying.{put_back_at, stays_at}
use Rattle.flusher.proofs.keeper.Keeper.sweep.Goals as goal

pub sweep_step-requires : goal.sweep_step-requires
sweep_step-requires g c = (c.requires.0, c.loop-step.invariant.fits c.requires.0 c.requires.1)

pub returns-in-Err-clause-err : goal.returns-in-Err-clause-err
returns-in-Err-clause-err g c =
    let f = c.in-Err.ensures.fits c.requires.0 (c.loop-step.invariant.fits c.requires.0 c.requires.1) in
    let k = put_back_at _ _ _ _ _ _ _ _ c.in-Err.ensures.steps_on in
    (k.refused, stays_at _ _ _ _ k.sweep f.stands k.sweep_is k.walking)

pub returns-in-Err-clause-fits : goal.returns-in-Err-clause-fits
returns-in-Err-clause-fits g c = λ done f. c.in-Err.ensures.fits done (c.loop-step.invariant.fits done f)

pub returns-in-Err-clause-seen : goal.returns-in-Err-clause-seen
returns-in-Err-clause-seen g c = sees_then _ _ _ c.loop-step.invariant.seen c.sweep_step.ensures.seen

pub returns-in-Done-clause-seen : goal.returns-in-Done-clause-seen
returns-in-Done-clause-seen g c = sees_then _ _ _ c.loop-step.invariant.seen c.sweep_step.ensures.seen

pub returns-in-Err-clause-stays : goal.returns-in-Err-clause-stays
returns-in-Err-clause-stays g c =
    let one = c.sweep_step.ensures.one in
    stays_in _ _ _ _ (goes_on _ _ _ _ _ _ _ _ _ _ one.made one.steps one.kind_is c.in-Err.ensures.steps_on c.loop-step.invariant.under_way)

pub returns-in-Err-clause-gave : goal.returns-in-Err-clause-gave
returns-in-Err-clause-gave g c =
    let one = c.sweep_step.ensures.one in
    gave_back _ _ _ _ _ _ _ _ _ _ one.made one.steps one.kind_is c.in-Err.ensures.steps_on c.loop-step.invariant.under_way

pub returns-in-Done-clause-count : goal.returns-in-Done-clause-count
returns-in-Done-clause-count g c =
    let one = c.sweep_step.ensures.one in
    subst (λ s. After c.args.self.now.sweeper.sweep c.sweep_step.new.self.sweeper.sweep (g.S.Steps.recorded c.args.steps.now) (g.S.Steps.recorded c.sweep_step.new.steps) (Ok s)) c.in-Done.is
    (goes_on _ _ _ _ _ _ _ _ _ _ one.made one.steps one.kind_is c.in-Ok.ensures.steps_on c.loop-step.invariant.under_way)

pub returns-in-Done-clause-done : goal.returns-in-Done-clause-done
returns-in-Done-clause-done g c = λ done f.
    let w = g.S.Steps.recorded c.sweep_step.new.steps in
    let same : c.loop-step.self.staged.items ≡ c.args.self.now.staged.items = ap (λ (k : Keeper g.row.D.Denot). k.staged.items) c.loop-step.invariant.same in
    subst (λ (es : List Entry). IsDone c.sweep_step.new.self.sweeper (done ++ commands_of es) w (Done c.in-Done.count)) same
    (subst (λ s. IsDone c.sweep_step.new.self.sweeper (done ++ commands_of c.loop-step.self.staged.items) w s) c.in-Done.is (c.in-Ok.ensures.done done (c.loop-step.invariant.fits done f)))

pub returns-in-Done-clause-fits : goal.returns-in-Done-clause-fits
returns-in-Done-clause-fits g c = λ done f. c.in-Ok.ensures.fits done (c.loop-step.invariant.fits done f)

pub loop-step-preserved : goal.loop-step-preserved
loop-step-preserved g c =
    let i = c.loop-step.invariant in
    let e = c.sweep_step.ensures in
    record {
      next = tt;
      finite = tt;
      fits = λ done f. e.fits done (i.fits done f);
      quiet = quiet_then _ _ _ i.quiet e.quiet;
      under_way = not_over _ _ _ _ c.in-Ok.swept c.in_default.not-Done (goes_on _ _ _ _ _ _ _ _ _ _ e.one.made e.one.steps e.one.kind_is c.in-Ok.ensures.steps_on i.under_way);
      seen = sees_then _ _ _ i.seen e.seen;
      same = e.same ∙ ap (λ (k : Keeper g.row.D.Denot). record k { sweeper = c.sweep_step.new.self.sweeper }) i.same;
      pass = (e.pass.0 ∙ i.pass.0, e.pass.1 ∙ i.pass.1);
    }
