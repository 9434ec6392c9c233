use Rattle.std.proofs.Common.{arith, ap, subst, length, ◌∙◌}
use Rattle.std.proofs.lemmas.List.{length_push}
use Rattle.ticket_order.specs.Walks.{Kind, ToSweep, MakesOne}
use Rattle.flusher.proofs.Walked.{missed}
use Rattle.flusher.proofs.sweeper.hold.Goals as goal

pub step-requires : goal.step-requires
step-requires g c = (g.S.Steps.recorded c.args.steps.now, ToSweep c.args.stripe, c.sweep.ensures.fits _ _ c.requires.free c.requires.within c.requires.keeper)

pub returns-in-More-clause-one : goal.returns-in-More-clause-one
returns-in-More-clause-one g c =
    subst (λ (k : Kind). MakesOne g.S.Steps.recorded g.S.Steps.moves k c.args.steps.now c.step.new.steps) (c.sweep.ensures.first (g.S.Steps.stripe_count c.args.steps.now)) c.step.ensures.one

pub returns-in-More-clause-some : goal.returns-in-More-clause-some
returns-in-More-clause-some g c = record {
  fits = c.in-More.ensures.next (g.S.Steps.recorded c.args.steps.now) (ToSweep c.args.stripe) (c.sweep.ensures.fits _ _ c.requires.free c.requires.within c.requires.keeper);
  one_left = omega (arith, c.in-More.ensures.shorter, c.sweep.ensures.left);
  one_made = ap length c.step.ensures.one.steps ∙ length_push (g.S.Steps.recorded c.args.steps.now).steps c.step.ensures.one.made;
}

pub returns-in_default : goal.returns-in_default
returns-in_default g c = record {
  one = subst (λ (k : Kind). MakesOne g.S.Steps.recorded g.S.Steps.moves k c.args.steps.now c.step.new.steps) (c.sweep.ensures.first (g.S.Steps.stripe_count c.args.steps.now)) c.step.ensures.one;
  some = tt;
  none = missed (g.S.Steps.stripe_count c.args.steps.now) (g.S.Steps.recorded c.args.steps.now) c.args.stripe (g.S.Steps.recorded c.step.new.steps) c.step.result c.step.ensures.one.made
      (c.step.ensures.next (g.S.Steps.recorded c.args.steps.now) (ToSweep c.args.stripe) (c.sweep.ensures.fits _ _ c.requires.free c.requires.within c.requires.keeper))
      c.in_default.not-More c.step.ensures.one.steps;
  pass = c.step.ensures.pass;
}
