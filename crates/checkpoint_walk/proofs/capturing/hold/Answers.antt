use Rattle.std.proofs.Common.{ap, length, subst, ◌∙◌}
use Rattle.std.proofs.lemmas.List.{length_push}
use Rattle.ticket_order.specs.Walks.{Kind, ToCapture, MakesOne}
use Rattle.checkpoint_walk.proofs.Walked.{missed, taken_next}
use Rattle.checkpoint_walk.proofs.capturing.hold.Goals as goal

pub step-requires : goal.step-requires
step-requires g c = (g.S.Steps.recorded c.args.steps.now, ToCapture c.args.stripe, c.capture.ensures.fits _ _ c.requires.free c.requires.within)

pub returns-in-More-clause-some : goal.returns-in-More-clause-some
returns-in-More-clause-some g c =
    taken_next _ _ _ _ _ (c.in-More.ensures.next (g.S.Steps.recorded c.args.steps.now) (ToCapture c.args.stripe) (c.capture.ensures.fits _ _ c.requires.free c.requires.within))
    (ap length c.step.ensures.one.steps ∙ length_push (g.S.Steps.recorded c.args.steps.now).steps c.step.ensures.one.made)

pub returns-in_default : goal.returns-in_default
returns-in_default g c = record {
  one = subst (λ (k : Kind). MakesOne g.S.Steps.recorded g.S.Steps.moves k c.args.steps.now c.step.new.steps) (c.capture.ensures.first (g.S.Steps.stripe_count c.args.steps.now)) c.step.ensures.one;
  some = tt;
  none = missed (g.S.Steps.stripe_count c.args.steps.now) (g.S.Steps.recorded c.args.steps.now) c.args.stripe (g.S.Steps.recorded c.step.new.steps) c.step.result
      (c.step.ensures.next (g.S.Steps.recorded c.args.steps.now) (ToCapture c.args.stripe) (c.capture.ensures.fits _ _ c.requires.free c.requires.within))
      c.in_default.not-More (ap length c.step.ensures.one.steps ∙ length_push (g.S.Steps.recorded c.args.steps.now).steps c.step.ensures.one.made);
  pass = c.step.ensures.pass;
}
