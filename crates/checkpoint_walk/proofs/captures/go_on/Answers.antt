use Rattle.std.proofs.Common.{ap, sym, ◌∙◌}
use Rattle.std.specs.Option.{option_map}
use Rattle.ticket_order.specs.Walks.{ToCapture}
use Rattle.checkpoint_walk.proofs.Walked.{looked_after, looked_of, some_there, taken_of, under_way}
use Rattle.checkpoint_walk.proofs.captures.go_on.Goals as goal

pub give-requires-clause-looked : goal.give-requires-clause-looked
give-requires-clause-looked g c =
    let x = some_there c.captured.result c.is_some-has_looked.result c.is_some-has_looked.ensures c.if-has_looked.true in
    (c.requires.walked.0, c.requires.walked.1, looked_of _ c.requires.walked.0 c.requires.walked.1 c.args.walk _ x.0.0.now (sym c.captured.ensures.captured ∙ ap (option_map (λ found. found.0.now)) x.1) c.requires.walked.2)

pub returns-in-Ok-clause-after : goal.returns-in-Ok-clause-after
returns-in-Ok-clause-after g c =
    let x = some_there c.captured.result c.is_some-has_looked.result c.is_some-has_looked.ensures c.if-has_looked.true in
    let l = looked_of (g.S.Steps.stripe_count c.args.steps.now) c.requires.walked.0 c.requires.walked.1 c.args.walk (g.S.Steps.recorded c.args.steps.now) x.0.0.now (sym c.captured.ensures.captured ∙ ap (option_map (λ found. found.0.now)) x.1) c.requires.walked.2 in
    (c.requires.walked.1, l.next, λ b k. c.in-Ok.ensures.given b c.requires.walked.1 k)

pub returns-in-Err-clause-after : goal.returns-in-Err-clause-after
returns-in-Err-clause-after g c =
    let x = some_there c.captured.result c.is_some-has_looked.result c.is_some-has_looked.ensures c.if-has_looked.true in
    let l = looked_of (g.S.Steps.stripe_count c.args.steps.now) c.requires.walked.0 c.requires.walked.1 c.args.walk (g.S.Steps.recorded c.args.steps.now) x.0.0.now (sym c.captured.ensures.captured ∙ ap (option_map (λ found. found.0.now)) x.1) c.requires.walked.2 in
    (c.requires.walked.1, l.next, λ b k. c.in-Err.ensures.back b c.requires.walked.1 k)

pub step-requires : goal.step-requires
step-requires g c = under_way _ c.requires.walked.0 c.requires.walked.1 c.args.walk _ c.requires.walked.2

pub returns-in-More-clause-after : goal.returns-in-More-clause-after
returns-in-More-clause-after g c =
    let n = g.S.Steps.stripe_count c.args.steps.now in
    let p = g.S.Steps.recorded c.args.steps.now in
    let w = g.S.Steps.recorded c.step.new.steps in
    let t = taken_of n c.requires.walked.0 c.requires.walked.1 c.args.walk c.in-More.walk p c.in-More.ensures.shorter c.requires.walked.2 in
    record {
      kind = t.next;
      next = c.in-More.walk;
      looked = λ b i k. looked_after n b i c.args.walk c.in-More.walk p w c.step.ensures.one.made k c.step.ensures.one.steps (c.in-More.ensures.next b (ToCapture i) k.fits);
      is = c.go_under_way.ensures;
    }
