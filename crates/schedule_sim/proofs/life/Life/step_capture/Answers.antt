use Rattle.std.proofs.Common.{◌∙◌, Err, ap, inl, inr, refl, subst}
use Rattle.one_history.specs.Turns.{record_of}
use Rattle.sim_keeper.specs.Promises.{StepsCapture}
use Rattle.schedule_sim.specs.Tracing.{traced_states, traced_honest}
use Rattle.schedule_sim.proofs.CapturesMade.{Laws, StepsCaptureOn, begin_did, refuse_did, refused, step_did, steps_at, steps_on, was_made}
use Rattle.schedule_sim.proofs.life.Life.step_capture.Goals as goal

laws : goal.After-end_of_capture → Laws
laws c = record {
  begins = c.laws_of_captures.ensures.begins;
  refuses = c.laws_of_captures.ensures.refuses;
  goes_on = c.laws_of_captures.ensures.steps;
  too_large = c.laws_of_captures.ensures.too_large;
  takes_none = c.laws_of_taking.ensures.captures;
  walk = c.laws_of_telling.ensures.walk;
  stripe = c.laws_of_telling.ensures.stripe;
  counts = c.laws_of_telling.ensures.counts;
  sees = c.laws_of_lives.ensures.sees;
  free = c.words_of_stripes.ensures.free;
  held = c.words_of_stripes.ensures.held;
  steps = c.steps_of_the_keeper.ensures.steps;
}

-- the step that was made
stepped : (c : goal.After-end_of_capture)
    → StepsCaptureOn c.args.stripe c.args.self.now.keeper c.capture_step-captured.new.keeper c.args.self.now.words
    c.capture_step-captured.new.steps.words.now c.capture_step-captured.result c.in-Some-default.made
stepped c =
    let k = c.capture_step-captured.ensures in
    let one = k.one (was_made _ _ _ _ _ _ _ k.first refl c.in-Some-default.is-0 (inl refl))
    (was_made _ _ _ _ _ _ _ k.first refl c.in-Some-default.is-0 (inr refl)) in
    steps_on c.args.stripe c.args.self.now.keeper c.capture_step-captured.new.keeper _ c.capture_step-captured.new.steps
    c.capture_step-captured.result c.in-Some-default.made refl k.pass.0
    (record { failed = k.failed; wrong_phase = k.wrong_phase; after = k.after; given = k.given }) one c.in-Some-default.is-0 k.fits
    c.keeps_one_history.ensures.one c.keeps_one_history.ensures.apart

pub returns-in-Some-default-clause-begins : goal.returns-in-Some-default-clause-begins
returns-in-Some-default-clause-begins c none w is =
    let k = c.capture_step-captured.ensures in
    rw c.end_of_capture.ensures
    (begin_did (laws c) c.args.stripe c.args.self.now _ w c.capture_step-captured.result c.in-Some-default.made is none c.requires.no_sweep refl
    (stepped c)
    (was_made _ _ _ _ _ _ _ k.first refl c.in-Some-default.is-0 (inl refl)) (was_made _ _ _ _ _ _ _ k.first refl c.in-Some-default.is-0 (inr refl)))

pub returns-in-Some-default-clause-goes_on : goal.returns-in-Some-default-clause-goes_on
returns-in-Some-default-clause-goes_on c walk under_way w is =
    rw c.end_of_capture.ensures
    (step_did (laws c) c.args.stripe c.args.self.now _ w c.capture_step-captured.result c.in-Some-default.made walk is under_way refl (stepped c)
    (c.capture_step-captured.ensures.cause walk under_way))

pub returns-in-None-Err-clause-begins : goal.returns-in-None-Err-clause-begins
returns-in-None-Err-clause-begins c none w is =
    let k = c.capture_step-captured.ensures in
    let which = refused c.args.stripe c.args.self.now.keeper c.capture_step-captured.new.keeper _ c.capture_step-captured.new.steps
    c.capture_step-captured.result c.in-None-Err.refusal
    c.in-None-Err.is-1 none c.in-None-Err.is-0 k.one k.after in
    let same = k.first (elim which [ inl e ↦ inl (c.in-None-Err.is-1 ∙ ap Err e) | inr e ↦ inr (c.in-None-Err.is-1 ∙ ap Err e) ]) in
    refuse_did c.laws_of_telling.ensures.walk c.laws_of_captures.ensures.refuses c.args.stripe c.args.self.now _ w c.in-None-Err.refusal is none
    c.requires.no_sweep
    same.1 (ap (λ s. s.words.now) same.0) refl
    (subst (λ r. StepsCapture traced_states traced_honest c.args.self.now.words.stripes c.args.stripe c.args.self.now.keeper
    c.capture_step-captured.new.keeper
    (record_of 64 c.args.self.now.words) (record_of 64 c.capture_step-captured.new.steps.words.now) r) c.in-None-Err.is-1
    (steps_at c.args.self.now.words.stripes c.args.stripe c.args.self.now.keeper c.capture_step-captured.new.keeper
    (record_of 64 c.args.self.now.words)
    c.capture_step-captured.new.steps c.capture_step-captured.result (ap (λ s. s.pass) same.0)
    (record { failed = k.failed; wrong_phase = k.wrong_phase; after = k.after; given = k.given }))) which
