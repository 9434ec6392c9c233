use Rattle.ticket_order.specs.declared.record.Record.{Record}
use Rattle.flusher.specs.Sweeping.{IsSwept}
use Rattle.std.proofs.Common.{ℕ, arith, ap, length}
use Rattle.std.proofs.lemmas.List.{length_push}
use Rattle.ticket_order.specs.Walks.{ToSweep}
use Rattle.flusher.proofs.Walked.{gave_swept, gave_back, put_back_by, no_refusal}
use Rattle.flusher.proofs.sweeper.hand_out.Goals as goal

pub step-requires : goal.step-requires
step-requires g c = (c.requires.0, ToSweep c.requires.1, c.requires.2.fits)

pub returns-in-Swept-clause-one : goal.returns-in-Swept-clause-one
returns-in-Swept-clause-one g c = λ b i k.
    gave_swept g.S.Steps.recorded g.S.Steps.moves _ c.args.steps.now c.step.new.steps (g.S.Steps.stripe_count c.args.steps.now) i b c.in-Swept.entries.items c.step.ensures.one (c.in-Swept.ensures.next b (ToSweep i) k.fits)

pub returns-in-Swept-clause-entries : goal.returns-in-Swept-clause-entries
returns-in-Swept-clause-entries g c = (c.in-Swept.ensures.entries, no_refusal _ c.in-Swept.entries c.in-Swept.ensures.refused)

pub returns-in-Swept-clause-some : goal.returns-in-Swept-clause-some
returns-in-Swept-clause-some g c = λ b i k. c.in-Swept.ensures.next b (ToSweep i) k.fits

pub returns-in_default : goal.returns-in_default
returns-in_default g c =
    let back = λ (b : Record) (i : ℕ) (k : IsSwept (g.S.Steps.stripe_count c.args.steps.now) b i c.args.walk (g.S.Steps.recorded c.args.steps.now)).
    put_back_by (g.S.Steps.stripe_count c.args.steps.now) b i (g.S.Steps.recorded c.step.new.steps) c.step.result _ (c.step.ensures.next b (ToSweep i) k.fits) c.in_default.not-Swept c.step.ensures.shorter k.one_left
    (omega (arith, ap length c.step.ensures.one.steps, length_push (g.S.Steps.recorded c.args.steps.now).steps c.step.ensures.one.made, k.one_made)) in
    record {
      one = λ b i k. gave_back g.S.Steps.recorded g.S.Steps.moves _ c.args.steps.now c.step.new.steps i b c.step.ensures.one (back b i k);
      entries = tt;
      some = tt;
      none = back;
      pass = c.step.ensures.pass;
    }
