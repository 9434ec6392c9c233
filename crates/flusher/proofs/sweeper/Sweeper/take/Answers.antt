use Rattle.std.proofs.Common.{subst, sym, ◌∙◌, ap, ℕ}
use Rattle.flusher.specs.declared.sweeper.Sweeper.{Sweeper}
use Rattle.flusher.specs.Sweeping.{IsBetween, IsHolding, Stands}
use Rattle.flusher.proofs.Gathered.{missed}
use Rattle.flusher.proofs.SweepStates.{holding_stands, resting_stands}
use Rattle.flusher.proofs.sweeper.Sweeper.take.Goals as goal

pub hold-requires : goal.hold-requires
hold-requires g c = record { free = c.requires.stands.1.free; within = c.requires.stands.1.within; keeper = c.requires.stands.1.gathers.keeper }

pub returns-in-Some-clause-after : goal.returns-in-Some-clause-after
returns-in-Some-clause-after g c = record {
  walk = c.in-Some.walk;
  walking = ap (λ (s : Sweeper). s.walking) c.set_walking.ensures;
  taken = c.in-Some.ensures.some;
  sweep_is = ap (λ (s : Sweeper). s.sweep) c.set_walking.ensures ∙ c.requires.sweep;
  hand = ap (λ (s : Sweeper). s.in_hand) c.set_walking.ensures;
}

pub returns-in-Some-clause-stands : goal.returns-in-Some-clause-stands
returns-in-Some-clause-stands g c = λ gone k.
    let w = g.S.Steps.recorded c.hold.new.steps in
    subst (λ (n : ℕ). Stands n c.set_walking.new.self gone w) (sym c.in-Some.ensures.pass.1)
    (holding_stands (g.S.Steps.stripe_count c.args.steps.now) c.set_walking.new.self c.args.sweep c.in-Some.walk gone w
    (ap (λ (s : Sweeper). s.sweep) c.set_walking.ensures ∙ c.requires.sweep) (ap (λ (s : Sweeper). s.walking) c.set_walking.ensures)
    (subst (λ h. IsHolding (g.S.Steps.stripe_count c.args.steps.now) c.args.sweep c.in-Some.walk h gone w) (sym (ap (λ (s : Sweeper). s.in_hand) c.set_walking.ensures))
    (record { begun = g.S.Steps.recorded c.args.steps.now; between = k; taken = c.in-Some.ensures.some })))

pub returns-in-None-clause-stands : goal.returns-in-None-clause-stands
returns-in-None-clause-stands g c = λ gone k.
    let n = g.S.Steps.stripe_count c.args.steps.now in
    let w = g.S.Steps.recorded c.hold.new.steps in
    subst (λ (m : ℕ). Stands m c.set_walking-in-None.new.self gone w) (sym c.in-None.ensures.pass.1)
    (resting_stands n c.set_walking-in-None.new.self c.args.sweep gone w
    (ap (λ (s : Sweeper). s.sweep) c.set_walking-in-None.ensures ∙ c.requires.sweep) (ap (λ (s : Sweeper). s.walking) c.set_walking-in-None.ensures)
    (subst (λ h. IsBetween n c.args.sweep h gone w) (sym (ap (λ (s : Sweeper). s.in_hand) c.set_walking-in-None.ensures))
    (missed n c.args.sweep c.args.self.now.in_hand gone (g.S.Steps.recorded c.args.steps.now) w c.args.sweep.stripe k c.in-None.ensures.none)))
