-- What was told of an event meets its case.
use Rattle.std.proofs.Common.{◌≡◌, List, Some, Bool, true, false, MatchBool, refl, sym, ◌∙◌, ap, subst}
use Rattle.disk_model.specs.Files.{Files}
use Rattle.store_layout.specs.Opening.{Opened}
use Rattle.sim_rules.specs.declared.event.Event.{Event}
use Rattle.sim_rules.specs.declared.outcome.Outcome.{Outcome}
use Rattle.sim_rules.specs.declared.outcome.Outcome.TheVariants as outcome
use Rattle.sim_rules.specs.World.{World, Life}
use Rattle.sim_rules.specs.Fitting.{fits, fits_inside, fits_with}
use Rattle.sim_rules.specs.After.{after, after_with}
use Rattle.sim_rules.specs.Cases.{HappensInside, HappensWith, Meets}
use Rattle.sim_rules.specs.Laws.{SkippedWhereUnfit}
use Rattle.sim_keeper.specs.Laws.{AnswersAreMet}
use Rattle.sim_keeper.specs.KeeperInWorld.{HasKeeper}
use Rattle.sim_keeper.proofs.Deciding.{two_ways}

where_true : (b : Bool) (A B : Type 0) → b ≡ true → A → MatchBool b A B
where_true true A B e a = a
where_true false A B e a = absurd cc

meets : (w : World) (found : Opened) (l : Life) (e : Event) (x : Outcome) → w.life ≡ Some l → fits_inside l e ≡ true → HappensInside w l e x → Meets w found e x
meets w found l e x life fits happens =
    where_true (fits_with w.life e) (HappensWith w w.life found e x) (x ≡ outcome.Skipped) (ap (λ o. fits_with o e) life ∙ fits) (subst (λ o. HappensWith w o found e x) (sym life) happens)

goes_on : (w : World) (found : Opened) (e : Event) (x : Outcome) → (x ≡ outcome.Skipped → ⊥) → after w found e x ≡ after_with w w.life found e x
unfolding after
goes_on w found e outcome.Skipped other = absurd (other refl)
goes_on w found e x other = refl

pub answers_are_met : {D : Type 0} (states : D → List Files) → SkippedWhereUnfit → AnswersAreMet states
answers_are_met {D} states skipped old new p q w found l e x s fits answers =
    let met : Meets w found e x = meets w found l e x s.life fits answers.happens in
    let other : x ≡ outcome.Skipped → ⊥ = λ is. two_ways (fits_with w.life e) (ap (λ o. fits_with o e) s.life ∙ fits) ((skipped w found e).0.0 (subst (Meets w found e) is met)) in
    (met, subst (HasKeeper states new q) (sym (goes_on w found e x other ∙ ap (λ o. after_with w o found e x) s.life)) answers.stands)
