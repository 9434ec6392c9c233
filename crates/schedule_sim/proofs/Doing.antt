-- What an event did, from its case and from how the life stands after it.
use Rattle.std.proofs.Common.{◌≡◌, Bool, true, false, Some, MatchBool, refl, sym, ◌∙◌, ap, subst}
use Rattle.store_layout.specs.Opening.{Opened}
use Rattle.sim_rules.specs.declared.event.Event.{Event}
use Rattle.sim_rules.specs.declared.outcome.Outcome.{Outcome}
use Rattle.sim_rules.specs.declared.outcome.Outcome.TheVariants as outcome
use Rattle.sim_rules.specs.World.{World, Life}
use Rattle.sim_rules.specs.Fitting.{fits, fits_inside, fits_with}
use Rattle.sim_rules.specs.After.{after, after_inside, after_with}
use Rattle.sim_rules.specs.Cases.{HappensInside, HappensWith, Meets}
use Rattle.sim_rules.specs.Sound.{AnswersLegally}
use Rattle.schedule_sim.specs.declared.life.Life as sim
use Rattle.schedule_sim.specs.Living.{Did, IsLife}

-- an event that doesn't fit is skipped, and leaves the life as it was
pub did_skip : (w : World) (e : Event) (life : sim.Life) → fits w e ≡ false → IsLife w life → Did w e outcome.Skipped life
unfolding after
did_skip w e life unfit is = record {
  meets = λ found. subst (λ b. MatchBool b (HappensWith w w.life found e outcome.Skipped) (outcome.Skipped ≡ outcome.Skipped)) (sym unfit) refl;
  answers = tt;
  stands = λ found. is;
}

-- it is another outcome
abbrev pub IsNoSkip : Outcome → Type 0
IsNoSkip outcome.Skipped = ⊥
IsNoSkip x = Unit {0}

where_true : (b : Bool) (A B : Type 0) → b ≡ true → A → MatchBool b A B
where_true true A B e a = a
where_true false A B e a = absurd (let no : false ≡ true = e in cc)

pub meets_inside : (w : World) (l : Life) (e : Event) (x : Outcome) → w.life ≡ Some l → fits_inside l e ≡ true → HappensInside w l e x → (found : Opened) → Meets w found e x
meets_inside w l e x life fit happens found =
    where_true (fits_with w.life e) (HappensWith w w.life found e x) (x ≡ outcome.Skipped) (ap (λ o. fits_with o e) life ∙ fit) (subst (λ o. HappensWith w o found e x) (sym life) happens)

pub goes_on : (w : World) (found : Opened) (e : Event) (x : Outcome) → IsNoSkip x → after w found e x ≡ after_with w w.life found e x
unfolding after
goes_on w found e outcome.Skipped other = absurd other
goes_on w found e x other = refl

-- an event of a life that fits, and doesn't end it
pub did : (w : World) (l : Life) (e : Event) (x : Outcome) (life : sim.Life) → w.life ≡ Some l → IsNoSkip x → fits_inside l e ≡ true → HappensInside w l e x → AnswersLegally w e x
    → IsLife (after_inside w l e x) life → Did w e x life
did w l e x life is other fit happens answers stands = record {
  meets = meets_inside w l e x is fit happens;
  answers = answers;
  stands = λ found. subst (λ v. IsLife v life) (sym (goes_on w found e x other ∙ ap (λ o. after_with w o found e x) is)) stands;
}
