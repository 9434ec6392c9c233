-- The steps of a stray release are taken back.
use Rattle.std.proofs.Common.{◌≡◌, ◌<◌, ◌≤◌, ◌+◌, ℕ, Bool, true, false, ◌&&◌, List, [], ◌∷◌, length, Option, Some, refl, sym, ◌∙◌, subst, arith, rules}
use Rattle.std.specs.Prelude.{if◌then◌else◌}
use Rattle.std.proofs.lemmas.Bool.{false≢true}
use Rattle.sim_rules.specs.declared.event.Event.{Event}
use Rattle.sim_rules.specs.declared.outcome.Outcome.{Outcome}
use Rattle.sim_script.specs.declared.line.Form.{Form}
use Rattle.sim_script.specs.declared.script.Span.{Span}
use Rattle.sim_script.specs.Spans.{IsTakenBack, TakesBack, behind_line, is_release, is_stray, of_line, stray_steps}

no_and : (b : Bool) → (b && false) ≡ false
no_and true = refl
no_and false = refl

stray_has_outcomes : (form : Form) (outcomes : List Outcome) → is_stray form outcomes ≡ true → 0 < length outcomes
stray_has_outcomes form [] h = absurd (false≢true (sym (no_and (is_release form)) ∙ h))
stray_has_outcomes form (o ∷ outcomes) h = search rules

in_order : ℕ × ℕ → Type 0
in_order steps = steps.0 ≤ steps.1

either : (at : ℕ) (form : Form) (outcomes : List Outcome) (others : Option (ℕ × ℕ)) (steps : ℕ × ℕ) → (others ≡ Some steps → steps.0 ≤ steps.1)
    → (b : Bool) → is_stray form outcomes ≡ b → (if b then Some (at + 1, at + length outcomes) else others) ≡ Some steps → steps.0 ≤ steps.1
unfolding in_order
either at form outcomes others steps rest true is h =
    let some : 0 < length outcomes = stray_has_outcomes form outcomes is in
    let first : at + 1 ≤ at + length outcomes = omega (arith, some) in
    search (rules, h, first)
either at form outcomes others steps rest false is h = rest h

stray_within : (at : ℕ) (spans : List Span) (outcomes : List Outcome) (steps : ℕ × ℕ) → stray_steps at spans outcomes ≡ Some steps → steps.0 ≤ steps.1
stray_within at [] outcomes steps h = cc
stray_within at (span ∷ spans) outcomes steps h =
    either at span.form (of_line span outcomes) _ steps (stray_within (at + length (of_line span outcomes)) spans (behind_line span outcomes) steps) _ refl h

-- the places up to this one are done, which is at least the end
pub all_taken : (spans : List Span) (outcomes : List Outcome) (first behind place : ℕ) (old new : List Event) → stray_steps 0 spans outcomes ≡ Some (first, behind)
    → behind ≤ place → (first ≤ behind → place ≤ behind) → IsTakenBack first place old new → TakesBack (stray_steps 0 spans outcomes) old new true
all_taken spans outcomes first behind place old new found end start t =
    let ordered : first ≤ behind = stray_within 0 spans outcomes (first, behind) found in
    let same : place ≡ behind = omega (arith, end, start ordered) in
    subst (λ steps. TakesBack steps old new true) (sym found) (refl, subst (λ n. IsTakenBack first n old new) same t)
