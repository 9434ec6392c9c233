-- The text of a script is printed line by line.
use Rattle.std.proofs.Common.{◌≡◌, ◌<◌, ◌≤◌, ◌+◌, ℕ, min, List, [], ◌++◌, length, take, drop, get_or, codes, refl, sym, ◌∙◌, ap, subst}
use Rattle.std.specs.Prelude.{decimal}
use Rattle.std.proofs.lemmas.List.{append-nil, append_assoc, drop_all, drop_min, drop_more, take_min}
use Rattle.sim_rules.specs.declared.outcome.Outcome.{Outcome}
use Rattle.call_text.specs.Names.{Text}
use Rattle.sim_script.specs.declared.script.Span.{Span}
use Rattle.sim_script.specs.Spans.{told_by}
use Rattle.sim_script.specs.Texts.{IsScriptText, IsToldText}

abbrev pub numbered : ℕ → Text → Text
numbered number line = decimal number ++ (codes " " ++ (line ++ codes "\n"))

-- a line is printed, and then the others
pub line_printed : (spans : List Span) (outcomes of others : List Outcome) (i n : ℕ) (d : Span) (line behind : Text) → i < length spans → n ≡ min (get_or spans i d).events (length outcomes)
    → of ≡ take n outcomes → others ≡ drop n outcomes
    → IsToldText (get_or spans i d).form (told_by of) line → IsScriptText (i + 1 + 1) (drop (i + 1) spans) others behind
    → IsScriptText (i + 1) (drop i spans) outcomes (numbered (i + 1) line ++ behind)
line_printed spans outcomes of others i n d line behind h least front back told rest =
    let span = get_or spans i d in
    let front' : of ≡ take span.events outcomes = front ∙ (ap (λ m. take m outcomes) least ∙ take_min span.events outcomes) in
    let back' : others ≡ drop span.events outcomes = back ∙ (ap (λ m. drop m outcomes) least ∙ drop_min span.events outcomes) in
    let told' = subst (λ o. IsToldText span.form (told_by o) line) front' told in
    let rest' = subst (λ o. IsScriptText (i + 1 + 1) (drop (i + 1) spans) o behind) back' rest in
    subst (λ ss. IsScriptText (i + 1) ss outcomes (numbered (i + 1) line ++ behind)) (sym (drop_more spans i d h)) (line, behind, told', rest', refl)

pub none_left : (spans : List Span) (outcomes : List Outcome) (number i : ℕ) → length spans ≤ i → IsScriptText number (drop i spans) outcomes []
none_left spans outcomes number i h = subst (λ ss. IsScriptText number ss outcomes []) (sym (drop_all i spans h)) refl

pub joined : (number : ℕ) (spans : List Span) (outcomes : List Outcome) (text more all behind : Text) → all ≡ text ++ more → IsScriptText number spans outcomes (text ++ (more ++ behind)) → IsScriptText number spans outcomes (all ++ behind)
joined number spans outcomes text more all behind same h =
    subst (λ t. IsScriptText number spans outcomes t) (sym (append_assoc text more behind) ∙ ap (λ t. t ++ behind) (sym same)) h

pub whole : (spans : List Span) (outcomes : List Outcome) (text : Text) → IsScriptText 1 spans outcomes (text ++ []) → IsScriptText 1 spans outcomes text
whole spans outcomes text h = subst (λ t. IsScriptText 1 spans outcomes t) (append-nil text) h
