-- Places that are given up, one behind the other.
use Rattle.std.proofs.Common.{◌≡◌, List, [], ◌∷◌, map, Result, refl, sym, subst, ◌∙◌}
use Rattle.map_types.specs.declared.refusals.Refusal.{Refusal}
use Rattle.wire_frames.specs.declared.requests.Request.{Request}
use Rattle.connections.specs.declared.row.Place.{Place}
use Rattle.connections.specs.Dialogue.{Answer}
use Rattle.connections.specs.Moves.{GivesUp, Makes, Leads}

module _ {S H : Type 0} (began : S → Request → Result H Refusal → S → Type 0) (finished : S → H → Answer → S → Type 0) (gave_up : S → H → S → Type 0) where
  pub gives_more : (s0 s1 s2 : S) (row rest : List (Place H)) (place : Place H) → row ≡ place ∷ rest → Makes began finished gave_up s0 (GivesUp place) s1 → Leads began finished gave_up s1 (map GivesUp rest) s2 → Leads began finished gave_up s0 (map GivesUp row) s2
  gives_more s0 s1 s2 row rest place e m p =
      subst (λ (x : List (Place H)). Leads began finished gave_up s0 (map GivesUp x) s2) (sym e) (s1, m, p)

  pub gives_none : (s : S) (row rest : List (Place H)) → row ≡ rest → rest ≡ [] → Leads began finished gave_up s (map GivesUp row) s
  gives_none s row rest e none =
      subst (λ (x : List (Place H)). Leads began finished gave_up s (map GivesUp x) s) (sym (e ∙ none)) refl
