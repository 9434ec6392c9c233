-- Moves behind moves.
use Rattle.std.proofs.Common.{◌≡◌, ◌⊎◌, ◌+◌, true, false, List, [], ◌∷◌, ◌++◌, length, Result, refl, sym, ap, subst, ◌∙◌, arith, inl, inr}
use Rattle.std.proofs.lemmas.List.{length-append}
use Rattle.map_types.specs.declared.refusals.Refusal.{Refusal}
use Rattle.wire_frames.specs.declared.requests.Request.{Request}
use Rattle.wire_frames.specs.Messages.{Message}
use Rattle.connections.specs.declared.row.Place.{Place}
use Rattle.connections.specs.Dialogue.{Answer}
use Rattle.connections.specs.Moves.{Move, Starts, Answers, GivesUp, StartsNone, IsRow, Stops, messages_of, Leads}
use Rattle.connections.specs.Progress.{IsSteady}

module _ {H : Type 0} where
  starts_none_then : (ms ns : List (Move H)) → StartsNone ms → (ms ≡ [] → StartsNone ns) → StartsNone (ms ++ ns)
  starts_none_then [] ns p q = q refl
  starts_none_then (Starts m place ∷ ms) ns p q = absurd p
  starts_none_then (Answers place answer ∷ ms) ns p q = tt
  starts_none_then (GivesUp place ∷ ms) ns p q = tt

  -- where a place was taken last the row isn't empty
  taken_last : (a b : List (Place H)) (place : Place H) (ms ns : List (Move H)) → (b ≡ []) ⊎ StartsNone ns → IsRow (a ++ place ∷ []) ms b → ms ≡ [] → StartsNone ns
  taken_last a b place ms ns (inr none) p e = none
  taken_last a b place ms ns (inl left) p e =
      let is : b ≡ a ++ place ∷ [] = subst (λ (x : List (Move H)). IsRow (a ++ place ∷ []) x b) e p in
      let size = ap (λ (x : List (Place H)). length x) (sym left ∙ is) in
      let more = length-append a (place ∷ []) in
      absurd (omega arith)

  -- moves behind others: these leave the row empty, or the next takes no place
  pub row_then : (a b c : List (Place H)) (ms ns : List (Move H)) → (b ≡ []) ⊎ StartsNone ns → IsRow a ms b → IsRow b ns c → IsRow a (ms ++ ns) c
  row_then a b c [] ns f p q = subst (λ (x : List (Place H)). IsRow x ns c) p q
  row_then a b c (Starts m place ∷ ms) ns f p q =
      (p.0, λ asks. ((p.1 asks).0, starts_none_then ms ns (p.1 asks).1 (taken_last a b place ms ns f p.2)), row_then (a ++ place ∷ []) b c ms ns f p.2 q)
  row_then a b c (Answers place answer ∷ ms) ns f p q = (p.0, p.1, row_then p.0 b c ms ns f p.2 q)
  row_then a b c (GivesUp place ∷ ms) ns f p q = (p.0, p.1, row_then p.0 b c ms ns f p.2 q)

  pub messages-append : (ms ns : List (Move H)) → messages_of (ms ++ ns) ≡ messages_of ms ++ messages_of ns
  messages-append [] ns = refl
  messages-append (Starts m place ∷ ms) ns = ap (λ (x : List Message). m ∷ x) (messages-append ms ns)
  messages-append (Answers place answer ∷ ms) ns = messages-append ms ns
  messages-append (GivesUp place ∷ ms) ns = messages-append ms ns

  pub stops_then : (ms ns : List (Move H)) → IsSteady ms → Stops ns → Stops (ms ++ ns)
  stops_then [] ns p q = q
  stops_then (Starts m place ∷ ms) ns p q = (λ h. absurd (p.0 h), stops_then ms ns p.1 q)
  stops_then (Answers place answer ∷ ms) ns p q = (λ h. let no : true ≡ false = sym h ∙ p.0 in cc, stops_then ms ns p.1 q)
  stops_then (GivesUp place ∷ ms) ns p q = absurd p

module _ {S H : Type 0} (began : S → Request → Result H Refusal → S → Type 0) (finished : S → H → Answer → S → Type 0) (gave_up : S → H → S → Type 0) where
  pub leads_then : (a b c : S) (ms ns : List (Move H)) → Leads began finished gave_up a ms b → Leads began finished gave_up b ns c → Leads began finished gave_up a (ms ++ ns) c
  leads_then a b c [] ns p q = subst (λ (x : S). Leads began finished gave_up x ns c) p q
  leads_then a b c (m ∷ ms) ns p q = (p.0, p.1, leads_then p.0 b c ms ns p.2 q)
