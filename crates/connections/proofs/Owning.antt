-- What is held in a row, as calls are begun and answered.
use Rattle.std.proofs.Common.{◌≡◌, List, [], ◌∷◌, ◌++◌, subst, sym}
use Rattle.connections.specs.declared.row.Place.{Place}
use Rattle.connections.specs.declared.exchange.Connection.{Connection}
use Rattle.connections.specs.declared.row.Place.TheVariants.{Held, Refused}
use Rattle.connections.specs.Owning.{OwnsPlace, OwnsRow, OwnsEach, StillOwns}

module _ {S H : Type 0} (owns : S → H → Type 0) where
  still_owns_place : (before after : S) (place : Place H) → StillOwns owns before after → OwnsPlace owns before place → OwnsPlace owns after place
  still_owns_place before after (Held held) still p = still held p
  still_owns_place before after (Refused refusal) still p = tt

  pub still_owns_row : (before after : S) (places : List (Place H)) → StillOwns owns before after → OwnsRow owns before places → OwnsRow owns after places
  still_owns_row before after [] still p = tt
  still_owns_row before after (place ∷ places) still p =
      (still_owns_place before after place still p.0, still_owns_row before after places still p.1)

  owns_more : (state : S) (places : List (Place H)) (place : Place H) → OwnsRow owns state places → OwnsPlace owns state place → OwnsRow owns state (places ++ place ∷ [])
  owns_more state [] place p q = (q, tt)
  owns_more state (first ∷ places) place p q = (p.0, owns_more state places place p.1 q)

  -- a message took its place behind the others
  pub owns_begun : (before after : S) (row : List (Place H)) (place : Place H) (all : List (Place H)) → all ≡ row ++ place ∷ [] → OwnsRow owns before row → StillOwns owns before after → OwnsPlace owns after place → OwnsRow owns after all
  owns_begun before after row place all e p still q =
      subst (λ (x : List (Place H)). OwnsRow owns after x) (sym e) (owns_more after row place (still_owns_row before after row still p) q)

  -- the first place of a row, and the others
  pub owns_first : (state : S) (row rest : List (Place H)) (place : Place H) → row ≡ place ∷ rest → OwnsRow owns state row → OwnsPlace owns state place × OwnsRow owns state rest
  owns_first state row rest place e p = subst (λ (x : List (Place H)). OwnsRow owns state x) e p

  pub owns_none : (state : S) (row : List (Place H)) → row ≡ [] → OwnsRow owns state row
  owns_none state row e = subst (λ (x : List (Place H)). OwnsRow owns state x) (sym e) tt

  -- what is held of each connection stays owned while others are served
  pub still_owns_each : (before after : S) (connections : List (Connection H)) → StillOwns owns before after → OwnsEach owns before connections → OwnsEach owns after connections
  still_owns_each before after [] still p = tt
  still_owns_each before after (connection ∷ connections) still p =
      (still_owns_row before after connection.row.items still p.0, still_owns_each before after connections still p.1)
