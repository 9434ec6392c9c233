-- The sections that were kept, and then that of a part that is lent.
use Rattle.std.proofs.Common.{ℕ, ◌≡◌, ◌++◌, List, [], Option, sym, ap, subst, ◌∙◌, append-nil}
use Rattle.atomic_methods.specs.PartState.{PartState}
use Rattle.ticket_order.specs.declared.record.Section.{Section}
use Rattle.view_walk.specs.Walking.{sections_of}

module _ (P : List Section → Type 0) (xs : List Section) where
  -- no part is lent
  pub none_lent : (ys : List Section) → ys ≡ [] → P xs → P (xs ++ ys)
  none_lent ys none p = subst P (sym (ap (λ (l : List Section). xs ++ l) none ∙ append-nil xs)) p

  -- this part is lent
  pub same_lent : (k : ℕ) (lent found : Option (ℕ × PartState)) → lent ≡ found → P (xs ++ sections_of k found) → P (xs ++ sections_of k lent)
  same_lent k lent found same p = subst (λ (o : Option (ℕ × PartState)). P (xs ++ sections_of k o)) (sym same) p
