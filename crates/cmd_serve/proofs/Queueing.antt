-- What is held of each connection that waits is of the worker's calls.
use Rattle.std.proofs.Common.{◌≡◌, List, [], ◌∷◌, ◌++◌, map, subst, sym}
use Rattle.connections.specs.Owning.{OwnsEach, OwnsRow}
use Rattle.cmd_serve.specs.declared.begun.Begun.{Begun}
use Rattle.cmd_serve.specs.declared.turns.Waiting.{Waiting}

module _ {S : Type 0} (owns : S → Begun → Type 0) where
  -- what is held of each is owned
  abbrev pub OwnsWaiting : S → List Waiting → Type 0
  OwnsWaiting state waiting = OwnsEach owns state (map (λ w. w.connection) waiting)

  owns_one_more : (state : S) (waiting : List Waiting) (last : Waiting) → OwnsWaiting state waiting → OwnsRow owns state last.connection.row.items → OwnsWaiting state (waiting ++ last ∷ [])
  owns_one_more state [] last p q = (q, tt)
  owns_one_more state (first ∷ waiting) last p q = (p.0, owns_one_more state waiting last p.1 q)

  -- one was put behind the others
  pub owns_queued : (state : S) (waiting all : List Waiting) (last : Waiting) → all ≡ waiting ++ last ∷ [] → OwnsWaiting state waiting → OwnsRow owns state last.connection.row.items → OwnsWaiting state all
  owns_queued state waiting all last e p q = subst (λ (x : List Waiting). OwnsWaiting state x) (sym e) (owns_one_more state waiting last p q)
