-- What a device call that failed says of the one that is due.
use Rattle.std.proofs.Common.{◌≡◌, ℕ, ◌+◌, List, ◌∷◌, Option, None, Some, Result, Ok, Err, OnErr, refl, sym, ◌∙◌, ap, subst}
use Rattle.disk_model.specs.Calls.{Fails}
use Rattle.disk_model.specs.Files.{Files, now}
use Rattle.disk_model.specs.Gates.{Call, syncs}
use Rattle.disk_model.proofs.FileLemmas.{with_itself}

module _ {D : Type 0} (states : D → List Files) (failures : D → ℕ) (number : ℕ) (old new : D) where
  FailsAt : Option Call → Type 0
  FailsAt None = Unit {0}
  FailsAt (Some call) = Fails states failures number call old new

  -- a sync was due, and failed
  pub sync_fails : {E : Type 0} (result : Result (Unit {0}) E) (due : Option Call) → due ≡ Some syncs
      → OnErr result (states new ≡ now (states old) ∷ states old) → OnErr result (failures new ≡ failures old + 1)
      → OnErr result ((call : Call) → due ≡ Some call → Fails states failures number call old new)
  unfolding FailsAt
  sync_fails (Ok x) due is same counted = tt
  sync_fails (Err e) due is same counted = λ call call_is. subst FailsAt (sym is ∙ call_is) (record {
    left = now (states old) number;
    may = λ placed. refl;
    state = same ∙ ap (λ (f : Files). f ∷ states old) (sym (with_itself number (now (states old))));
    counted = counted;
  })
