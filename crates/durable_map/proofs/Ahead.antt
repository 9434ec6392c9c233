-- What stays where zeros are written ahead in a log.
use Rattle.std.proofs.Common.{◌≡◌, ◌⊎◌, inl, inr, ℕ, ◌+◌, Bool, true, false, List, Result, Ok, Err, OnOk, replicate, sym, subst, ◌∙◌}
use Rattle.disk_model.specs.Files.{Files, now}
use Rattle.disk_model.specs.Gates.{writes}
use Rattle.map_types.specs.declared.refusals.Refusal.{Refusal}
use Rattle.map_types.specs.declared.refusals.Refusal.TheVariants.{Failed}
use Rattle.store_layout.specs.Logs.{log_file}
use Rattle.gate_log.specs.Ahead.{WritesAhead}
use Rattle.gate_log.specs.States.{LogState}
use Rattle.flusher.specs.declared.keeper.Keeper.{Keeper}
use Rattle.durable_map.specs.LockedKeepers.{IsSealedWithin, KeepsSealed}
use Rattle.durable_map.proofs.Sealed.{fails_elsewhere, not_of_a_log, sealed_after}

module _ {D : Type 0} (states : D → List Files) (failures : D → ℕ) (honest : D → Type 0) where
  ahead_fails : (old new : Keeper D) (e : Refusal) → new.sealed ≡ old.sealed → WritesAhead states failures honest old.zeros old.log new.log old.disk new.disk (Err e) → KeepsSealed states honest old → KeepsSealed states honest new
  ahead_fails old new e sealed a k = λ honestly.
      subst (λ (g : ℕ). IsSealedWithin g new.log.committed (now (states new.disk))) (sym sealed)
      (subst (λ (l : LogState). IsSealedWithin old.sealed l.committed (now (states new.disk))) (sym a.err.1)
      (fails_elsewhere states failures honest (log_file old.log.generation) (writes (old.log.gate + 1) (replicate old.zeros 0)) old.sealed old.log.committed old.disk new.disk a.err.2 (not_of_a_log old.sealed old.log.generation)
      (k (a.was_honest honestly))))

  none_fails : (old new : Keeper D) (e : Refusal) → new.sealed ≡ old.sealed → (let failed : Result (Unit {0}) Refusal = Err e in ((failed ≡ Ok tt) × (new ≡ old)) ⊎ WritesAhead states failures honest old.zeros old.log new.log old.disk new.disk failed)
      → KeepsSealed states honest old → KeepsSealed states honest new
  none_fails old new e sealed (inl none) k = sealed_after states failures honest old new none.1 k
  none_fails old new e sealed (inr a) k = ahead_fails old new e sealed a k

  pub written_ahead : (old new : Keeper D) (result : Result (Unit {0}) Refusal) (was_broken : Bool) → old.is_broken ≡ was_broken → (old.is_broken ≡ true → (result ≡ Err Failed) × (new ≡ old))
      → (old.is_broken ≡ false → ((result ≡ Ok tt) × (new ≡ old)) ⊎ WritesAhead states failures honest old.zeros old.log new.log old.disk new.disk result)
      → OnOk result (new.is_broken ≡ false) → new.sealed ≡ old.sealed → KeepsSealed states honest old → new.is_broken ≡ true → KeepsSealed states honest new
  written_ahead old new result true is failed ahead works sealed k broken = sealed_after states failures honest old new (failed is).1 k
  written_ahead old new (Ok x) false is failed ahead works sealed k broken = absurd (let no : false ≡ true = sym works ∙ broken in cc)
  written_ahead old new (Err e) false is failed ahead works sealed k broken = none_fails old new e sealed (ahead is) k
