-- The checkpoint of a new store is written and sealed.
use Rattle.std.proofs.Common.{◌≡◌, ◌∷◌, ◌++◌, [], inr, ℕ, ◌≤◌, List, length, Result, Ok, OnOk, OnErr, sym, ap, subst, ◌∙◌, arith}
use Rattle.disk_model.specs.Calls.{Fails, Makes}
use Rattle.disk_model.specs.Files.{File, Files, MayLeave, now, synced, written}
use Rattle.disk_model.specs.Gates.{IsShut, MayFailTo, syncs, writes}
use Rattle.disk_model.specs.Moments.{AtEachMoment}
use Rattle.map_types.specs.declared.refusals.Refusal.{Refusal}
use Rattle.recovery.specs.Formatting.{IsSealedWith, OneFile}
use Rattle.recovery.proofs.OneFileLemmas.{Leave, next, now_made, tried}
use Rattle.recovery.proofs.NewStoreLemmas.{behind, down, is_behind, is_down, is_opened, opened, opening_leaves, sealed, shut_leaves, torn_behind, torn_opening}

pub shut_place : (file : File) → IsShut [] [] file → 1 ≤ length file.seen
shut_place file shut = omega (arith, ap length shut.seen)

module _ {D : Type 0} (states : D → List Files) (failures : D → ℕ) (bytes : List ℕ) (old : D) (shut : IsShut [] [] (now (states old) 0)) where
  abbrev pub Moments : D → Type 0
  Moments new = AtEachMoment states old new (OneFile 0 (IsSealedWith bytes) (now (states old)))

  abbrev Q : List ℕ → Type 0
  Q = IsSealedWith bytes

  abbrev f : File
  f = now (states old) 0

  pub first_write : (new : D) (r : Result (Unit {0}) Refusal) → OnOk r (Makes states failures 0 (writes 1 bytes) old new) → OnErr r (Fails states failures 0 (writes 1 bytes) old new) → Moments new
  first_write new r ok err =
      tried states failures 0 Q (writes 1 bytes) old new r ok err (shut_place f shut) (shut_leaves bytes [] f shut) (shut_leaves bytes bytes (behind bytes f shut) (is_behind bytes f shut))
      (λ left torn. shut_leaves bytes [] left (torn_behind bytes f shut left torn))

  module _ (a : D) (one : Makes states failures 0 (writes 1 bytes) old a) where
    at_a : now (states a) 0 ≡ behind bytes f shut
    at_a = now_made states failures 0 (writes 1 bytes) old a one

    leaves_a : Leave Q (now (states a) 0)
    leaves_a = subst (λ (file : File). Leave Q file) (sym at_a) (shut_leaves bytes bytes (behind bytes f shut) (is_behind bytes f shut))

    pub first_sync : (new : D) (r : Result (Unit {0}) Refusal) → OnOk r (Makes states failures 0 syncs a new) → OnErr r (Fails states failures 0 syncs a new) → Moments new
    first_sync new r ok err =
        next states failures 0 Q old a new (first_write a (Ok tt) one tt)
        (tried states failures 0 Q syncs a new r ok err tt leaves_a
        (subst (λ (file : File). Leave Q (synced file)) (sym at_a) (shut_leaves bytes bytes (down bytes f shut) (is_down bytes f shut)))
        (λ left e. subst (λ (file : File). Leave Q file) (sym e) leaves_a))

    module _ (b : D) (two : Makes states failures 0 syncs a b) where
      at_b : now (states b) 0 ≡ down bytes f shut
      at_b = now_made states failures 0 syncs a b two ∙ ap synced at_a

      pub second_write : (new : D) (r : Result (Unit {0}) Refusal) → OnOk r (Makes states failures 0 (writes 0 (165 ∷ [])) b new) → OnErr r (Fails states failures 0 (writes 0 (165 ∷ [])) b new) → Moments new
      second_write new r ok err =
          next states failures 0 Q old b new (first_sync b (Ok tt) two tt)
          (tried states failures 0 Q (writes 0 (165 ∷ [])) b new r ok err (omega arith)
          (subst (λ (file : File). Leave Q file) (sym at_b) (shut_leaves bytes bytes (down bytes f shut) (is_down bytes f shut)))
          (subst (λ (file : File). Leave Q (written 0 (165 ∷ []) file)) (sym at_b) (opening_leaves bytes (opened bytes f shut) (is_opened bytes f shut)))
          (subst (λ (file : File). (left : File) → MayFailTo (writes 0 (165 ∷ [])) file left → Leave Q left) (sym at_b) (λ left torn. opening_leaves bytes left (torn_opening bytes f shut left torn))))

      module _ (d : D) (three : Makes states failures 0 (writes 0 (165 ∷ [])) b d) where
        at_d : now (states d) 0 ≡ opened bytes f shut
        at_d = now_made states failures 0 (writes 0 (165 ∷ [])) b d three ∙ ap (λ (file : File). written 0 (165 ∷ []) file) at_b

        leaves_d : Leave Q (now (states d) 0)
        leaves_d = subst (λ (file : File). Leave Q file) (sym at_d) (opening_leaves bytes (opened bytes f shut) (is_opened bytes f shut))

        pub second_sync : (new : D) (r : Result (Unit {0}) Refusal) → OnOk r (Makes states failures 0 syncs d new) → OnErr r (Fails states failures 0 syncs d new) → Moments new
        second_sync new r ok err =
            next states failures 0 Q old d new (second_write d (Ok tt) three tt)
            (tried states failures 0 Q syncs d new r ok err tt leaves_d
            (subst (λ (file : File). Leave Q (synced file)) (sym at_d) (λ left may. inr (sealed bytes f shut left may)))
            (λ left e. subst (λ (file : File). Leave Q file) (sym e) leaves_d))

        pub is_sealed_so : (new : D) → Makes states failures 0 syncs d new → (left : List ℕ) → MayLeave (now (states new) 0) left → (rest : List ℕ) × (left ≡ 165 ∷ (bytes ++ rest))
        is_sealed_so new four left may =
            sealed bytes f shut left (subst (λ (file : File). MayLeave file left) (now_made states failures 0 syncs d new four ∙ ap synced at_d) may)
