-- The gate of file 0 is closed.
use Rattle.std.proofs.Common.{◌≡◌, ◌∷◌, [], ℕ, List, Result, Ok, Err, OnOk, OnErr, true, false, sym, ap, subst, ◌∙◌, arith}
use Rattle.disk_model.specs.Calls.{Fails, Looks, Makes}
use Rattle.disk_model.specs.Files.{File, Files, at_rest, now, synced, written}
use Rattle.disk_model.specs.Gates.{IsShut, MayFailTo, syncs, writes}
use Rattle.disk_model.specs.Moments.{AtEachMoment}
use Rattle.disk_model.proofs.LookLemmas.{same_now}
use Rattle.map_types.specs.declared.refusals.Refusal.{Refusal}
use Rattle.store_layout.specs.Checkpoints.{is_to_close}
use Rattle.recovery.specs.Formatting.{OneFile}
use Rattle.recovery.proofs.OneFileLemmas.{Leave, looked, next, now_made, tried}
use Rattle.recovery.proofs.NewStoreLemmas.{Unsealed, closed_shut, closing_synced, closing_torn, closing_written, kept_shut, rest_unsealed}

pub on_ok : {E : Type 0} (P Q : Type 0) (r : Result (Unit {0}) E) → (P → Q) → OnOk r P → OnOk r Q
on_ok P Q (Ok x) f p = f p
on_ok P Q (Err e) f p = tt

module _ {D : Type 0} (states : D → List Files) (failures : D → ℕ) (honest : D → Type 0) (old mid : D) (look : Looks states failures honest 0 old mid) where
  same : now (states mid) 0 ≡ now (states old) 0
  same = ap (λ (files : Files). files 0) (same_now states failures honest 0 old mid look)

  -- nothing is written
  pub stays_shut : (new : D) → is_to_close (now (states old) 0).seen ≡ false → Makes states failures 0 syncs mid new → IsShut [] [] (now (states new) 0)
  stays_shut new shut is =
      subst (λ (file : File). IsShut [] [] file) (sym (now_made states failures 0 syncs mid new is))
      (kept_shut (now (states mid) 0) (ap (λ (file : File). is_to_close file.seen) same ∙ shut))

  module _ (content : List ℕ) (at : now (states old) 0 ≡ at_rest content) (is : Unsealed content) where
    abbrev pub Moments : D → Type 0
    Moments new = AtEachMoment states old new (OneFile 0 Unsealed (now (states old)))

    there : now (states mid) 0 ≡ at_rest content
    there = same ∙ at

    before : Leave Unsealed (at_rest content)
    before = rest_unsealed content is

    looks : Moments mid
    looks = looked states failures 0 Unsealed honest 0 old mid look (subst (λ (file : File). Leave Unsealed file) (sym at) before)

    pub not_written : (new : D) (r : Result (Unit {0}) Refusal) → OnOk r (Makes states failures 0 syncs mid new) → OnErr r (Fails states failures 0 syncs mid new) → Moments new
    not_written new r ok err =
        next states failures 0 Unsealed old mid new looks
        (tried states failures 0 Unsealed syncs mid new r ok err tt (subst (λ (file : File). Leave Unsealed file) (sym there) before)
        (subst (λ (file : File). Leave Unsealed (synced file)) (sym there) before)
        (λ left e. subst (λ (file : File). Leave Unsealed file) (sym (e ∙ there)) before))

    module _ (opens : is_to_close content ≡ true) where
      pub writing : (new : D) (r : Result (Unit {0}) Refusal) → OnOk r (Makes states failures 0 (writes 0 (0 ∷ [])) mid new) → OnErr r (Fails states failures 0 (writes 0 (0 ∷ [])) mid new) → Moments new
      writing new r ok err =
          next states failures 0 Unsealed old mid new looks
          (tried states failures 0 Unsealed (writes 0 (0 ∷ [])) mid new r ok err (omega arith) (subst (λ (file : File). Leave Unsealed file) (sym there) before)
          (subst (λ (file : File). Leave Unsealed (written 0 (0 ∷ []) file)) (sym there) (closing_written content opens is))
          (subst (λ (file : File). (left : File) → MayFailTo (writes 0 (0 ∷ [])) file left → Leave Unsealed left) (sym there) (closing_torn content opens is)))

      pub syncing : (wrote new : D) (r : Result (Unit {0}) Refusal) → Makes states failures 0 (writes 0 (0 ∷ [])) mid wrote → OnOk r (Makes states failures 0 syncs wrote new) → OnErr r (Fails states failures 0 syncs wrote new)
          → Moments new
      syncing wrote new r is_written ok err =
          let now_is : now (states wrote) 0 ≡ written 0 (0 ∷ []) (at_rest content) =
          now_made states failures 0 (writes 0 (0 ∷ [])) mid wrote is_written ∙ ap (λ (file : File). written 0 (0 ∷ []) file) there in
          let after : Leave Unsealed (written 0 (0 ∷ []) (at_rest content)) = closing_written content opens is in
          next states failures 0 Unsealed old wrote new (writing wrote (Ok tt) is_written tt)
          (tried states failures 0 Unsealed syncs wrote new r ok err tt (subst (λ (file : File). Leave Unsealed file) (sym now_is) after)
          (subst (λ (file : File). Leave Unsealed (synced file)) (sym now_is) (closing_synced content opens is))
          (λ left e. subst (λ (file : File). Leave Unsealed file) (sym (e ∙ now_is)) after))

  pub comes_shut : (wrote new : D) → Makes states failures 0 (writes 0 (0 ∷ [])) mid wrote → Makes states failures 0 syncs wrote new → IsShut [] [] (now (states new) 0)
  comes_shut wrote new one two =
      subst (λ (file : File). IsShut [] [] file) (sym (now_made states failures 0 syncs wrote new two ∙ ap synced (now_made states failures 0 (writes 0 (0 ∷ [])) mid wrote one)))
      (closed_shut (now (states mid) 0))

pub on_ok2 : {E : Type 0} (P S Q : Type 0) (r : Result (Unit {0}) E) → (P → S → Q) → OnOk r P → OnOk r S → OnOk r Q
on_ok2 P S Q (Ok x) f p s = f p s
on_ok2 P S Q (Err e) f p s = tt
