-- Device calls of one file, and what a stop leaves of it at each moment.
use Rattle.std.proofs.Common.{◌≡◌, ℕ, ◌+◌, ◌==◌, ◌∷◌, true, false, cond, List, Result, Ok, Err, OnOk, OnErr, refl, sym, ap, subst, ◌∙◌}
use Rattle.std.proofs.lemmas.Bool.{eqb-true}
use mathlib.Core.Path.{fun_ext}
use Rattle.disk_model.specs.Calls.{Fails, Looks, Makes}
use Rattle.disk_model.specs.Files.{File, Files, MayLeave, now, with_file}
use Rattle.disk_model.specs.Gates.{Call, IsPlaced, MayFailTo, called, syncs}
use Rattle.disk_model.specs.Moments.{AtEachMoment}
use Rattle.disk_model.proofs.FileLemmas.{with_other, with_same}
use Rattle.disk_model.proofs.MomentLemmas.{goes_on, in_the_end, one_call, weaker}
use Rattle.map_types.specs.declared.refusals.Refusal.{Refusal}
use Rattle.recovery.specs.Formatting.{OneFile}

-- whatever a stop may leave of the file has P
abbrev pub Leave : (List ℕ → Type 0) → File → Type 0
Leave P file = (content : List ℕ) → MayLeave file content → P content

module _ {D : Type 0} (states : D → List Files) (failures : D → ℕ) (number : ℕ) where
  pub now_made : (call : Call) (old new : D) → Makes states failures number call old new → now (states new) number ≡ called call (now (states old) number)
  now_made call old new is = ap (λ (past : List Files). now past number) is.state ∙ with_same number (called call (now (states old) number)) (now (states old))

  module _ (P : List ℕ → Type 0) where
    with_one : (file : File) (start : Files) → Leave P file → OneFile number P start (with_file number file start)
    with_one file start may = record {
      others = λ n other. with_other number file start n other;
      leaves = λ content left. may content (subst (λ (f : File). MayLeave f content) (with_same number file start) left);
    }

    unchanged : (start : Files) → Leave P (start number) → OneFile number P start start
    unchanged start may = record { others = λ n other. refl; leaves = may }

    pub made : (call : Call) (old new : D) → Makes states failures number call old new → Leave P (now (states old) number) → Leave P (called call (now (states old) number))
        → AtEachMoment states old new (OneFile number P (now (states old)))
    made call old new is before after =
        let start = now (states old) in
        one_call states old new (with_file number (called call (start number)) start) (OneFile number P start) is.state (unchanged start before) (with_one (called call (start number)) start after)

    pub stopped : (call : Call) (old new : D) → (is : Fails states failures number call old new) → Leave P (now (states old) number) → Leave P is.left
        → AtEachMoment states old new (OneFile number P (now (states old)))
    stopped call old new is before after =
        let start = now (states old) in
        one_call states old new (with_file number is.left start) (OneFile number P start) is.state (unchanged start before) (with_one is.left start after)

    -- a call that succeeds or fails
    pub tried : (call : Call) (old new : D) (r : Result (Unit {0}) Refusal) → OnOk r (Makes states failures number call old new) → OnErr r (Fails states failures number call old new)
        → IsPlaced call (now (states old) number) → Leave P (now (states old) number) → Leave P (called call (now (states old) number))
        → ((left : File) → MayFailTo call (now (states old) number) left → Leave P left) → AtEachMoment states old new (OneFile number P (now (states old)))
    tried call old new (Ok x) ok err placed before after torn = made call old new ok before after
    tried call old new (Err e) ok err placed before after torn = stopped call old new err before (torn err.left (err.may placed))

    pub looked : (honest : D → Type 0) (failed : ℕ) (old new : D) → Looks states failures honest failed old new → Leave P (now (states old) number) → AtEachMoment states old new (OneFile number P (now (states old)))
    looked honest failed old new look before =
        let start = now (states old) in
        weaker states old new (λ files. files ≡ start) (OneFile number P start) (λ files e. subst (λ (fs : Files). OneFile number P start fs) (sym e) (unchanged start before)) look.same

    pub next : (old mid new : D) → AtEachMoment states old mid (OneFile number P (now (states old))) → AtEachMoment states mid new (OneFile number P (now (states mid)))
        → AtEachMoment states old new (OneFile number P (now (states old)))
    next old mid new one two =
        let start = now (states old) in
        let there = in_the_end states old mid (OneFile number P start) one in
        goes_on states old mid new (OneFile number P start) one
        (weaker states mid new (OneFile number P (now (states mid))) (OneFile number P start) (λ files h. record { others = λ n other. h.others n other ∙ there.others n other; leaves = h.leaves }) two)

module _ {D : Type 0} (states : D → List Files) (failures : D → ℕ) (number : ℕ) where
  pub failed_sync : (old new : D) → states new ≡ now (states old) ∷ states old → failures new ≡ failures old + 1 → Fails states failures number syncs old new
  failed_sync old new is count = record {
    left = now (states old) number;
    may = λ placed. refl;
    state = is ∙ ap (λ (files : Files). files ∷ states old) (sym (fun_ext (λ n. same_file n (now (states old)))));
    counted = count;
  }
    where
      same_file : (n : ℕ) (files : Files) → with_file number (files number) files n ≡ files n
      same_file n files = elim (n == number) as (λ b. (n == number) ≡ b → cond b (files number) (files n) ≡ files n) [
        | true ↦ λ e. ap files (sym (eqb-true _ _ e))
        | false ↦ λ e. refl
      ] refl
