-- What is left of files that were empty, to the byte.
use Rattle.std.proofs.Common.{◌≡◌, ◌≢◌, ⊎_elim, ◌==◌, ℕ, zero, suc, ◌+◌, List, [], ◌∷◌, ◌++◌, length, drop, Bool, true, false, if◌then◌else◌, append-nil, refl, sym, ap, subst, ◌∙◌, arith}
use Rattle.std.proofs.lemmas.Bool.{cases_eq}
use Rattle.std.proofs.lemmas.Bool.Decides.{nat_tests}
use mathlib.Core.Path.{fun_ext}
use Rattle.disk_model.specs.Calls.{Looks, Makes}
use Rattle.disk_model.specs.Files.{File, Files, at_rest, empty_files, now, synced, with_file, written}
use Rattle.disk_model.specs.Gates.{Call, called, syncs, writes}
use Rattle.disk_model.proofs.FileLemmas.{with_other}
use Rattle.disk_model.proofs.LookLemmas.{same_now}
use Rattle.store_layout.specs.Checkpoints.{is_to_close, checkpoint_bytes}
use Rattle.log_records.specs.Layout.{Layout}
use Rattle.store_layout.specs.Opening.{first_checkpoint}
use Rattle.recovery.specs.Formatting.{Becomes}
use Rattle.store_layout.specs.FirstFiles.{files_in, first_log_in}
use Rattle.recovery.specs.Syncing.{AfterSyncs, states_synced}
use Rattle.recovery.proofs.OneFileLemmas.{now_made}

-- ---- lists

drop_none : (n : ℕ) → drop {A = ℕ} n [] ≡ []
drop_none zero = refl
drop_none (suc n) = refl

-- a write to an empty file
pub written_first : (bytes : List ℕ) → synced (written 0 bytes (at_rest [])) ≡ at_rest bytes
written_first bytes = ap at_rest (ap (λ (rest : List ℕ). bytes ++ rest) (drop_none (0 + length bytes)) ∙ append-nil bytes)

-- a write behind the one byte of a file
written_behind : (byte : ℕ) (bytes : List ℕ) → synced (written 1 bytes (at_rest (byte ∷ []))) ≡ at_rest (byte ∷ bytes)
written_behind byte bytes =
    let size : 1 + length bytes ≡ suc (length bytes) = omega arith in
    let none : drop (1 + length bytes) (byte ∷ []) ≡ [] = ap (λ (n : ℕ). drop n (byte ∷ [])) size ∙ drop_none (length bytes) in
    ap (λ (rest : List ℕ). at_rest (byte ∷ rest)) (ap (λ (rest : List ℕ). bytes ++ rest) none ∙ append-nil bytes)

-- ---- one file

module _ {D : Type 0} (states : D → List Files) (failures : D → ℕ) (number : ℕ) where
  others_made : (call : Call) (old new : D) → Makes states failures number call old new → (n : ℕ) → n ≢ number → now (states new) n ≡ now (states old) n
  others_made call old new is n other = ap (λ (past : List Files). now past n) is.state ∙ with_other number (called call (now (states old) number)) (now (states old)) n other

  -- it is written and synced
  pub written_down : (at : ℕ) (bytes : List ℕ) (file left : File) (old mid new : D) → now (states old) number ≡ file → Makes states failures number (writes at bytes) old mid
      → Makes states failures number syncs mid new → synced (written at bytes file) ≡ left → Becomes number left (now (states old)) (now (states new))
  written_down at bytes file left old mid new is one two comes = record {
    others = λ n other. others_made syncs mid new two n other ∙ others_made (writes at bytes) old mid one n other;
    is =
        now_made states failures number syncs mid new two ∙ ap synced (now_made states failures number (writes at bytes) old mid one) ∙ ap (λ (f : File). synced (written at bytes f)) is ∙ comes;
  }

-- the gate of an empty file is to be closed
pub not_left : (must : Bool) (file : File) → file ≡ at_rest [] → must ≡ is_to_close file.seen → must ≡ false → ⊥
not_left must file at value closed = let e : true ≡ false = sym (ap (λ (f : File). is_to_close f.seen) at) ∙ sym value ∙ closed in absurd cc

module _ {D : Type 0} (states : D → List Files) (failures : D → ℕ) (honest : D → Type 0) where
  pub closed_first : (old mid wrote new : D) → Looks states failures honest 0 old mid → now (states old) 0 ≡ at_rest [] → Makes states failures 0 (writes 0 (0 ∷ [])) mid wrote → Makes states failures 0 syncs wrote new
      → Becomes 0 (at_rest (0 ∷ [])) (now (states old)) (now (states new))
  closed_first old mid wrote new look at one two =
      let same : now (states mid) ≡ now (states old) = same_now states failures honest 0 old mid look in
      subst (λ (start : Files). Becomes 0 (at_rest (0 ∷ [])) start (now (states new))) same
      (written_down states failures 0 0 (0 ∷ []) (at_rest []) (at_rest (0 ∷ [])) mid wrote new (ap (λ (files : Files). files 0) same ∙ at) one two refl)

-- bytes are written behind a closed gate, and it is opened
module _ {D : Type 0} (states : D → List Files) (failures : D → ℕ) where
  pub sealed_first : (bytes : List ℕ) (old a b c new : D) → now (states old) 0 ≡ at_rest (0 ∷ []) → Makes states failures 0 (writes 1 bytes) old a → Makes states failures 0 syncs a b
      → Makes states failures 0 (writes 0 (165 ∷ [])) b c → Makes states failures 0 syncs c new → Becomes 0 (at_rest (165 ∷ bytes)) (now (states old)) (now (states new))
  sealed_first bytes old a b c new at one two three four =
      let down = written_down states failures 0 1 bytes (at_rest (0 ∷ [])) (at_rest (0 ∷ bytes)) old a b at one two (written_behind 0 bytes) in
      let open_ = written_down states failures 0 0 (165 ∷ []) (at_rest (0 ∷ bytes)) (at_rest (165 ∷ bytes)) b c new down.is three four refl in
      record { others = λ n other. open_.others n other ∙ down.others n other; is = open_.is }

-- ---- three of them, one after the other

becomes_new : (layout : Layout) (bytes : List ℕ) (stripes : ℕ) (old one two new : Files) → bytes ≡ checkpoint_bytes layout (first_checkpoint stripes) → old ≡ empty_files
    → Becomes 0 (at_rest (0 ∷ [])) old one → Becomes 2 (at_rest (first_log_in layout)) one two → Becomes 0 (at_rest (165 ∷ bytes)) two new → new ≡ files_in layout stripes
becomes_new layout bytes stripes old one two new are empty closed begun sealed = fun_ext each
  where
    two_zero : ◌≢◌ {A = ℕ} 2 0
    two_zero = λ e. absurd cc

    first : new 0 ≡ files_in layout stripes 0
    first = sealed.is ∙ ap (λ (b : List ℕ). at_rest (165 ∷ b)) are

    third : new 2 ≡ files_in layout stripes 2
    third = sealed.others 2 two_zero ∙ begun.is

    other : (n : ℕ) → n ≢ 0 → n ≢ 2 → new n ≡ files_in layout stripes n
    other n a b =
        let kept : new n ≡ at_rest [] = sealed.others n a ∙ begun.others n b ∙ closed.others n a ∙ ap (λ (files : Files). files n) empty in
        let x : (n == 0) ≡ false = grind (arith, nat_tests) in
        let y : (n == 2) ≡ false = grind (arith, nat_tests) in
        rw (x, y) kept

    each : (n : ℕ) → new n ≡ files_in layout stripes n
    each n = ⊎_elim {C = new n ≡ files_in layout stripes n}
        (λ e. subst (λ (m : ℕ). new m ≡ files_in layout stripes m) (sym e) first)
        (λ a. ⊎_elim {C = new n ≡ files_in layout stripes n} (λ e. subst (λ (m : ℕ). new m ≡ files_in layout stripes m) (sym e) third) (other n a) (cases_eq n 2))
        (cases_eq n 0)

pub made_new : (layout : Layout) (bytes : List ℕ) (stripes : ℕ) (old one two new : Files) → bytes ≡ checkpoint_bytes layout (first_checkpoint stripes) → old ≡ empty_files
    → (old 0 ≡ at_rest [] → Becomes 0 (at_rest (0 ∷ [])) old one) → (one 2 ≡ at_rest [] → Becomes 2 (at_rest (first_log_in layout)) one two) → (two 0 ≡ at_rest (0 ∷ []) → Becomes 0 (at_rest (165 ∷ bytes)) two new) → new ≡ files_in layout stripes
made_new layout bytes stripes old one two new are empty closing beginning sealing =
    let closed = closing (ap (λ (files : Files). files 0) empty) in
    let begun = beginning (closed.others 2 (λ e. absurd cc) ∙ ap (λ (files : Files). files 2) empty) in
    let sealed = sealing (begun.others 0 (λ e. absurd cc) ∙ closed.is) in
    becomes_new layout bytes stripes old one two new are empty closed begun sealed

none_else : (b c : Bool) → (if b then at_rest [] else if c then at_rest [] else at_rest []) ≡ at_rest []
none_else true c = refl
none_else false true = refl
none_else false false = refl

-- what was empty is so after syncs and looks
module _ {D : Type 0} (states : D → List Files) (failures : D → ℕ) (honest : D → Type 0) where
  pub still_empty : (old mid new : D) → AfterSyncs states failures 2 old mid → Looks states failures honest 0 mid new → now (states old) ≡ empty_files → now (states new) ≡ empty_files
  still_empty old mid new is look empty = same_now states failures honest 0 mid new look ∙ ap (λ (past : List Files). now past) is.states_are ∙ fun_ext each
    where
      each : (n : ℕ) → now (states_synced 2 (states old)) n ≡ empty_files n
      each n = subst (λ (start : Files). with_file 1 (synced (start 1)) (with_file 0 (synced (start 0)) start) n ≡ empty_files n) (sym empty) (none_else (n == 1) (n == 0))
