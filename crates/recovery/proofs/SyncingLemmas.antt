-- Files that are synced one after the other.
use Rattle.std.proofs.Common.{◌≡◌, ℕ, zero, suc, ◌+◌, ◌==◌, ◌<◌, true, false, cond, List, [], ◌∷◌, length, refl, sym, ap, subst, arith, ◌∙◌}
use Rattle.std.proofs.lemmas.Bool.{eqb-true}
use Rattle.std.proofs.lemmas.Bool.Decides.{nat_tests}
use mathlib.Core.Path.{fun_ext}
use Rattle.disk_model.specs.Files.{AllCoherent, File, Files, Leaves, MayLeave, at_rest, now, synced, with_file}
use Rattle.disk_model.proofs.FileLemmas.{rest_leaves}
use Rattle.disk_model.proofs.LookLemmas.{same_now}
use Rattle.file_pieces.specs.Counting.{Made, MadeAtMost}
use Rattle.store_layout.specs.Opening.{Contents}
use Rattle.recovery.specs.LogReading.{contents_of}
use Rattle.recovery.specs.Syncing.{AfterSyncs, LeavesOnly, StoppedSyncing, SyncsAndLooks, states_synced}

seen_once : (n : ℕ) (files : Files) (m : ℕ) → (with_file n (synced (files n)) files m).seen ≡ (files m).seen
seen_once n files m = elim (m == n) as (λ b. (m == n) ≡ b → (cond b (synced (files n)) (files m)).seen ≡ (files m).seen) [
  | true ↦ λ e. ap (λ i. (files i).seen) (sym (eqb-true _ _ e))
  | false ↦ λ e. refl
] refl

-- what is read is among what a stop may leave
pub read_is_left : (past : List Files) → AllCoherent past → Leaves (now past) (λ number. (now past number).seen)
read_is_left [] all number below = record { no_shorter = omega arith; no_longer = omega arith; bytes = λ i. omega arith; same = λ i clear. refl }
read_is_left (files ∷ past) all number below =
    let h = all.0 number below in
    record { no_shorter = h.no_shorter; no_longer = h.no_longer; bytes = h.bytes; same = λ i clear. refl }

abbrev pub seen_now : List Files → Contents
seen_now past = λ number. (now past number).seen

-- each file reads as before
pub seen_synced : (count : ℕ) (past : List Files) → seen_now (states_synced count past) ≡ seen_now past
seen_synced zero past = refl
seen_synced (suc n) past =
    let once : seen_now (states_synced (suc n) past) ≡ seen_now (states_synced n past) = fun_ext (λ m. seen_once n (now (states_synced n past)) m) in
    once ∙ seen_synced n past

below_last : (number n : ℕ) → number < suc n → (number == n) ≡ false → number < n
below_last number n less other = grind (arith, nat_tests, less, other)

-- on the disk is what was read
rests : (count : ℕ) (past : List Files) (number : ℕ) → number < count → now (states_synced count past) number ≡ at_rest (seen_now past number)
rests zero past number less = absurd (omega (arith, less))
rests (suc n) past number less =
    let before = now (states_synced n past) in
    elim (number == n) as (λ b. (number == n) ≡ b → cond b (synced (before n)) (before number) ≡ at_rest (seen_now past number)) [
      | true ↦ λ e. ap at_rest (ap (λ i. (before i).seen) (sym (eqb-true _ _ e)) ∙ ap (λ (c : Contents). c number) (seen_synced n past))
      | false ↦ λ e. rests n past number (below_last number n less e)
    ] refl

synced_length : (count : ℕ) (past : List Files) → length (states_synced count past) ≡ count + length past
synced_length zero past = omega arith
synced_length (suc n) past =
    let rest = synced_length n past in
    omega (arith, rest)

module _ {D : Type 0} (states : D → List Files) (failures : D → ℕ) where
  pub same_contents : (old new : D) → AfterSyncs states failures 4 old new → contents_of states new ≡ contents_of states old
  same_contents old new is =
      let one : contents_of states new ≡ seen_now (states_synced 4 (states old)) = ap {B = Contents} seen_now is.states_are in
      one ∙ seen_synced 4 (states old)

  -- four device calls were made
  pub four_synced : (old new : D) → AfterSyncs states failures 4 old new → Made states 4 old new
  four_synced old new is = ap (λ (past : List Files). length past) is.states_are ∙ omega arith

  -- not more were made where one of them failed
  pub few_synced : (old new : D) → StoppedSyncing states failures 4 old new → MadeAtMost states 4 old new
  few_synced old new is =
      let long = ap (λ (past : List Files). length past) is.states_are in
      let before = synced_length is.count (states old) in
      let few = is.few in
      omega (arith, long, before, few)

  -- nothing is pending, and the files hold what was read
  pub settled : (honest : D → Type 0) (failed : ℕ) (old new : D) → SyncsAndLooks states failures honest 4 failed old new → (number : ℕ) → number < 4
      → now (states new) number ≡ at_rest (contents_of states old number)
  settled honest failed old new is number below =
      let looked = same_now states failures honest failed is.mid new is.looks in
      ap (λ (files : Files). files number) looked ∙ (ap (λ (past : List Files). now past number) is.synced.states_are ∙ rests 4 (states old) number below)

  -- a stop leaves what was read
  pub left_as_read : (honest : D → Type 0) (failed : ℕ) (old new : D) → SyncsAndLooks states failures honest 4 failed old new → LeavesOnly (now (states new)) (contents_of states old)
  left_as_read honest failed old new is contents leaves number below =
      rest_leaves (contents_of states old number) (contents number)
      (subst (λ (file : File). MayLeave file (contents number)) (settled honest failed old new is number below) (leaves number below))

-- no call failed
pub none_failed : {D : Type 0} (states : D → List Files) (failures : D → ℕ) (honest : D → Type 0) (most : ℕ) (old new : D) → SyncsAndLooks states failures honest most 0 old new → failures new ≡ failures old
none_failed states failures honest most old new calls = let sum : failures calls.mid + 0 ≡ failures calls.mid = omega arith in calls.looks.failed_so ∙ sum ∙ calls.synced.counted
