-- What the calls of an opening leave of the files.
use Rattle.std.proofs.Common.{◌≡◌, inl, inr, ℕ, zero, suc, ◌+◌, ◌<◌, ◌≤◌, ◌==◌, nat_lt, if◌then◌else◌, Bool, true, false, List, [], ◌∷◌, ◌++◌, length, Option, Some, refl, sym, ◌∙◌, ap, arith}
use mathlib.Core.Path.{fun_ext}
use Rattle.std.specs.List.{AllByRecursion}
use Rattle.std.proofs.lemmas.Bool.Decides.{nat_tests}
use Rattle.std.proofs.lemmas.List.{length-append}
use Rattle.map_types.specs.declared.refusals.Refusal.{Refusal}
use Rattle.map_types.specs.declared.refusals.Refusal.TheVariants as refusal
use Rattle.disk_model.specs.Files.{Files, now, synced, with_file}
use Rattle.recovery.specs.Syncing.{Stopped, SyncsAndLooks, states_synced}
use Rattle.sim_rules.specs.After.{syncs_before, synced_below}
use Rattle.schedule_sim.specs.Opening.{LastFails, Syncing, Looking}

-- ---- the syncs

pub length_synced : (n : ℕ) (past : List Files) → length (states_synced n past) ≡ n + length past
length_synced zero past = omega arith
length_synced (suc n) past = omega (arith, length_synced n past)

with_same : (n : ℕ) (files : Files) (i : ℕ) (b : Bool) → b ≡ (i == n) → (if b then synced (if nat_lt n n then synced (files n) else files n) else if nat_lt i n then synced (files i) else files i)
    ≡ (if nat_lt i (suc n) then synced (files i) else files i)
with_same n files i true is =
    let same : i ≡ n = grind (arith, nat_tests, is) in
    let none : nat_lt n n ≡ false = grind (arith, nat_tests) in
    let below : nat_lt i (suc n) ≡ true = grind (arith, nat_tests, same) in
    rw (none, below, same) refl
with_same n files i false is =
    let apart : nat_lt i (suc n) ≡ nat_lt i n = grind (arith, nat_tests, is) in
    rw apart refl

one_more : (n : ℕ) (files : Files) → with_file n (synced (synced_below n files n)) (synced_below n files) ≡ synced_below (suc n) files
one_more n files = fun_ext (λ i. with_same n files i (i == n) refl)

none_below : (files : Files) (i : ℕ) → files i ≡ synced_below 0 files i
none_below files i = let none : nat_lt i 0 ≡ false = grind (arith, nat_tests) in rw none refl

pub now_synced : (n : ℕ) (past : List Files) → now (states_synced n past) ≡ synced_below n (now past)
now_synced zero past = fun_ext (λ i. none_below (now past) i)
now_synced (suc n) past = ap (λ (files : Files). with_file n (synced (files n)) files) (now_synced n past) ∙ one_more n (now past)

-- ---- the looks

now_looked : (files : Files) (added states : List Files) → now states ≡ files → AllByRecursion (λ f. f ≡ files) added → now (added ++ states) ≡ files
now_looked files [] states is each = is
now_looked files (f ∷ added) states is each = each.0

-- what four syncs and then looks leave
pub record Synced (old new : List Files) : Type 0 where
  pub added : List Files
  pub states : new ≡ added ++ states_synced 4 old
  pub files : now new ≡ synced_below 4 (now old)

pub syncs_and_looks : {D : Type 0} (states : D → List Files) (failures : D → ℕ) (honest : D → Type 0) (failed : ℕ) (old new : D) → SyncsAndLooks states failures honest 4 failed old new → Synced (states old) (states new)
syncs_and_looks states failures honest failed old new s =
    let mid : states s.mid ≡ states_synced 4 (states old) = s.synced.states_are in
    let same = s.looks.same in
    let longer : states new ≡ same.added ++ states_synced 4 (states old) = same.longer ∙ ap (λ (past : List Files). same.added ++ past) mid in
    let at_mid : now (states_synced 4 (states old)) ≡ now (states s.mid) = ap now (sym mid) in
    record {
      added = same.added;
      states = longer;
      files = ap now longer ∙ now_looked (now (states s.mid)) same.added (states_synced 4 (states old)) at_mid same.each ∙ ap now mid ∙ now_synced 4 (states old);
    }

-- ---- a failed opening

-- a stop at a sync, or all were made
pub data Left (old new : List Files) : Type 0 where
  AtSync : (count : ℕ) → count < 4 → length new ≡ count + 1 + length old → now new ≡ synced_below count (now old) → Left old new
  AllSynced : Synced old new → Left old new

pub left_by : {D : Type 0} (states : D → List Files) (failures : D → ℕ) (honest : D → Type 0) (old new : D) (e : Refusal) → Stopped states failures honest 4 old new e → Left (states old) (states new)
left_by states failures honest old new e (inl (is, s)) =
    AtSync s.count s.few (ap (λ (past : List Files). length past) s.states_are ∙ omega (arith, length_synced s.count (states old))) (ap now s.states_are ∙ now_synced s.count (states old))
left_by states failures honest old new e (inr s) = AllSynced (syncs_and_looks states failures honest _ old new s)

-- a refusal that isn't a failure comes after the syncs
pub all_synced : {D : Type 0} (states : D → List Files) (failures : D → ℕ) (honest : D → Type 0) (old new : D) (e : Refusal) → (e ≡ refusal.Failed → ⊥) → Stopped states failures honest 4 old new e → Synced (states old) (states new)
all_synced states failures honest old new e other (inl (is, s)) = absurd (other is)
all_synced states failures honest old new e other (inr s) = syncs_and_looks states failures honest _ old new s

syncs_low : (n count : ℕ) → count + 1 ≡ n → n ≤ 4 → syncs_before n ≡ count
syncs_low n count is low =
    let below : nat_lt n 5 ≡ true = grind (arith, nat_tests, low) in
    rw below (omega (arith, is))

syncs_high : (n : ℕ) → 4 < n → syncs_before n ≡ 4
syncs_high n high =
    let beyond : nat_lt n 5 ≡ false = grind (arith, nat_tests, high) in
    rw beyond refl

none_added : (added : List Files) → length added ≡ 0 → added ≡ []
none_added [] e = refl
none_added (f ∷ added) e = absurd (omega (arith, e))

-- where the last sync left the files as they were, three were made
three_by : (old before : List Files) → states_synced 4 old ≡ now before ∷ before → now (states_synced 4 old) ≡ synced_below 3 (now old)
three_by old before is =
    let tail : states_synced 3 old ≡ before = cc in
    ap now is ∙ ap now (sym tail) ∙ now_synced 3 old

three_synced : (old new before : List Files) → Synced old new → length old + 4 ≡ length new → new ≡ now before ∷ before → now new ≡ synced_below 3 (now old)
three_synced old new before s count lost =
    let all : length new ≡ length s.added + length (states_synced 4 old) = ap (λ (past : List Files). length past) s.states ∙ length-append s.added (states_synced 4 old) in
    let none : s.added ≡ [] = none_added s.added (omega (arith, all, count, length_synced 4 old)) in
    let is : new ≡ states_synced 4 old = s.states ∙ ap (λ (added : List Files). added ++ states_synced 4 old) none in
    ap now is ∙ three_by old before (sym is ∙ lost)

pub at_least : (old new : List Files) → Synced old new → length old + 4 ≤ length new
at_least old new s = omega (arith, ap (λ (past : List Files). length past) s.states, length-append s.added (states_synced 4 old), length_synced 4 old)

-- what is there after so many calls of which the last failed
pub record HasFailed (old new : List Files) (calls : ℕ) : Type 0 where
  pub some : 1 ≤ calls
  pub files : now new ≡ synced_below (syncs_before calls) (now old)

failed_by : (old new : List Files) (calls : ℕ) → Left old new → length old + calls ≡ length new → LastFails calls new → HasFailed old new calls
failed_by old new calls (AtSync count few long files) made last =
    let which : count + 1 ≡ calls = omega (arith, long, made) in
    record { some = omega (arith, which); files = files ∙ ap (λ k. synced_below k (now old)) (sym (syncs_low calls count which (omega (arith, which, few)))) }
failed_by old new calls (AllSynced s) made (Syncing before low lost) =
    let which : 3 + 1 ≡ calls = omega (arith, at_least old new s, made, low) in
    let four : length old + 4 ≡ length new = omega (arith, which, made) in
    record { some = omega (arith, which); files = three_synced old new before s four lost ∙ ap (λ k. synced_below k (now old)) (sym (syncs_low calls 3 which low)) }
failed_by old new calls (AllSynced s) made (Looking high) =
    record { some = omega (arith, high); files = s.files ∙ ap (λ k. synced_below k (now old)) (sym (syncs_high calls high)) }

-- An opening whose last call failed leaves the files as the world has them then.
pub failed_leaves : {D : Type 0} (states : D → List Files) (failures : D → ℕ) (honest : D → Type 0) (old new : D) (e : Refusal) (calls : ℕ) → Stopped states failures honest 4 old new e
    → length (states old) + calls ≡ length (states new) → LastFails calls (states new) → HasFailed (states old) (states new) calls
failed_leaves states failures honest old new e calls stopped made last = failed_by (states old) (states new) calls (left_by states failures honest old new e stopped) made last
