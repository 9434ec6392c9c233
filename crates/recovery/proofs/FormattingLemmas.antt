-- The syncs and looks before a store is made.
use Rattle.std.proofs.Common.{◌≡◌, inl, ℕ, zero, suc, ◌<◌, ◌≤◌, ◌==◌, ◌||◌, Bool, true, false, cond, List, [], ◌∷◌, ◌++◌, refl, sym, ap, subst, ◌∙◌, arith}
use Rattle.std.specs.List.{AllByRecursion}
use Rattle.std.proofs.lemmas.Bool.{eqb-true}
use Rattle.disk_model.specs.Calls.{Looks}
use Rattle.disk_model.specs.Files.{AllCoherent, AreCoherent, Contents, File, Files, IsCoherent, Leaves, MayLeave, at_rest, now, synced, with_file}
use Rattle.disk_model.specs.Moments.{AtEachMoment}
use Rattle.disk_model.proofs.FileLemmas.{coherent_at_rest, coherent_with, now_coherent, seen_may_stay, rest_leaves}
use Rattle.disk_model.proofs.MomentLemmas.{goes_on, in_the_end, weaker}
use Rattle.disk_model.proofs.LookLemmas.{same_now}
use Rattle.store_layout.specs.Checkpoints.{is_sealed}
use Rattle.recovery.specs.Formatting.{AtStops, IsClear, IsNewOrUnformatted, IsUnformatted}
use Rattle.recovery.specs.LogReading.{contents_of}
use Rattle.recovery.specs.Syncing.{AfterSyncs, StoppedSyncing, states_synced}
use Rattle.recovery.proofs.NewStoreLemmas.{rest_unsealed}

-- ---- a sync leaves less

left_before : (file : File) (content : List ℕ) → IsCoherent file → MayLeave (synced file) content → MayLeave file content
left_before file content coherent left = subst (λ (c : List ℕ). MayLeave file c) (sym (rest_leaves file.seen content left)) (seen_may_stay file coherent)

leaves_before : (number : ℕ) (files : Files) (contents : Contents) → number < 4 → AreCoherent files → Leaves (with_file number (synced (files number)) files) contents → Leaves files contents
leaves_before number files contents low coherent leaves = λ m below.
    elim (m == number) as (λ b. (m == number) ≡ b → MayLeave (cond b (synced (files number)) (files m)) (contents m) → MayLeave (files m) (contents m)) [
      | true ↦ λ e left. subst (λ (file : File). MayLeave file (contents m)) (ap files (sym (eqb-true _ _ e))) (left_before (files number) (contents m) (coherent number low) left)
      | false ↦ λ e left. left
    ] refl (leaves m below)

module _ (P : Contents → Type 0) where
  abbrev Keeps : Files → Type 0
  Keeps files = AreCoherent files × AtStops P files

  keeps_synced : (number : ℕ) (files : Files) → number < 4 → Keeps files → Keeps (with_file number (synced (files number)) files)
  keeps_synced number files low keeps = (
    coherent_with number (synced (files number)) files keeps.0 (coherent_at_rest (files number).seen (keeps.0 number low).bytes),
    λ contents leaves. keeps.1 contents (leaves_before number files contents low keeps.0 leaves),
  )

  all_synced : (count : ℕ) (past : List Files) → count ≤ 4 → Keeps (now past) → Keeps (now (states_synced count past))
  all_synced zero past few keeps = keeps
  all_synced (suc n) past few keeps = keeps_synced n (now (states_synced n past)) (omega (arith, few)) (all_synced n past (omega (arith, few)) keeps)

  added : ℕ → List Files → List Files
  added zero past = []
  added (suc n) past = now (states_synced (suc n) past) ∷ added n past

  longer : (count : ℕ) (past : List Files) → states_synced count past ≡ added count past ++ past
  unfolding added
  longer zero past = refl
  longer (suc n) past = ap (λ (l : List Files). now (states_synced (suc n) past) ∷ l) (longer n past)

  each : (count : ℕ) (past : List Files) → count ≤ 4 → Keeps (now past) → AllByRecursion (AtStops P) (added count past)
  unfolding added
  each zero past few keeps = tt
  each (suc n) past few keeps = ((all_synced (suc n) past few keeps).1, each n past (omega (arith, few)) keeps)

  module _ {D : Type 0} (states : D → List Files) (failures : D → ℕ) (old : D) (coherent : AllCoherent (states old)) (at : AtStops P (now (states old))) where
    keeps : Keeps (now (states old))
    keeps = (now_coherent (states old) coherent, at)

    pub synced_moments : (count : ℕ) (new : D) → count ≤ 4 → AfterSyncs states failures count old new → AtEachMoment states old new (AtStops P)
    synced_moments count new few is = record {
      added = added count (states old);
      longer = is.states_are ∙ longer count (states old);
      first = at;
      each = each count (states old) few keeps;
    }

    pub stopped_moments : (most : ℕ) (new : D) → most ≤ 4 → StoppedSyncing states failures most old new → AtEachMoment states old new (AtStops P)
    stopped_moments most new few is =
        let n : is.count ≤ 4 = let less = is.few in omega (arith, less, few) in
        record {
          added = now (states_synced is.count (states old)) ∷ added is.count (states old);
          longer = is.states_are ∙ ap (λ (l : List Files). now (states_synced is.count (states old)) ∷ l) (longer is.count (states old));
          first = at;
          each = ((all_synced is.count (states old) n keeps).1, each is.count (states old) n keeps);
        }

    -- and then the files are looked at
    pub looked_moments : (honest : D → Type 0) (count failed : ℕ) (mid new : D) → count ≤ 4 → AfterSyncs states failures count old mid → Looks states failures honest failed mid new → AtEachMoment states old new (AtStops P)
    looked_moments honest count failed mid new few is look =
        let so_far = synced_moments count mid few is in
        goes_on states old mid new (AtStops P) so_far
        (weaker states mid new (λ files. files ≡ now (states mid)) (AtStops P) (λ files e. subst (AtStops P) (sym e) (in_the_end states old mid (AtStops P) so_far)) look.same)

pub starts : (stripes : ℕ) (files : Files) → AtStops IsUnformatted files → AtStops (IsNewOrUnformatted stripes) files
starts stripes files at contents leaves = inl (at contents leaves)

-- ---- no checkpoint is sealed

pub neither : (a b : Bool) → (a || b) ≡ false → (a ≡ false) × (b ≡ false)
neither false b e = (refl, e)
neither true b e = absurd cc

module _ {D : Type 0} (states : D → List Files) (failures : D → ℕ) (honest : D → Type 0) (old mid new : D) (is : AfterSyncs states failures 2 old mid) (look : Looks states failures honest 0 mid new) where
  settled_first : now (states mid) 0 ≡ synced (now (states old) 0)
  settled_first = ap (λ (past : List Files). now past 0) is.states_are

  settled_second : now (states mid) 1 ≡ synced (now (states old) 1)
  settled_second = ap (λ (past : List Files). now past 1) is.states_are

  rests : (file before : File) → file ≡ synced before → file ≡ at_rest file.seen
  rests file before e = e ∙ ap (λ (f : File). at_rest f.seen) (sym e)

  pub is_clear : (found : Bool) → found ≡ is_sealed (contents_of states mid 0) || is_sealed (contents_of states mid 1) → found ≡ false → IsClear (now (states new))
  is_clear found value none =
      let two = neither (is_sealed (contents_of states mid 0)) (is_sealed (contents_of states mid 1)) (sym value ∙ none) in
      let same = same_now states failures honest 0 mid new look in
      let clear : IsClear (now (states mid)) = record {
        first = contents_of states mid 0;
        settled = rests (now (states mid) 0) (now (states old) 0) settled_first;
        unsealed = two.0;
        second = λ content left. rest_unsealed (contents_of states mid 1) two.1 content (subst (λ (file : File). MayLeave file content) (rests (now (states mid) 1) (now (states old) 1) settled_second) left);
      } in
      subst IsClear (sym same) clear
