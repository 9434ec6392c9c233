-- The numbers of a directory.
use Rattle.std.proofs.Common.{◌≡◌, ℕ, ◌%◌, ◌∙◌, true, None, List, [], ◌∷◌, map, sum_by, inl, inr, ap, sum, subst, sym, refl}
use Rattle.std.proofs.lemmas.List.Sums.{sum-map}
use Rattle.std.specs.FinMap as finite
use Rattle.map_types.specs.declared.refusals.Refusal.{Refusal}
use Rattle.map_model.specs.Maps.{Map}
use Rattle.map_model.specs.Parts.{parts_of}
use Rattle.atomic_methods.specs.PartState.{PartState}
use Rattle.disk_model.specs.Calls.{Looks}
use Rattle.disk_model.specs.Files.{Files}
use Rattle.disk_model.proofs.LookLemmas.{looks_on, same_now}
use Rattle.log_records.specs.Layout.{Layout}
use Rattle.store_layout.specs.Checkpoints.{Checkpoint, is_sealed}
use Rattle.store_layout.specs.Faults.{head_fault, version_in}
use Rattle.store_layout.specs.Opening.{Contents, Opened, Holds, IsCheckpointIn, checkpoint_layout}
use Rattle.store_layout.proofs.CheckpointFields.{has_head, has_stripes, sealed}
use Rattle.store_layout.proofs.Versions.{read_for}
use Rattle.checkpoint_file.specs.declared.head.Head.{Head}
use Rattle.checkpoint_file.specs.Heads.{HasFields}
use Rattle.recovery.specs.Dividing.{IsDivided}
use Rattle.recovery.specs.LogReading.{contents_of}
use Rattle.recovery.specs.Syncing.{SyncsAndLooks, states_synced}
use Rattle.recovery.proofs.SyncingLemmas.{seen_now, seen_synced}

-- ---- entries

map-twice : (parts : List PartState) → map (λ (m : Map). finite.len m) (map (λ (part : PartState). part.map) parts) ≡ map (λ (part : PartState). finite.len part.map) parts
map-twice [] = refl
map-twice (part ∷ parts) = ap (λ (ns : List ℕ). finite.len part.map ∷ ns) (map-twice parts)

pub entries_are : (n : ℕ) → n ≡ 16 → (m : Map) (parts : List PartState) → IsDivided n m parts
    → sum_by (λ (part : PartState). finite.len part.map) parts ≡ sum_by (λ (part : Map). finite.len part) (parts_of 16 m)
entries_are n is m parts divided =
    sym (sum-map (λ (part : PartState). finite.len part.map) parts) ∙ ap sum (sym (map-twice parts))
    ∙ sum-map (λ (part : Map). finite.len part) (map (λ (part : PartState). part.map) parts)
    ∙ ap (λ (ms : List Map). sum_by (λ (part : Map). finite.len part) ms) (divided.maps ∙ ap (λ (k : ℕ). parts_of k m) is)

-- ---- the checkpoint that is used

module _ (contents : Contents) (found : Opened) (generation : ℕ) (same : found.checkpoint.generation ≡ generation) (holds : Holds contents found) where
  abbrev content : List ℕ
  content = contents (generation % 2)

  -- the layout that the file names
  abbrev layout : Layout
  layout = checkpoint_layout content

  checkpoint : IsCheckpointIn found.checkpoint content
  checkpoint = subst (λ (n : ℕ). IsCheckpointIn found.checkpoint (contents (n % 2))) same holds.checkpoint

  pub is_there : is_sealed content ≡ true
  is_there = sealed layout found.checkpoint content checkpoint

  pub same_stripes : (head : Head) → HasFields head content → head.stripes ≡ found.checkpoint.stripes
  same_stripes head fields = fields.stripes ∙ has_stripes layout found.checkpoint content checkpoint

  pub has_no_fault : head_fault (generation % 2) content ≡ None
  has_no_fault = has_head layout found.checkpoint content checkpoint (read_for (version_in content)) (generation % 2) (ap (λ (n : ℕ). n % 2) same)

-- ---- looking on

module _ {D : Type 0} (states : D → List Files) (failures : D → ℕ) (honest : D → Type 0) where
  pub same_after : (old new : D) → SyncsAndLooks states failures honest 4 0 old new → contents_of states new ≡ contents_of states old
  same_after old new is =
      let looked : contents_of states new ≡ contents_of states is.mid = ap {B = Contents} (λ (files : Files) (n : ℕ). (files n).seen) (same_now states failures honest 0 is.mid new is.looks) in
      let synced_all : contents_of states is.mid ≡ seen_now (states_synced 4 (states old)) = ap {B = Contents} seen_now is.synced.states_are in
      looked ∙ (synced_all ∙ seen_synced 4 (states old))

  pub looks_further : (failed : ℕ) (old mid new : D) → SyncsAndLooks states failures honest 4 0 old mid → Looks states failures honest failed mid new → SyncsAndLooks states failures honest 4 failed old new
  looks_further failed old mid new is more = record {
    mid = is.mid;
    synced = is.synced;
    looks = looks_on states failures honest failed is.mid mid new is.looks more;
  }
