-- The sections that the cases give.
use Rattle.std.proofs.Common.{◌≡◌, ℕ, ◌≤◌, Bool, false, List, [], ◌∷◌, ◌++◌, T, sym, ap, subst, ◌∙◌}
use Rattle.std.specs.FinMap as finite
use Rattle.std.specs.FinMap.{entries-from_sorted}
use Rattle.std.specs.FinMap.Entries.{is_sorted}
use Rattle.std.specs.Ordering.{nat_cmp}
use Rattle.std.specs.Cmp.Lexicographic.{slice_cmp}
use Rattle.std.specs.declared.cmp.Ordering.TheVariants.{Less}
use Rattle.disk_model.specs.Calls.{Looks}
use Rattle.disk_model.specs.Files.{File, Files, at_rest, now, synced, with_file}
use Rattle.disk_model.proofs.FileLemmas.{with_same}
use Rattle.disk_model.proofs.MomentLemmas.{in_the_end}
use Rattle.map_types.specs.declared.texts.Value.{Value}
use Rattle.map_model.specs.Maps.{Map}
use Rattle.store_layout.specs.Checkpoints.{Section, checkpoint_file, is_to_close}
use Rattle.checkpoint_file.specs.CheckpointSteps.{MayAdvance}
use Rattle.checkpoint_file.specs.CheckpointStates.{Stands}
use Rattle.checkpoint_file.specs.States.{CheckpointState, AreKeysOf, with_section}

-- two entries whose keys rise
pub two_sorted : (a b : List ℕ × Value) → slice_cmp nat_cmp a.0 b.0 ≡ Less → T (is_sorted (slice_cmp nat_cmp) (a ∷ b ∷ []))
two_sorted a b less = rw less tt

-- a section of sorted entries was given
pub may_stage : {D : Type 0} (states : D → List Files) (honest : D → Type 0) (w v : CheckpointState) (disk : D) (mark : ℕ) (entries : List (List ℕ × Value))
    → MayAdvance states honest w disk → v ≡ with_section mark entries w
    → ((map : Map) (old : List ℕ) (sections : List Section) (file : File) → entries ≡ finite.entries map → AreKeysOf w.stripes w.count entries → w.low ≤ mark
    → Stands w old sections file → Stands v old (sections ++ record { mark = mark; map = map } ∷ []) file)
    → T (is_sorted (slice_cmp nat_cmp) entries) → AreKeysOf w.stripes w.count entries → w.low ≤ mark → MayAdvance states honest v disk
may_stage states honest w v disk mark entries may state staged sorted keys low = λ works is_honest.
    let was_works : w.is_broken ≡ false = sym (ap (λ (s : CheckpointState). s.is_broken) state) ∙ works in
    let (old, sections, stands) = may was_works is_honest in
    let map : Map = finite.from_sorted entries in
    let entries_are : entries ≡ finite.entries map = sym (entries-from_sorted (slice_cmp nat_cmp) entries sorted) in
    let x : Section = record { mark = mark; map = map } in (
      old,
      sections ++ x ∷ [],
      subst (λ n. Stands v old (sections ++ x ∷ []) (now (states disk) (checkpoint_file n))) (sym (ap (λ (s : CheckpointState). s.generation) state))
          (staged map old sections (now (states disk) (checkpoint_file w.generation)) entries_are keys low stands),
    )

-- the file was synced, and its gate looked at
pub begun_may : {D : Type 0} (states : D → List Files) (failures : D → ℕ) (honest : D → Type 0) (first second third : D) (v : CheckpointState) (must : Bool)
    → states second ≡ with_file (checkpoint_file v.generation) (synced (now (states first) (checkpoint_file v.generation))) (now (states first)) ∷ states first
    → Looks states failures honest 0 second third → (honest third → must ≡ is_to_close (now (states second) (checkpoint_file v.generation)).seen)
    → ((old : List ℕ) → must ≡ is_to_close old → Stands v old [] (at_rest old)) → MayAdvance states honest v third
begun_may states failures honest first second third v must is looks told stands = λ works is_honest.
    let number = checkpoint_file v.generation in
    let old : List ℕ = (now (states first) number).seen in
    let settled : now (states second) number ≡ at_rest old = ap (λ (all : List Files). now all number) is ∙ with_same number (synced (now (states first) number)) (now (states first)) in
    let still : now (states third) ≡ now (states second) = in_the_end states second third (λ files. files ≡ now (states second)) looks.same in
    let must_is : must ≡ is_to_close old = told is_honest ∙ ap (λ (f : File). is_to_close f.seen) settled in
    (old, [], subst (λ (f : File). Stands v old [] f) (sym (ap (λ (files : Files). files number) still ∙ settled)) (stands old must_is))
