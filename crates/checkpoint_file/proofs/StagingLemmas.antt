-- The sections with the one that is staged.
use Rattle.std.proofs.Common.{◌≡◌, ℕ, ◌+◌, ◌<◌, ◌≤◌, ◌^◌, max, List, [], ◌∷◌, ◌++◌, length, refl, sym, ◌∙◌, ap, subst, arith, zero-add, length-append}
use Rattle.std.specs.FinMap as finite
use Rattle.std.specs.List.{AllByRecursion}
use Rattle.disk_model.specs.Files.{File}
use Rattle.map_types.specs.declared.texts.Value.{Value}
use Rattle.map_model.specs.Maps.{Map}
use Rattle.log_records.specs.Layout.{Layout}
use Rattle.store_layout.specs.Logs.{new_layout}
use Rattle.store_layout.specs.Checkpoints.{Section, IsEntryOf, IsSection, marked_bytes, section_bytes, sections_bytes}
use Rattle.store_layout.proofs.CheckpointLemmas.{are_push, greatest_push, marks_push, sections_push}
use Rattle.store_layout.specs.declared.checkpoint_phase.CheckpointPhase.TheVariants.{Ready}
use Rattle.checkpoint_file.specs.States.{CheckpointState, AreKeysOf, AreWellFormed, with_section}
use Rattle.checkpoint_file.specs.CheckpointStates.{HasFilled, AtPhase, Stands}

all_of : (layout : Layout) (stripes stripe : ℕ) (entries : List (List ℕ × Value)) → AreWellFormed layout entries → AreKeysOf stripes stripe entries → AllByRecursion (IsEntryOf layout stripes stripe) entries
all_of layout stripes stripe [] well keys = tt
all_of layout stripes stripe (x ∷ entries) well keys = ((well.0.0, well.0.1, keys.0), all_of layout stripes stripe entries well.1 keys.1)

section_of : (layout : Layout) (stripes stripe mark : ℕ) (map : Map) (entries : List (List ℕ × Value)) → entries ≡ finite.entries map → mark < 2 ^ 64 → length entries < 2 ^ 32
    → AreWellFormed layout entries → AreKeysOf stripes stripe entries → IsSection layout stripes stripe (record { mark = mark; map = map })
section_of layout stripes stripe mark map entries is mark_fits few well keys = record {
  mark_fits = mark_fits;
  count_fits = subst (λ (l : List (List ℕ × Value)). length l < 2 ^ 32) is few;
  entries = subst (λ (l : List (List ℕ × Value)). AllByRecursion (IsEntryOf layout stripes stripe) l) is (all_of layout stripes stripe entries well keys);
}

pub staged_stands : (w v : CheckpointState) (mark : ℕ) (entries : List (List ℕ × Value)) → v ≡ with_section mark entries w → w.phase ≡ Ready → mark < 2 ^ 64 → length entries < 2 ^ 32
    → AreWellFormed new_layout entries → w.body + length (marked_bytes new_layout mark entries) < 2 ^ 64
    → (map : Map) (old : List ℕ) (sections : List Section) (file : File) → entries ≡ finite.entries map → AreKeysOf w.stripes w.count entries → w.low ≤ mark
    → Stands w old sections file → Stands v old (sections ++ record { mark = mark; map = map } ∷ []) file
staged_stands w v mark entries state ready mark_fits few well fits map old sections file is keys low stands =
    let x : Section = record { mark = mark; map = map } in
    let knows = stands.knows in
    let has : HasFilled w sections file = subst (λ p. AtPhase p w old sections file) ready stands.stands in
    let bytes : marked_bytes new_layout mark entries ≡ section_bytes new_layout x = ap (λ (l : List (List ℕ × Value)). marked_bytes new_layout mark l) is in
    let push : sections_bytes new_layout (sections ++ x ∷ []) ≡ sections_bytes new_layout sections ++ section_bytes new_layout x = sections_push new_layout sections x in
    let stripe : w.count ≡ 0 + length sections = knows.count ∙ sym (zero-add (length sections)) in
    subst (λ s. Stands s old (sections ++ x ∷ []) file) (sym state) (record {
      knows = record {
        count = omega (arith, knows.count, length-append sections (x ∷ []));
        greatest = ap (λ n. max n mark) knows.greatest ∙ sym (greatest_push sections x);
        body = omega (arith, knows.body, ap length has.none_staged, ap length bytes, ap length push, length-append (sections_bytes new_layout sections) (section_bytes new_layout x));
        are = are_push new_layout w.stripes 0 sections x knows.are
            (subst (λ n. IsSection new_layout w.stripes n x) stripe (section_of new_layout w.stripes w.count mark map entries is mark_fits few well keys));
        marks = marks_push w.low sections x knows.marks low;
        generation_fits = knows.generation_fits;
        low_fits = knows.low_fits;
        body_fits = fits;
        allowed = knows.allowed;
      };
      stands = record { before = sections; last = x; parts = refl; bytes = bytes; filled = has.filled };
    })
