-- The bytes of one entry more.
use Rattle.std.proofs.Common.{◌≡◌, ℕ, ◌+◌, ◌<◌, List, [], ◌∷◌, ◌++◌, length, get_or, take, Some, sym, ◌∙◌, ap, subst, append_assoc}
use Rattle.std.proofs.lemmas.List.{take_more}
use Rattle.map_types.specs.declared.texts.Value.{Value}
use Rattle.log_records.specs.Layout.{Layout}
use Rattle.log_records.specs.Spelling.{IsText, IsValue, key_bytes, value_bytes}
use Rattle.store_layout.specs.Checkpoints.{entries_bytes, entry_bytes}
use Rattle.store_layout.proofs.CheckpointLemmas.{entries_push}
use Rattle.checkpoint_file.specs.States.{AreWellFormed}

pub entries_more : (entries : List (List ℕ × Value)) (i : ℕ) (entry : List ℕ × Value) → i < length entries → entry ≡ get_or entries i entry
    → take (i + 1) entries ≡ take i entries ++ entry ∷ []
entries_more entries i entry h is = take_more entries i entry h ∙ ap (λ (e : List ℕ × Value). take i entries ++ e ∷ []) (sym is)

module _ (layout : Layout) where
  -- key and value are put behind the entries before them
  pub bytes_more : (out before between after : List ℕ) (entries : List (List ℕ × Value)) (i : ℕ) (entry : List ℕ × Value) → i < length entries → entry ≡ get_or entries i entry
      → before ≡ out ++ entries_bytes layout (take i entries) → between ≡ before ++ key_bytes layout entry.0 → after ≡ between ++ value_bytes (Some entry.1)
      → after ≡ out ++ entries_bytes layout (take (i + 1) entries)
  bytes_more out before between after entries i entry h is so_far key value =
      let done = entries_bytes layout (take i entries) in
      value ∙ ap (λ (l : List ℕ). l ++ value_bytes (Some entry.1)) (key ∙ ap (λ (l : List ℕ). l ++ key_bytes layout entry.0) so_far)
      ∙ append_assoc (out ++ done) (key_bytes layout entry.0) (value_bytes (Some entry.1))
      ∙ append_assoc out done (entry_bytes layout entry)
      ∙ ap (λ (l : List ℕ). out ++ l) (sym (ap (entries_bytes layout) (entries_more entries i entry h is) ∙ entries_push layout (take i entries) entry))

  push_all : (entries : List (List ℕ × Value)) (entry : List ℕ × Value) → AreWellFormed layout entries → IsText layout.key_limit entry.0 × IsValue entry.1 → AreWellFormed layout (entries ++ entry ∷ [])
  push_all [] entry all one = (one, tt)
  push_all (x ∷ entries) entry all one = (all.0, push_all entries entry all.1 one)

  pub fits_more : (entries : List (List ℕ × Value)) (i : ℕ) (entry : List ℕ × Value) → i < length entries → entry ≡ get_or entries i entry
      → AreWellFormed layout (take i entries) → IsText layout.key_limit entry.0 → IsValue entry.1 → AreWellFormed layout (take (i + 1) entries)
  fits_more entries i entry h is all text value =
      subst (λ (l : List (List ℕ × Value)). AreWellFormed layout l) (sym (entries_more entries i entry h is)) (push_all (take i entries) entry all (text, value))
