-- The file that is kept in memory, below the place from which it is written again at a sync.
use Rattle.std.proofs.Common.{true, false, ◌≡◌, ⊎_elim, ℕ, ◌+◌, ◌-◌, ◌<◌, ◌≤◌, List, ◌++◌, Bool, length, get_or, take, drop, replicate, sym, ◌∙◌, ap, arith, length-take, length-drop, take_all, take-append-drop}
use Rattle.std.proofs.lemmas.List.{get_or-take, get_or_append_left, get_or-append_right, get_or_past, get_or-replicate, take-take, take-append-le}
use Rattle.std.proofs.lemmas.Bool.{cases_lt}
use Rattle.disk_model.specs.Files.{overwritten}

module _ (clean : ℕ) (base seen : List ℕ) (inside : clean ≤ length base) (same : take clean base ≡ take clean seen) where
  pub clean_seen : clean ≤ length seen
  clean_seen = omega (arith, ap length same, length-take clean base, length-take clean seen)

  -- what is not written again is there already
  pub rewritten : (old new : List ℕ) → old ≡ base → new ≡ seen → take clean old ++ take (length new - clean) (drop clean new) ≡ seen
  rewritten old new is_old is_new =
      let whole : take (length seen - clean) (drop clean seen) ≡ drop clean seen = take_all (length seen - clean) (drop clean seen) (omega (arith, length-drop clean seen)) in
      ap (λ (l : List ℕ). take clean l ++ take (length new - clean) (drop clean new)) is_old
      ∙ ap (λ (l : List ℕ). take clean base ++ take (length l - clean) (drop clean l)) is_new
      ∙ ap (λ (l : List ℕ). take clean base ++ l) whole
      ∙ ap (λ (l : List ℕ). l ++ drop clean seen) same
      ∙ take-append-drop clean seen

module _ (clean : ℕ) (marks : List Bool) (clear : (i : ℕ) → i < clean → get_or marks i true ≡ false) where
  pub clean_marks : clean ≤ length marks
  clean_marks = ⊎_elim {C = clean ≤ length marks}
      (λ short.
      let last = sym (clear (length marks) short) ∙ get_or_past marks (length marks) true (omega arith) in
      absurd (cc))
      (λ long. long)
      (cases_lt (length marks) clean)

  -- no mark is set where those from that place on are cleared
  pub cleared : (n i : ℕ) → i < clean + n → get_or (take clean marks ++ replicate n false) i true ≡ false
  cleared n i low = ⊎_elim {C = get_or (take clean marks ++ replicate n false) i true ≡ false}
      (λ below.
      get_or_append_left (take clean marks) (replicate n false) true i (omega (arith, length-take clean marks, clean_marks)) ∙ get_or-take clean marks i true below ∙ clear i below)
      (λ past.
      let size : length (take clean marks) ≡ clean = omega (arith, length-take clean marks, clean_marks) in
      get_or-append_right (take clean marks) (replicate n false) clean i true size past ∙ get_or-replicate n (i - clean) false true (omega arith))
      (cases_lt i clean)

-- a write changes nothing before its place
pub before_write : (clean at len : ℕ) (bytes seen : List ℕ) → clean ≤ at → at ≤ length seen → at ≤ len → take clean (take len (overwritten at bytes seen)) ≡ take clean seen
before_write clean at len bytes seen low inside long =
    take-take clean len (overwritten at bytes seen) (omega arith)
    ∙ take-append-le clean (take at seen) (bytes ++ drop (at + length bytes) seen) (omega (arith, length-take at seen))
    ∙ take-take clean at seen low
