-- What a write makes of a file, and that what isn't pending stays as it was.
use Rattle.std.proofs.Common.{Bool, true, false, ◌||◌, ◌==◌, nat_le, ◌≡◌, ◌≢◌, ◌⊎◌, inl, inr, ⊎_elim, ℕ, ◌+◌, ◌-◌, ◌<◌, ◌≤◌, max, min, List, [], ◌∷◌, ◌++◌, length, take, drop, if◌then◌else◌, refl, sym, ◌∙◌, ap, subst, arith, length-append, length-take, length-drop}
use mathlib.Core.Path.{fun_ext}
use Rattle.std.proofs.lemmas.List.{ext_get_or, get_or-take, get_or-drop, get_or_append_left, get_or-append_right, get_or_past}
use Rattle.std.proofs.lemmas.Bool.{cases_eq, cases_lt}
use Rattle.std.proofs.lemmas.Bool.Decides.{nat_tests}
use Rattle.disk_model.specs.Files.{File, Files, AreBytes, byte_at, is_between, is_written, is_pending, overwritten, reached, written, at_rest, now, with_file, IsCoherent, AreCoherent, AllCoherent, IsTorn, MayLeave}

-- ---- lists of bytes

pub length-overwritten : (at : ℕ) (bytes old : List ℕ) → at ≤ length old → length (overwritten at bytes old) ≡ max (length old) (at + length bytes)
length-overwritten at bytes old h =
    simp (length-append, length-take, length-drop) (omega arith)

pub bytes_append : (xs ys : List ℕ) → AreBytes xs → AreBytes ys → AreBytes (xs ++ ys)
bytes_append xs ys are are' i = ⊎_elim {C = byte_at i (xs ++ ys) < 256}
    (λ below. subst (λ b. b < 256) (sym (get_or_append_left xs ys 0 i below)) (are i))
    (λ past. subst (λ b. b < 256) (sym (get_or-append_right xs ys (length xs) i 0 refl past)) (are' (i - length xs)))
    (cases_lt i (length xs))

pub bytes_take : (n : ℕ) (xs : List ℕ) → AreBytes xs → AreBytes (take n xs)
bytes_take n xs are i = ⊎_elim {C = byte_at i (take n xs) < 256}
    (λ below. subst (λ b. b < 256) (sym (get_or-take n xs i 0 below)) (are i))
    (λ past. subst (λ b. b < 256) (sym (get_or_past (take n xs) i 0 (omega (arith, length-take n xs)))) (omega arith))
    (cases_lt i n)

pub bytes_drop : (n : ℕ) (xs : List ℕ) → AreBytes xs → AreBytes (drop n xs)
bytes_drop n xs are i = subst (λ b. b < 256) (sym (get_or-drop n xs i 0)) (are (n + i))

pub bytes_overwritten : (at : ℕ) (bytes old : List ℕ) → AreBytes bytes → AreBytes old → AreBytes (overwritten at bytes old)
bytes_overwritten at bytes old are are' =
    bytes_append (take at old) (bytes ++ drop (at + length bytes) old) (bytes_take at old are')
    (bytes_append bytes (drop (at + length bytes) old) are (bytes_drop (at + length bytes) old are'))

outside : (i at size : ℕ) → is_between i at size ≡ false → (i < at) ⊎ (at + size ≤ i)
outside i at size h = ⊎_elim {C = (i < at) ⊎ (at + size ≤ i)} (λ below. inl below)
    (λ from. ⊎_elim {C = (i < at) ⊎ (at + size ≤ i)} (λ under. absurd (grind (arith, nat_tests))) (λ past. inr past) (cases_lt i (at + size)))
    (cases_lt i at)

-- outside of its range a write changes nothing
pub kept_outside : (i at : ℕ) (bytes old : List ℕ) → i < length old → is_between i at (length bytes) ≡ false
    → byte_at i (overwritten at bytes old) ≡ byte_at i old
kept_outside i at bytes old here h = ⊎_elim {C = byte_at i (overwritten at bytes old) ≡ byte_at i old}
    (λ before.
    get_or_append_left (take at old) (bytes ++ drop (at + length bytes) old) 0 i (omega (arith, length-take at old)) ∙ get_or-take at old i 0 before)
    (λ behind.
    let n = length bytes in
    let front : length (take at old) ≡ at = omega (arith, length-take at old) in
    let e : at + n + (i - at - n) ≡ i = omega arith in
    get_or-append_right (take at old) (bytes ++ drop (at + n) old) at i 0 front (omega arith)
    ∙ get_or-append_right bytes (drop (at + n) old) n (i - at) 0 refl (omega arith)
    ∙ get_or-drop (at + n) old (i - at - n) 0
    ∙ ap (λ k. byte_at k old) e)
    (outside i at (length bytes) h)

-- ---- files

pub coherent_at_rest : (content : List ℕ) → AreBytes content → IsCoherent (at_rest content)
coherent_at_rest content are = record { no_shorter = omega arith; no_longer = omega arith; same = λ i h. refl; bytes = are; base_bytes = are }

neither : (a b c : Bool) → ((a || b) || c) ≡ false → (a ≡ false) × ((b || c) ≡ false)
neither false b c h = (refl, h)
neither true b c h = absurd (cc)

pub on_disk : (file : File) (i : ℕ) → is_pending file i ≡ false → i < length file.base
on_disk file i h = ⊎_elim {C = i < length file.base} (λ below. below) (λ past. absurd (grind (arith, nat_tests, or_true (is_written i file.pending)))) (cases_lt i (length file.base))
  where
    or_true : (b : Bool) → (b || true) ≡ true
    or_true true = refl
    or_true false = refl

-- after a write that left other bytes than these as they were
pub coherent_reached : (at : ℕ) (bytes seen : List ℕ) (file : File) → IsCoherent file → length file.base ≤ length seen → length seen ≤ max file.greatest (at + length bytes)
    → ((i : ℕ) → i < length file.base → is_between i at (length bytes) ≡ false → byte_at i seen ≡ byte_at i file.seen) → AreBytes seen
    → IsCoherent (reached at bytes seen file)
coherent_reached at bytes seen file h long short same are = record {
  no_shorter = long;
  no_longer = short;
  same = λ i clear.
      let parts = neither (is_between i at (length bytes)) (is_written i file.pending) (nat_le (length file.base) i) clear in
      h.same i parts.1 ∙ sym (same i (on_disk file i parts.1) parts.0);
  bytes = are;
  base_bytes = h.base_bytes;
}

pub coherent_written : (at : ℕ) (bytes : List ℕ) (file : File) → IsCoherent file → AreBytes (overwritten at bytes file.seen) → IsCoherent (written at bytes file)
coherent_written at bytes file h are =
    let size : length (overwritten at bytes file.seen) ≡ min at (length file.seen) + (length bytes + (length file.seen - (at + length bytes))) =
    simp (length-append, length-take, length-drop) refl in
    coherent_reached at bytes (overwritten at bytes file.seen) file h (omega (arith, h.no_shorter)) (omega (arith, h.no_longer))
    (λ i here clear. kept_outside i at bytes file.seen (omega (arith, h.no_shorter)) clear) are

pub coherent_lost : (at : ℕ) (bytes : List ℕ) (file : File) → IsCoherent file → IsCoherent (reached at bytes file.seen file)
coherent_lost at bytes file h =
    coherent_reached at bytes file.seen file h h.no_shorter (omega (arith, h.no_longer)) (λ i here clear. refl) h.bytes

pub lost_is_torn : (at : ℕ) (bytes : List ℕ) (file : File) → IsTorn at bytes file (reached at bytes file.seen file)
lost_is_torn at bytes file = record { before = refl; after = refl; no_shorter = omega arith; no_longer = omega arith; base = refl; pending = refl; greatest = refl }

pub with_same : (number : ℕ) (file : File) (files : Files) → with_file number file files number ≡ file
with_same number file files = grind (arith, nat_tests)

pub with_other : (number : ℕ) (file : File) (files : Files) (n : ℕ) → n ≢ number → with_file number file files n ≡ files n
with_other number file files n other = grind (arith, nat_tests)

pub with_itself : (number : ℕ) (files : Files) → with_file number (files number) files ≡ files
with_itself number files = fun_ext (λ n. ⊎_elim {C = with_file number (files number) files n ≡ files n}
    (λ is. ap (λ k. with_file number (files number) files k) is ∙ with_same number (files number) files ∙ ap files (sym is))
    (λ other. with_other number (files number) files n other)
    (cases_eq n number))

pub coherent_with : (number : ℕ) (file : File) (files : Files) → AreCoherent files → IsCoherent file → AreCoherent (with_file number file files)
coherent_with number file files are h n below = elim (n == number) as (λ b. IsCoherent (if b then file else files n)) [ true ↦ h | false ↦ are n below ]

pub now_coherent : (states : List Files) → AllCoherent states → AreCoherent (now states)
now_coherent [] all = λ n below. coherent_at_rest [] (λ i. omega arith)
now_coherent (files ∷ past) all = all.0

-- what is read is among what a stop may leave
pub seen_may_stay : (file : File) → IsCoherent file → MayLeave file file.seen
seen_may_stay file h = record { no_shorter = h.no_shorter; no_longer = h.no_longer; bytes = h.bytes; same = λ i clear. refl }

-- a file at rest leaves its content
pub rest_leaves : (old content : List ℕ) → MayLeave (at_rest old) content → content ≡ old
rest_leaves old content left =
    let size : length content ≡ length old = omega (arith, left.no_shorter, left.no_longer) in
    ext_get_or 0 content old size (λ i h.
    let below : i < length old = omega (arith, size, h) in
    left.same i (grind (arith, nat_tests)))
