-- What a fill picks, one place after another.
use Rattle.std.proofs.Common.{Bool, true, false, cond, ◌||◌, nat_lt, if◌then◌else◌, ◌≡◌, ℕ, zero, suc, ◌+◌, ◌-◌, ◌<◌, ◌≤◌, max, min, slice_index_or, List, [], ◌∷◌, ◌++◌, length, take, drop, ⊎_elim, refl, sym, ◌∙◌, ap, subst, arith, append_assoc, length-append, length-take, length-drop, map-id}
use mir.Val.{bool_byte}
use Rattle.std.specs.List.{filter, range_with_len}
use Rattle.std.proofs.lemmas.List.{get_or-take, get_or_past, get_or_default, take-take, take_all, take_at, drop_at, drop_all}
use Rattle.std.proofs.lemmas.List.FromFn.{map-range_with_len_more, length-map-range_with_len, get_or-map-range_with_len}
use Rattle.std.proofs.lemmas.Bool.{cases_lt}
use Rattle.std.proofs.lemmas.List.Elements.{filter-append}
use Rattle.std.proofs.lemmas.Bool.Decides.{nat_tests}
use Rattle.disk_model.specs.Files.{File, Files, AreBytes, byte_at, is_between, is_written, is_pending, overwritten, MayLeave, IsCoherent, IsTorn}
use Rattle.disk_model.specs.Fills.{HasBytes, bytes_by, within, pending_below, pending_before, length_left, byte_left, left_by, length_torn, byte_torn, bytes_torn, seen_torn, torn}
use Rattle.disk_model.specs.declared.fill.Fill.{Fill}
use Rattle.disk_model.specs.declared.fill.Fill.TheVariants.{Old, New, Byte, Chosen}
use Rattle.disk_model.proofs.FileLemmas.{bytes_take, bytes_overwritten, kept_outside, coherent_reached, on_disk}

pub bytes_by_more : (n : ℕ) (f : ℕ → ℕ) → bytes_by (n + 1) f ≡ bytes_by n f ++ f n ∷ []
bytes_by_more n f = map-range_with_len_more f 0 n n (omega arith)

range_more : (n : ℕ) → range_with_len 0 (n + 1) ≡ range_with_len 0 n ++ n ∷ []
range_more n =
    sym (map-id (range_with_len 0 (n + 1))) ∙ map-range_with_len_more (λ (i : ℕ). i) 0 n n (omega arith) ∙ ap (λ (l : List ℕ). l ++ n ∷ []) (map-id (range_with_len 0 n))

pub pending_more : (file : File) (n : ℕ) → pending_below file (n + 1) ≡ pending_below file n + bool_byte (is_pending file n)
pending_more file n =
    ap (λ (l : List ℕ). length (filter (is_pending file) l)) (range_more n)
    ∙ ap (λ (l : List ℕ). length l) (filter-append (is_pending file) (range_with_len 0 n) (n ∷ []))
    ∙ length-append (filter (is_pending file) (range_with_len 0 n)) (filter (is_pending file) (n ∷ []))
    ∙ ap (λ k. pending_below file n + k) (one (is_pending file n))
  where
    one : (b : Bool) → length (cond b (n ∷ []) []) ≡ bool_byte b
    one true = refl
    one false = refl

or_true : (b : Bool) → (b || true) ≡ true
or_true true = refl
or_true false = refl

pub at_most_one : (b : Bool) → bool_byte b ≤ 1
at_most_one true = omega arith
at_most_one false = omega arith

-- past the old end every byte is pending
pub pending_past : (file : File) (n : ℕ) → pending_below file (length file.base + n) ≡ pending_below file (length file.base) + n
pending_past file zero =
    let e : length file.base + zero ≡ length file.base = omega arith in
    ap (λ k. pending_below file k) e ∙ omega arith
pending_past file (suc n) =
    let e : length file.base + suc n ≡ length file.base + n + 1 = omega arith in
    ap (λ k. pending_below file k) e
    ∙ pending_more file (length file.base + n)
    ∙ ap (λ b. pending_below file (length file.base + n) + bool_byte b) (past (length file.base + n) (omega arith))
    ∙ omega (arith, pending_past file n)
  where
    past : (i : ℕ) → length file.base ≤ i → is_pending file i ≡ true
    past i h = grind (arith, nat_tests, or_true (is_written i file.pending))

-- ---- what a failed write leaves

between : (low high n : ℕ) → low ≤ high → (low ≤ within low high n) × (within low high n ≤ high)
between low high n h = (omega arith, omega arith)

length_torn_between : (fill : Fill) (number at : ℕ) (bytes : List ℕ) (file : File)
    → (length file.seen ≤ length_torn fill number at bytes file) × (length_torn fill number at bytes file ≤ max (length file.seen) (at + length bytes))
length_torn_between Old number at bytes file = (omega arith, omega arith)
length_torn_between New number at bytes file = (omega arith, omega arith)
length_torn_between (Byte byte) number at bytes file = (omega arith, omega arith)
length_torn_between (Chosen chosen lens) number at bytes file = between (length file.seen) (max (length file.seen) (at + length bytes)) (slice_index_or lens number 0) (omega arith)

length-bytes_torn : (fill : Fill) (at : ℕ) (bytes : List ℕ) (file : File) → length (bytes_torn fill at bytes file) ≡ length bytes
length-bytes_torn fill at bytes file = length-map-range_with_len (byte_torn fill at bytes file) 0 (length bytes)

module _ (fill : Fill) (number at : ℕ) (bytes : List ℕ) (file : File) where
  abbrev whole : List ℕ
  whole = overwritten at (bytes_torn fill at bytes file) file.seen

  abbrev cut : ℕ
  cut = length_torn fill number at bytes file

  length-whole : length whole ≡ min at (length file.seen) + (length bytes + (length file.seen - (at + length bytes)))
  length-whole =
      simp (length-append, length-take, length-drop) (omega (arith, length-bytes_torn fill at bytes file))

  pub coherent_torn : IsCoherent file → AreBytes (seen_torn fill number at bytes file) → IsCoherent (torn fill number at bytes file)
  coherent_torn h are =
      let b = length_torn_between fill number at bytes file in
      coherent_reached at bytes (take cut whole) file h
      (omega (arith, b.0, b.1, length-take cut whole, length-whole, h.no_shorter)) (omega (arith, b.0, b.1, length-take cut whole, length-whole, h.no_longer))
      (λ i here clear.
      let inside : i < cut = omega (arith, b.0, h.no_shorter) in
      let clear' = subst (λ n. is_between i at n ≡ false) (sym (length-bytes_torn fill at bytes file)) clear in
      get_or-take cut whole i 0 inside ∙ kept_outside i at (bytes_torn fill at bytes file) file.seen (omega (arith, h.no_shorter)) clear')
      are

  pub torn_is_torn : at ≤ length file.seen → IsTorn at bytes file (torn fill number at bytes file)
  torn_is_torn inside =
      let b = length_torn_between fill number at bytes file in
      let size = length-take cut whole in
      record {
        before = take-take at cut whole (omega (arith, b.0)) ∙ take_at (take at file.seen) (bytes_torn fill at bytes file ++ drop (at + length (bytes_torn fill at bytes file)) file.seen) at (omega (arith, length-take at file.seen));
        after = ⊎_elim {C = drop (at + length bytes) (take cut whole) ≡ drop (at + length bytes) file.seen}
            (λ short. drop_all (at + length bytes) (take cut whole) (omega (arith, b.1, size)) ∙ sym (drop_all (at + length bytes) file.seen (omega arith)))
            (λ long.
            let front : length (take at file.seen ++ bytes_torn fill at bytes file) ≡ at + length bytes =
            simp (length-append, length-take) (omega (arith, length-bytes_torn fill at bytes file)) in
            ap (λ (l : List ℕ). drop (at + length bytes) l) (take_all cut whole (omega (arith, b.0, length-whole)))
            ∙ ap (λ (l : List ℕ). drop (at + length bytes) l) (sym (append_assoc (take at file.seen) (bytes_torn fill at bytes file) (drop (at + length (bytes_torn fill at bytes file)) file.seen)))
            ∙ drop_at (take at file.seen ++ bytes_torn fill at bytes file) (drop (at + length (bytes_torn fill at bytes file)) file.seen) (at + length bytes) front
            ∙ ap (λ n. drop (at + n) file.seen) (length-bytes_torn fill at bytes file))
            (cases_lt (length file.seen) (at + length bytes));
        no_shorter = omega (arith, b.0, size, length-whole);
        no_longer = omega (arith, b.1, size);
        base = refl;
        pending = refl;
        greatest = refl;
      }

bytes_bytes_by : (n : ℕ) (f : ℕ → ℕ) → ((i : ℕ) → f i < 256) → AreBytes (bytes_by n f)
bytes_bytes_by n f are i = ⊎_elim {C = byte_at i (bytes_by n f) < 256}
    (λ below. subst (λ b. b < 256) (sym (get_or-map-range_with_len f 0 n i i 0 below (omega arith))) (are i))
    (λ past. subst (λ b. b < 256) (sym (get_or_past (bytes_by n f) i 0 (omega (arith, length-map-range_with_len f 0 n)))) (omega arith))
    (cases_lt i n)

byte_torn_byte : (fill : Fill) (at : ℕ) (bytes : List ℕ) (file : File) (i : ℕ) → HasBytes fill → IsCoherent file → AreBytes bytes → byte_torn fill at bytes file i < 256
byte_torn_byte Old at bytes file i has h are =
    elim (nat_lt (at + i) (length file.base)) as (λ b. (if b then byte_at (at + i) file.base else byte_at (at + i) file.seen) < 256) [ true ↦ h.base_bytes (at + i) | false ↦ h.bytes (at + i) ]
byte_torn_byte New at bytes file i has h are = are i
byte_torn_byte (Byte byte) at bytes file i has h are = has
byte_torn_byte (Chosen chosen lens) at bytes file i has h are = ⊎_elim {C = slice_index_or chosen.items i (byte_at i bytes) < 256}
    (λ below. subst (λ b. b < 256) (get_or_default chosen.items i 0 (byte_at i bytes) below) (has i))
    (λ past. subst (λ b. b < 256) (sym (get_or_past chosen.items i (byte_at i bytes) past)) (are i))
    (cases_lt i (length chosen.items))

pub bytes_seen_torn : (fill : Fill) (number at : ℕ) (bytes : List ℕ) (file : File) → HasBytes fill → IsCoherent file → AreBytes bytes → AreBytes (seen_torn fill number at bytes file)
bytes_seen_torn fill number at bytes file has h are =
    bytes_take (length_torn fill number at bytes file) (overwritten at (bytes_torn fill at bytes file) file.seen)
    (bytes_overwritten at (bytes_torn fill at bytes file) file.seen
    (bytes_bytes_by (length bytes) (byte_torn fill at bytes file) (λ i. byte_torn_byte fill at bytes file i has h are)) h.bytes)

-- ---- what a stop leaves

length_left_between : (fill : Fill) (number : ℕ) (file : File) → IsCoherent file → (length file.base ≤ length_left fill number file) × (length_left fill number file ≤ file.greatest)
length_left_between Old number file h = (omega arith, omega (arith, h.no_shorter, h.no_longer))
length_left_between New number file h = (h.no_shorter, h.no_longer)
length_left_between (Byte byte) number file h = (omega (arith, h.no_shorter, h.no_longer), omega arith)
length_left_between (Chosen bytes lens) number file h = between (length file.base) file.greatest (slice_index_or lens number 0) (omega (arith, h.no_shorter, h.no_longer))

byte_left_same : (fill : Fill) (count : ℕ) (file : File) (i : ℕ) → IsCoherent file → is_pending file i ≡ false → byte_left fill count file i ≡ byte_at i file.seen
byte_left_same Old count file i h clear = h.same i clear
byte_left_same New count file i h clear = refl
byte_left_same (Byte byte) count file i h clear = rw clear refl
byte_left_same (Chosen bytes lens) count file i h clear = rw clear refl

-- what a fill picks is what a stop may leave
pub left_allowed : (fill : Fill) (files : Files) (number : ℕ) → IsCoherent (files number) → AreBytes (left_by fill files number) → MayLeave (files number) (left_by fill files number)
left_allowed fill files number h are =
    let file = files number in
    let f : ℕ → ℕ = λ i. byte_left fill (pending_before files number + pending_below file i) file i in
    let n = length_left fill number file in
    let size = length-map-range_with_len f 0 n in
    let b = length_left_between fill number file h in
    record {
      no_shorter = omega (arith, size, b.0);
      no_longer = omega (arith, size, b.1);
      bytes = are;
      same = λ i clear.
          let here : i < n = omega (arith, b.0, on_disk file i clear) in
          get_or-map-range_with_len f 0 n i i 0 here (omega arith) ∙ byte_left_same fill (pending_before files number + pending_below file i) file i h clear;
    }
