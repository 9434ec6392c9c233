-- What a stop leaves of bytes that are on the disk, and how a gate goes from one state to the next.
use Rattle.std.proofs.Common.{Bool, true, false, ◌||◌, ◌≡◌, ◌≢◌, ◌⊎◌, inl, inr, ⊎_elim, ℕ, ◌+◌, ◌<◌, ◌≤◌, List, [], ◌∷◌, ◌++◌, length, take, drop, refl, sym, ◌∙◌, ap, subst, arith, append_assoc, length-append, length-take, length-drop, take-append-drop, zero-add}
use Rattle.std.proofs.lemmas.List.{take_at, drop_at, ext_get_or, get_or-take, get_or-drop, get_or-append-add, get_or_append_left, drop-drop, drop_more}
use Rattle.std.proofs.lemmas.Bool.Decides.{nat_tests}
use Rattle.disk_model.specs.Files.{Range, File, byte_at, is_between, is_written, is_pending, overwritten, reached, written, synced, IsSure, IsTorn, MayLeave}
use Rattle.disk_model.specs.Gates.{IsShut, IsOpening, IsOpen}

-- ---- bytes that are on the disk

outside_range : (i at size : ℕ) → (i < at) ⊎ (at + size ≤ i) → is_between i at size ≡ false
outside_range i at size (inl below) = grind (arith, nat_tests)
outside_range i at size (inr past) = grind (arith, nat_tests)

both_false : (a b : Bool) → a ≡ false → b ≡ false → (a || b) ≡ false
both_false false b h k = k
both_false true b h k = absurd (cc)

clear_apart : (low high at : ℕ) (bytes : List ℕ) (ranges : List Range) → (high ≤ at) ⊎ (at + length bytes ≤ low) → ((i : ℕ) → low ≤ i → i < high → is_written i ranges ≡ false)
    → (i : ℕ) → low ≤ i → i < high → is_written i (record { at = at; bytes = bytes } ∷ ranges) ≡ false
clear_apart low high at bytes ranges apart clear i from below =
    both_false (is_between i at (length bytes)) (is_written i ranges)
    (outside_range i at (length bytes) (⊎_elim {C = (i < at) ⊎ (at + length bytes ≤ i)} (λ before. inl (omega arith)) (λ behind. inr (omega arith)) apart))
    (clear i from below)

-- a write elsewhere leaves them there
pub sure_reached : (low high at : ℕ) (bytes seen : List ℕ) (file : File) → (high ≤ at) ⊎ (at + length bytes ≤ low) → IsSure low high file → IsSure low high (reached at bytes seen file)
sure_reached low high at bytes seen file apart sure = record { long = sure.long; clear = clear_apart low high at bytes file.pending apart sure.clear }

pub sure_torn : (low high at : ℕ) (bytes : List ℕ) (old new : File) → IsTorn at bytes old new → (high ≤ at) ⊎ (at + length bytes ≤ low) → IsSure low high old → IsSure low high new
sure_torn low high at bytes old new torn apart sure = record {
  long = omega (arith, ap length torn.base, sure.long);
  clear = subst (λ (ranges : List Range). (i : ℕ) → low ≤ i → i < high → is_written i ranges ≡ false) (sym torn.pending) (clear_apart low high at bytes old.pending apart sure.clear);
}

pub sure_synced : (low high : ℕ) (file : File) → high ≤ length file.seen → IsSure low high (synced file)
sure_synced low high file h = record { long = h; clear = λ i from below. refl }

not_pending : (low high i : ℕ) (file : File) → IsSure low high file → low ≤ i → i < high → is_pending file i ≡ false
not_pending low high i file sure from below =
    let long : i < length file.base = omega (arith, sure.long) in
    let clear : is_written i file.pending ≡ false = sure.clear i from below in
    grind (arith, nat_tests)

-- they stand in each content that a stop may leave
pub kept_piece : (file : File) (content front middle rest : List ℕ) → MayLeave file content → file.seen ≡ front ++ (middle ++ rest)
    → IsSure (length front) (length front + length middle) file → drop (length front) content ≡ middle ++ drop (length front + length middle) content
kept_piece file content front middle rest left is sure =
    let n = length front in
    let m = length middle in
    let long : n + m ≤ length content = omega (arith, sure.long, left.no_shorter) in
    let piece : List ℕ = take m (drop n content) in
    let size : length piece ≡ m = omega (arith, length-take m (drop n content), length-drop n content) in
    let same : piece ≡ middle = ext_get_or 0 piece middle size (λ i h.
    let below : i < m = omega (arith, size, h) in
    let here : byte_at (n + i) content ≡ byte_at (n + i) file.seen =
    left.same (n + i) (not_pending n (n + m) (n + i) file sure (omega arith) (omega (arith, below))) in
    get_or-take m (drop n content) i 0 below ∙ get_or-drop n content i 0 ∙ here ∙ ap (λ (l : List ℕ). byte_at (n + i) l) is
    ∙ get_or-append-add front (middle ++ rest) i 0 ∙ get_or_append_left middle rest 0 i below) in
    sym (take-append-drop m (drop n content)) ∙ ap (λ (l : List ℕ). l ++ drop m (drop n content)) same ∙ ap (λ (l : List ℕ). middle ++ l) (drop-drop m n content)

pub kept_front : (file : File) (content front rest : List ℕ) → MayLeave file content → file.seen ≡ front ++ rest → IsSure 0 (length front) file → content ≡ front ++ drop (length front) content
kept_front file content front rest left is sure =
    kept_piece file content [] front rest left is (subst (λ n. IsSure 0 n file) (sym (zero-add (length front))) sure) ∙ ap (λ n. front ++ drop n content) (zero-add (length front))

-- ---- writes

-- what a write leaves of a list in two parts, from the second on
pub overwritten_at : (front back bytes : List ℕ) → overwritten (length front) bytes (front ++ back) ≡ front ++ (bytes ++ drop (length bytes) back)
overwritten_at front back bytes =
    ap (λ (l : List ℕ). l ++ (bytes ++ drop (length front + length bytes) (front ++ back))) (take_at front back (length front) refl)
    ∙ ap (λ (l : List ℕ). front ++ (bytes ++ l)) (sym (drop-drop (length bytes) (length front) (front ++ back)) ∙ ap (λ (l : List ℕ). drop (length bytes) l) (drop_at front back (length front) refl))

-- what a torn write leaves in front of it
pub torn_front : (bytes : List ℕ) (old new : File) (front back : List ℕ) → IsTorn (length front) bytes old new → old.seen ≡ front ++ back → new.seen ≡ front ++ drop (length front) new.seen
torn_front bytes old new front back torn is =
    sym (take-append-drop (length front) new.seen)
    ∙ ap (λ (l : List ℕ). l ++ drop (length front) new.seen) (torn.before ∙ ap (λ (l : List ℕ). take (length front) l) is ∙ take_at front back (length front) refl)

-- a torn write of one byte
pub torn_byte : (old new : File) (front back : List ℕ) (b gate : ℕ) → IsTorn (length front) (gate ∷ []) old new → old.seen ≡ front ++ b ∷ back → (any : ℕ) × (new.seen ≡ front ++ any ∷ back)
torn_byte old new front back b gate torn is =
    let n = length front in
    let long : n < length new.seen = omega (arith, torn.no_shorter, ap length is, length-append front (b ∷ back)) in
    let behind : drop (n + 1) new.seen ≡ back =
    torn.after ∙ ap (λ (l : List ℕ). drop (n + 1) l) is ∙ sym (drop-drop 1 n (front ++ b ∷ back)) ∙ ap (λ (l : List ℕ). drop 1 l) (drop_at front (b ∷ back) n refl) in (
      byte_at n new.seen,
      torn_front (gate ∷ []) old new front (b ∷ back) torn is ∙ ap (λ (l : List ℕ). front ++ l) (drop_more new.seen n 0 long ∙ ap (λ (l : List ℕ). byte_at n new.seen ∷ l) behind),
    )

-- ---- gates

gate_split : (front behind rest : List ℕ) (gate : ℕ) → front ++ gate ∷ (behind ++ rest) ≡ (front ++ gate ∷ []) ++ (behind ++ rest)
gate_split front behind rest gate = sym (append_assoc front (gate ∷ []) (behind ++ rest))

gate_size : (front : List ℕ) (gate : ℕ) → length (front ++ gate ∷ []) ≡ length front + 1
gate_size front gate = length-append front (gate ∷ [])

pub shut_long : (front behind : List ℕ) (file : File) → IsShut front behind file → length front + 1 + length behind ≤ length file.seen
shut_long front behind file shut =
    omega (arith, ap length shut.seen, length-append front (shut.gate ∷ (behind ++ shut.rest)), length-append behind shut.rest)

-- bytes are written behind a closed gate
pub shut_written : (front bytes : List ℕ) (old : File) → IsShut front [] old → IsShut front bytes (written (length front + 1) bytes old)
shut_written front bytes old shut =
    let before = front ++ shut.gate ∷ [] in
    record {
      gate = shut.gate;
      rest = drop (length bytes) shut.rest;
      seen = ap (λ n. overwritten n bytes old.seen) (sym (gate_size front shut.gate)) ∙ ap (λ (l : List ℕ). overwritten (length before) bytes l) (shut.seen ∙ gate_split front [] shut.rest shut.gate)
          ∙ overwritten_at before shut.rest bytes ∙ append_assoc front (shut.gate ∷ []) (bytes ++ drop (length bytes) shut.rest);
      closed = shut.closed;
      sure = sure_reached 0 (length front + 1) (length front + 1) bytes (overwritten (length front + 1) bytes old.seen) old (inl (omega arith)) shut.sure;
    }

pub shut_torn : (front bytes : List ℕ) (old new : File) → IsShut front [] old → IsTorn (length front + 1) bytes old new → IsShut front [] new
shut_torn front bytes old new shut torn =
    let before = front ++ shut.gate ∷ [] in
    record {
      gate = shut.gate;
      rest = drop (length before) new.seen;
      seen = torn_front bytes old new before shut.rest (subst (λ k. IsTorn k bytes old new) (sym (gate_size front shut.gate)) torn) (shut.seen ∙ gate_split front [] shut.rest shut.gate)
          ∙ append_assoc front (shut.gate ∷ []) (drop (length before) new.seen);
      closed = shut.closed;
      sure = sure_torn 0 (length front + 1) (length front + 1) bytes old new torn (inl (omega arith)) shut.sure;
    }

pub shut_synced : (front behind : List ℕ) (file : File) → IsShut front behind file → IsShut front behind (synced file)
shut_synced front behind file shut = record {
  gate = shut.gate;
  rest = shut.rest;
  seen = shut.seen;
  closed = shut.closed;
  sure = sure_synced 0 (length front + 1) file (omega (arith, shut_long front behind file shut));
}

-- a sync puts what stands behind a gate on the disk, whatever the gate is
pub opening_synced : (front behind rest : List ℕ) (gate : ℕ) (file : File) → file.seen ≡ front ++ gate ∷ (behind ++ rest) → IsOpening front behind (synced file)
opening_synced front behind rest gate file is =
    let long : length file.seen ≡ length front + (1 + (length behind + length rest)) = omega (arith, ap length is, length-append front (gate ∷ (behind ++ rest)), length-append behind rest) in
    record {
      gate = gate;
      rest = rest;
      seen = is;
      sure_front = sure_synced 0 (length front) file (omega (arith, long));
      sure_behind = sure_synced (length front + 1) (length front + 1 + length behind) file (omega (arith, long));
    }

-- the gate is opened
pub gate_written : (front behind : List ℕ) (old : File) → (opening : IsOpening front behind old) → (written (length front) (165 ∷ []) old).seen ≡ front ++ 165 ∷ (behind ++ opening.rest)
gate_written front behind old opening =
    ap (λ (l : List ℕ). overwritten (length front) (165 ∷ []) l) opening.seen ∙ overwritten_at front (opening.gate ∷ (behind ++ opening.rest)) (165 ∷ [])

pub opening_written : (front behind : List ℕ) (old : File) → IsOpening front behind old → IsOpening front behind (written (length front) (165 ∷ []) old)
opening_written front behind old opening = record {
  gate = 165;
  rest = opening.rest;
  seen = gate_written front behind old opening;
  sure_front = sure_reached 0 (length front) (length front) (165 ∷ []) (overwritten (length front) (165 ∷ []) old.seen) old (inl (omega arith)) opening.sure_front;
  sure_behind = sure_reached (length front + 1) (length front + 1 + length behind) (length front) (165 ∷ []) (overwritten (length front) (165 ∷ []) old.seen) old (inr (omega arith)) opening.sure_behind;
}

pub opening_torn : (front behind : List ℕ) (gate : ℕ) (old new : File) → IsOpening front behind old → IsTorn (length front) (gate ∷ []) old new → IsOpening front behind new
opening_torn front behind gate old new opening torn =
    let byte : (any : ℕ) × (new.seen ≡ front ++ any ∷ (behind ++ opening.rest)) = torn_byte old new front (behind ++ opening.rest) opening.gate gate torn opening.seen in
    record {
      gate = byte.0;
      rest = opening.rest;
      seen = byte.1;
      sure_front = sure_torn 0 (length front) (length front) (gate ∷ []) old new torn (inl (omega arith)) opening.sure_front;
      sure_behind = sure_torn (length front + 1) (length front + 1 + length behind) (length front) (gate ∷ []) old new torn (inr (omega arith)) opening.sure_behind;
    }

-- an open gate is on the disk
pub open_synced : (front behind rest : List ℕ) (file : File) → file.seen ≡ front ++ 165 ∷ (behind ++ rest) → IsOpen front behind (synced file)
open_synced front behind rest file is = record {
  rest = rest;
  seen = is;
  sure = sure_synced 0 (length front + 1 + length behind) file (omega (arith, ap length is, length-append front (165 ∷ (behind ++ rest)), length-append behind rest));
}

-- a closed gate is on the disk
pub closed_synced : (front rest : List ℕ) (gate : ℕ) (file : File) → gate ≢ 165 → file.seen ≡ front ++ gate ∷ rest → IsShut front [] (synced file)
closed_synced front rest gate file closed is = record {
  gate = gate;
  rest = rest;
  seen = is;
  closed = closed;
  sure = sure_synced 0 (length front + 1) file (omega (arith, ap length is, length-append front (gate ∷ rest)));
}

-- ---- what a stop leaves

-- while a gate stands closed on the disk
pub left_shut : (front behind : List ℕ) (file : File) (content : List ℕ) → (shut : IsShut front behind file) → MayLeave file content → (rest : List ℕ) × (content ≡ front ++ shut.gate ∷ rest)
left_shut front behind file content shut left =
    let before = front ++ shut.gate ∷ [] in
    let rest = drop (length before) content in
    let kept = kept_front file content before (behind ++ shut.rest) left (shut.seen ∙ gate_split front behind shut.rest shut.gate) (subst (λ n. IsSure 0 n file) (sym (gate_size front shut.gate)) shut.sure) in
    (rest, kept ∙ append_assoc front (shut.gate ∷ []) rest)

-- while it is being opened
pub left_opening : (front behind : List ℕ) (file : File) (content : List ℕ) → IsOpening front behind file → MayLeave file content → (gate : ℕ) × (rest : List ℕ) × (content ≡ front ++ gate ∷ (behind ++ rest))
left_opening front behind file content opening left =
    let n = length front in
    let before = front ++ opening.gate ∷ [] in
    let size = gate_size front opening.gate in
    let kept_before : content ≡ front ++ drop n content = kept_front file content front (opening.gate ∷ (behind ++ opening.rest)) left opening.seen opening.sure_front in
    let kept_behind : drop (n + 1) content ≡ behind ++ drop (n + 1 + length behind) content =
    subst (λ k. drop k content ≡ behind ++ drop (k + length behind) content) size
    (kept_piece file content before behind opening.rest left (opening.seen ∙ gate_split front behind opening.rest opening.gate) (subst (λ k. IsSure k (k + length behind) file) (sym size) opening.sure_behind)) in
    let long : n < length content = omega (arith, opening.sure_behind.long, left.no_shorter) in
    (byte_at n content, drop (n + 1 + length behind) content, kept_before ∙ ap (λ (l : List ℕ). front ++ l) (drop_more content n 0 long ∙ ap (λ (l : List ℕ). byte_at n content ∷ l) kept_behind))

-- once it is open
pub left_open : (front behind : List ℕ) (file : File) (content : List ℕ) → IsOpen front behind file → MayLeave file content → (rest : List ℕ) × (content ≡ front ++ 165 ∷ (behind ++ rest))
left_open front behind file content is_open left =
    let whole = front ++ 165 ∷ behind in
    let size : length whole ≡ length front + 1 + length behind = omega (arith, length-append front (165 ∷ behind)) in
    let rest = drop (length whole) content in
    let kept = kept_front file content whole is_open.rest left (is_open.seen ∙ sym (append_assoc front (165 ∷ behind) is_open.rest)) (subst (λ n. IsSure 0 n file) (sym size) is_open.sure) in
    (rest, kept ∙ append_assoc front (165 ∷ behind) rest)
