-- How a file goes on behind its first byte, which is its gate.
use Rattle.std.proofs.Common.{◌≡◌, ◌≢◌, ◌⊎◌, inl, inr, ℕ, zero, suc, ◌+◌, ◌<◌, ◌≤◌, max, Bool, true, false, ◌==◌, ◌&&◌, ◌||◌, nat_le, List, [], ◌∷◌, ◌++◌, length, take, drop, slice_index_or, refl, sym, ◌∙◌, ap, subst, arith, append_assoc}
use Rattle.std.proofs.lemmas.List.{drop_at, ext_get_or, get_or-drop}
use Rattle.std.proofs.lemmas.Bool.{cases_eq}
use Rattle.std.proofs.lemmas.Bool.Decides.{nat_tests}
use Rattle.disk_model.specs.Files.{File, Range, MayLeave, IsTorn, at_rest, byte_at, is_written, overwritten, written, synced}
use Rattle.disk_model.specs.Gates.{IsShut}
use Rattle.disk_model.proofs.GateLemmas.{kept_front, overwritten_at, sure_reached, sure_torn, sure_synced}
use Rattle.store_layout.specs.Checkpoints.{is_sealed, is_to_close}
use Rattle.checkpoint_file.specs.CheckpointStates.{IsClosing}

-- ---- what is not sealed

false_behind : (a b : Bool) → b ≡ false → (a && b) ≡ false
false_behind true b is = is
false_behind false b is = refl

-- a closed gate
pub shut_unsealed : (gate : ℕ) (rest content : List ℕ) → gate ≢ 165 → content ≡ gate ∷ rest → is_sealed content ≡ false
shut_unsealed gate rest content closed is =
    false_behind (nat_le 36 (length content)) (slice_index_or content 0 0 == 165)
    (ap (λ (l : List ℕ). slice_index_or l 0 0 == 165) is ∙ not_equal gate closed)
  where
    not_equal : (n : ℕ) → n ≢ 165 → (n == 165) ≡ false
    not_equal n other = grind (arith, nat_tests)

-- no room for a header
pub short_unsealed : (content : List ℕ) → length content < 36 → is_sealed content ≡ false
short_unsealed content h = grind (arith, nat_tests)

-- ---- the closing of the gate

-- of a file of which one write of the first byte is pending
closing_leaves : (old : List ℕ) (file : File) → drop 1 file.seen ≡ drop 1 old → file.pending ≡ record { at = 0; bytes = 0 ∷ [] } ∷ [] → file.base ≡ old → file.greatest ≡ max (length old) 1
    → is_to_close old ≡ true → (content : List ℕ) → MayLeave file content → (content ≡ old) ⊎ (is_sealed content ≡ false)
closing_leaves [] file behind pending base greatest opens content left = inr (short_unsealed content (omega (arith, left.no_longer, greatest)))
closing_leaves (gate ∷ rest) file behind pending base greatest opens content left =
    let size : length content ≡ length (gate ∷ rest) = omega (arith, left.no_longer, left.no_shorter, greatest, ap length base) in
    elim (cases_eq (byte_at 0 content) 165) [
      | inl is_open ↦ inl (ext_get_or 0 content (gate ∷ rest) size (λ i h. each i (omega (arith, size, h)) is_open))
      | inr shut ↦ inr (false_behind (nat_le 36 (length content)) (slice_index_or content 0 0 == 165) (not_equal (byte_at 0 content) shut))
    ]
  where
    not_equal : (n : ℕ) → n ≢ 165 → (n == 165) ≡ false
    not_equal n other = grind (arith, nat_tests)

    is_gate : (n : ℕ) → (n == 165) ≡ true → n ≡ 165
    is_gate n h = grind (arith, nat_tests)

    each : (i : ℕ) → i < 1 + length rest → byte_at 0 content ≡ 165 → byte_at i content ≡ byte_at i (gate ∷ rest)
    each zero below is_open = is_open ∙ sym (is_gate gate opens)
    each (suc i) below is_open =
        let long : suc i < length file.base = omega (arith, ap length base, below) in
        left.same (suc i) (subst (λ (ranges : List Range). (is_written (suc i) ranges || nat_le (length file.base) (suc i)) ≡ false) (sym pending) (grind (arith, nat_tests)))
        ∙ ap (λ n. byte_at n file.seen) (omega arith)
        ∙ sym (get_or-drop 1 file.seen i 0)
        ∙ ap (λ (l : List ℕ). byte_at i l) behind

pub closed_written : (old : List ℕ) → is_to_close old ≡ true → IsClosing old (written 0 (0 ∷ []) (at_rest old))
closed_written old opens = record {
  gate = 0;
  rest = drop 1 old;
  seen = refl;
  closed = omega arith;
  leaves = closing_leaves old (written 0 (0 ∷ []) (at_rest old)) refl refl refl refl opens;
}

pub closed_torn : (old : List ℕ) (torn : File) → is_to_close old ≡ true → IsTorn 0 (0 ∷ []) (at_rest old) torn
    → (content : List ℕ) → MayLeave torn content → (content ≡ old) ⊎ (is_sealed content ≡ false)
closed_torn old torn opens tears = closing_leaves old torn tears.after tears.pending tears.base tears.greatest opens

pub closing_synced : (old : List ℕ) (file : File) → IsClosing old file → IsShut [] [] (synced file)
closing_synced old file is = record {
  gate = is.gate;
  rest = is.rest;
  seen = is.seen;
  closed = is.closed;
  sure = sure_synced 0 1 file (omega (arith, ap length is.seen));
}

-- ---- behind a closed gate

-- bytes are written behind those that are there
pub shut_more : (behind bytes : List ℕ) (old : File) → IsShut [] behind old → IsShut [] (behind ++ bytes) (written (1 + length behind) bytes old)
shut_more behind bytes old shut =
    let before = shut.gate ∷ behind in
    let size : 1 + length behind ≡ length before = omega arith in
    record {
      gate = shut.gate;
      rest = drop (length bytes) shut.rest;
      seen = ap (λ n. overwritten n bytes old.seen) size ∙ ap (λ (l : List ℕ). overwritten (length before) bytes l) shut.seen
          ∙ overwritten_at before shut.rest bytes ∙ ap (λ (l : List ℕ). shut.gate ∷ l) (sym (append_assoc behind bytes (drop (length bytes) shut.rest)));
      closed = shut.closed;
      sure = sure_reached 0 1 (1 + length behind) bytes (overwritten (1 + length behind) bytes old.seen) old (inl (omega arith)) shut.sure;
    }

-- the bytes right behind the gate are written over
pub shut_over : (bytes space behind : List ℕ) (old : File) → length bytes ≡ length space → IsShut [] (space ++ behind) old → IsShut [] (bytes ++ behind) (written 1 bytes old)
shut_over bytes space behind old same shut =
    let before = shut.gate ∷ [] in
    let whole : old.seen ≡ before ++ (space ++ (behind ++ shut.rest)) = shut.seen ∙ ap (λ (l : List ℕ). shut.gate ∷ l) (append_assoc space behind shut.rest) in
    record {
      gate = shut.gate;
      rest = shut.rest;
      seen = ap (λ (l : List ℕ). overwritten (length before) bytes l) whole ∙ overwritten_at before (space ++ (behind ++ shut.rest)) bytes
          ∙ ap (λ (l : List ℕ). before ++ (bytes ++ l)) (drop_at space (behind ++ shut.rest) (length bytes) (sym same))
          ∙ ap (λ (l : List ℕ). shut.gate ∷ l) (sym (append_assoc bytes behind shut.rest));
      closed = shut.closed;
      sure = sure_reached 0 1 1 bytes (overwritten 1 bytes old.seen) old (inl (omega arith)) shut.sure;
    }

-- what is behind the gate decides nothing
pub shut_less : (behind : List ℕ) (file : File) → IsShut [] behind file → IsShut [] [] file
shut_less behind file shut = record { gate = shut.gate; rest = behind ++ shut.rest; seen = shut.seen; closed = shut.closed; sure = shut.sure }

-- a write behind the gate fails
pub shut_torn_behind : (at : ℕ) (bytes : List ℕ) (old new : File) → 1 ≤ at → IsShut [] [] old → IsTorn at bytes old new → IsShut [] [] new
shut_torn_behind at bytes old new h shut torn =
    let kept : new.seen ≡ shut.gate ∷ drop 1 new.seen = front_kept new.seen old.seen at h torn.before shut.seen in
    record {
      gate = shut.gate;
      rest = drop 1 new.seen;
      seen = kept;
      closed = shut.closed;
      sure = sure_torn 0 1 at bytes old new torn (inl h) shut.sure;
    }
  where
    front_kept : (new old : List ℕ) (at : ℕ) → 1 ≤ at → take at new ≡ take at old → old ≡ shut.gate ∷ shut.rest → new ≡ shut.gate ∷ drop 1 new
    front_kept new [] at h same is = absurd (cc)
    front_kept [] (y ∷ ys) zero h same is = absurd (omega arith)
    front_kept [] (y ∷ ys) (suc at) h same is = absurd (cc)
    front_kept (x ∷ xs) (y ∷ ys) zero h same is = absurd (omega arith)
    front_kept (x ∷ xs) (y ∷ ys) (suc at) h same is = cc

pub shut_leaves : (behind : List ℕ) (file : File) (content : List ℕ) → IsShut [] behind file → MayLeave file content → is_sealed content ≡ false
shut_leaves behind file content shut left =
    shut_unsealed shut.gate (drop 1 content) content shut.closed (kept_front file content (shut.gate ∷ []) (behind ++ shut.rest) left shut.seen shut.sure)
