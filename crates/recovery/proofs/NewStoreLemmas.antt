-- The file of a new store's checkpoint, call by call.
use Rattle.std.proofs.Common.{◌≡◌, ◌≢◌, inl, inr, ⊎_elim, ℕ, ◌<◌, ◌==◌, ◌&&◌, nat_le, Bool, true, false, List, [], ◌∷◌, ◌++◌, length, drop, refl, ap, ◌∙◌, arith}
use Rattle.std.proofs.lemmas.Bool.{cases_eq, cases_lt}
use Rattle.std.proofs.lemmas.Bool.Decides.{nat_tests}
use Rattle.disk_model.specs.Files.{File, MayLeave, at_rest, synced, written}
use Rattle.disk_model.specs.Files.{IsTorn}
use Rattle.disk_model.specs.Gates.{IsOpening, IsShut}
use Rattle.disk_model.proofs.FileLemmas.{length-overwritten, rest_leaves}
use Rattle.disk_model.proofs.GateLemmas.{closed_synced, gate_written, left_open, left_opening, left_shut, open_synced, opening_synced, opening_torn, opening_written, overwritten_at, shut_synced, shut_torn, shut_written}
use Rattle.store_layout.specs.Checkpoints.{is_sealed, is_to_close}
use Rattle.recovery.specs.Formatting.{IsSealedWith}

abbrev pub Unsealed : List ℕ → Type 0
Unsealed content = is_sealed content ≡ false

pub short_unsealed : (content : List ℕ) → length content < 36 → Unsealed content
short_unsealed content h = grind (arith, nat_tests)

and_false : (b c : Bool) → c ≡ false → (b && c) ≡ false
and_false true c e = e
and_false false c e = refl

shut_unsealed : (gate : ℕ) (rest : List ℕ) → gate ≢ 165 → Unsealed (gate ∷ rest)
shut_unsealed gate rest closed = and_false (nat_le 36 (length (gate ∷ rest))) (gate == 165) (not_equal gate closed)
  where
    not_equal : (n : ℕ) → n ≢ 165 → (n == 165) ≡ false
    not_equal n other = grind (arith, nat_tests)

pub shut_stays : (behind : List ℕ) (file : File) → IsShut [] behind file → (left : List ℕ) → MayLeave file left → Unsealed left
shut_stays behind file shut left may =
    let kept = left_shut [] behind file left shut may in
    ap is_sealed kept.1 ∙ shut_unsealed shut.gate kept.0 shut.closed

-- ---- the gate is closed

pub rest_unsealed : (content : List ℕ) → Unsealed content → (left : List ℕ) → MayLeave (at_rest content) left → Unsealed left
rest_unsealed content is left may = ap is_sealed (rest_leaves content left may) ∙ is

-- an open gate that seals nothing
open_short : (content : List ℕ) → is_to_close content ≡ true → Unsealed content → length content < 36
open_short [] opens is = omega arith
open_short (gate ∷ rest) opens is =
    ⊎_elim {C = length (gate ∷ rest) < 36} (λ below. below)
    (λ over. let long : nat_le 36 (length (gate ∷ rest)) ≡ true = grind (arith, nat_tests, over) in not_both (nat_le 36 (length (gate ∷ rest))) (gate == 165) long opens is)
    (cases_lt (length (gate ∷ rest)) 36)
  where
    not_both : (b c : Bool) → b ≡ true → c ≡ true → (b && c) ≡ false → {X : Type 0} → X
    not_both true c e f h = absurd (cc)
    not_both false c e f h = absurd (cc)

module _ (content : List ℕ) (opens : is_to_close content ≡ true) (is : Unsealed content) where
  pub closing_written : (left : List ℕ) → MayLeave (written 0 (0 ∷ []) (at_rest content)) left → Unsealed left
  closing_written left may = short_unsealed left (omega (arith, may.no_longer, open_short content opens is))

  pub closing_torn : (file : File) → IsTorn 0 (0 ∷ []) (at_rest content) file → (left : List ℕ) → MayLeave file left → Unsealed left
  closing_torn file torn left may = short_unsealed left (omega (arith, may.no_longer, torn.greatest, open_short content opens is))

  pub closing_synced : (left : List ℕ) → MayLeave (synced (written 0 (0 ∷ []) (at_rest content))) left → Unsealed left
  closing_synced left may =
      let size = length-overwritten 0 (0 ∷ []) content (omega arith) in
      short_unsealed left (omega (arith, may.no_longer, size, open_short content opens is))

pub closed_shut : (file : File) → IsShut [] [] (synced (written 0 (0 ∷ []) file))
closed_shut file = closed_synced [] (drop 1 file.seen) 0 (written 0 (0 ∷ []) file) (omega arith) (overwritten_at [] file.seen (0 ∷ []))

pub kept_shut : (file : File) → is_to_close file.seen ≡ false → IsShut [] [] (synced file)
kept_shut file shut = go file.seen refl shut
  where
    go : (seen : List ℕ) → file.seen ≡ seen → is_to_close seen ≡ false → IsShut [] [] (synced file)
    go [] e h = absurd (cc)
    go (gate ∷ rest) e h = closed_synced [] rest gate file (grind (arith, nat_tests, h)) e

-- ---- the checkpoint is sealed

module _ (bytes : List ℕ) where
  pub shut_leaves : (behind : List ℕ) (file : File) → IsShut [] behind file → (left : List ℕ) → MayLeave file left → IsSealedWith bytes left
  shut_leaves behind file shut left may = inl (shut_stays behind file shut left may)

  pub opening_leaves : (file : File) → IsOpening [] bytes file → (left : List ℕ) → MayLeave file left → IsSealedWith bytes left
  opening_leaves file opening left may =
      let kept = left_opening [] bytes file left opening may in
      ⊎_elim {C = IsSealedWith bytes left}
      (λ e. inr (kept.1, kept.2 ∙ ap (λ (gate : ℕ). gate ∷ (bytes ++ kept.1)) e))
      (λ other. inl (ap is_sealed kept.2 ∙ shut_unsealed kept.0 (bytes ++ kept.1) other))
      (cases_eq kept.0 165)

  module _ (file : File) (shut : IsShut [] [] file) where
    abbrev pub behind : File
    behind = written 1 bytes file

    abbrev pub down : File
    down = synced behind

    abbrev pub opened : File
    opened = written 0 (165 ∷ []) down

    pub is_behind : IsShut [] bytes behind
    is_behind = shut_written [] bytes file shut

    pub torn_behind : (left : File) → IsTorn 1 bytes file left → IsShut [] [] left
    torn_behind left torn = shut_torn [] bytes file left shut torn

    pub is_down : IsShut [] bytes down
    is_down = shut_synced [] bytes behind is_behind

    pub is_opening : IsOpening [] bytes down
    is_opening = opening_synced [] bytes is_behind.rest is_behind.gate behind is_behind.seen

    pub is_opened : IsOpening [] bytes opened
    is_opened = opening_written [] bytes down is_opening

    pub torn_opening : (left : File) → IsTorn 0 (165 ∷ []) down left → IsOpening [] bytes left
    torn_opening left torn = opening_torn [] bytes 165 down left is_opening torn

    pub sealed : (left : List ℕ) → MayLeave (synced opened) left → (rest : List ℕ) × (left ≡ 165 ∷ (bytes ++ rest))
    sealed left may = left_open [] bytes (synced opened) left (open_synced [] bytes is_opening.rest opened (gate_written [] bytes down is_opening)) may
