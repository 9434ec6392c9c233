-- What the parts of a scan rest on.
use Rattle.std.proofs.Common.{◌≡◌, ◌⊎◌, ◌≤◌, ◌<◌, ℕ, ◌+◌, ◌-◌, ◌^◌, max, List, ◌∷◌, ◌++◌, length, take, drop, sym, ap, ap₂, ◌∙◌, append_assoc, arith, inl, inr, get_or, Option, Some, None, IfNone}
use Rattle.std.proofs.lemmas.List.{take_all, length-drop, take-append-drop, drop-drop}
use Rattle.std.proofs.Math.Seq.{drop-cons, take-append_seam}
use Rattle.byteorder.specs.Endian.{big_number, big_bytes}
use Rattle.log_records.specs.Agreement.{IsBytes}
use Rattle.log_records.proofs.Digits.{IsBytes-drop, IsBytes-take, big_bytes-big_number}
use Rattle.byteorder.specs.Numbers.{big_from-lt}
use Rattle.disk_model.specs.Calls.{Looks}
use Rattle.disk_model.specs.Files.{Files}
use Rattle.disk_model.proofs.LookLemmas.{same_now}
use Rattle.file_pieces.specs.Pieces.{ReaderState, IsSameFile, pieces_in}
use Rattle.store_layout.specs.Readings.{HasHeader}
use Rattle.store_layout.specs.Failures.{IsFileRefused}
use Rattle.gate_log.specs.Scan.{RefusesAt, log_bytes}
use Rattle.store_layout.specs.Logs.{log_file}
use Rattle.gate_log.specs.ScanParts.{HasFrame, bytes_of}
use Rattle.map_types.specs.declared.refusals.Refusal.{Refusal}
use Rattle.map_types.specs.declared.refusals.Refusal.TheVariants.{Failed, NoMemory}

-- ---- looks

module _ {D : Type 0} (states : D → List Files) (failures : D → ℕ) (honest : D → Type 0) where
  pub same_bytes : (failed : ℕ) (old new : D) (generation : ℕ) → Looks states failures honest failed old new → log_bytes states new generation ≡ log_bytes states old generation
  same_bytes failed old new generation look = ap (λ (files : Files). (files (log_file generation)).seen) (same_now states failures honest failed old new look)

  -- the reader's file reads as it did
  pub same_read : (failed : ℕ) (old new : D) (a b : ReaderState) → Looks states failures honest failed old new → IsSameFile a b → bytes_of states new b ≡ bytes_of states old a
  same_read failed old new a b look same = ap₂ (λ (files : Files) (n : ℕ). (files n).seen) (same_now states failures honest failed old new look) same.file

-- ---- bytes

-- `&bytes[n..]`
pub slice_rest : (n : ℕ) (bytes : List ℕ) → take (length bytes - n) (drop n bytes) ≡ drop n bytes
slice_rest n bytes = take_all (length bytes - n) (drop n bytes) (omega (arith, length-drop n bytes))

pub number_front : (n : ℕ) (bytes : List ℕ) → n ≤ length bytes → IsBytes bytes → bytes ≡ big_bytes n (big_number n bytes) ++ drop n bytes
number_front n bytes long fits = sym (take-append-drop n bytes) ∙ ap (λ (t : List ℕ). t ++ drop n bytes) (sym (big_bytes-big_number n bytes long fits))

pub number_first : (n : ℕ) (bytes : List ℕ) (x : ℕ) → n ≤ length bytes → IsBytes bytes → x ≡ big_number n bytes → bytes ≡ big_bytes n x ++ drop n bytes
number_first n bytes x long fits e = number_front n bytes long fits ∙ ap (λ (y : ℕ). big_bytes n y ++ drop n bytes) (sym e)

-- the same of the number that `&bytes[k..]` begins with
pub number_at : (k n : ℕ) (bytes : List ℕ) (x : ℕ) → k + n ≤ length bytes → IsBytes bytes → x ≡ big_number n (take (length bytes - k) (drop k bytes))
    → drop k bytes ≡ big_bytes n x ++ drop (k + n) bytes
number_at k n bytes x long fits e =
    let len = length-drop k bytes in
    let front = number_front n (drop k bytes) (omega arith) (IsBytes-drop k bytes fits) in
    let is : x ≡ big_number n (drop k bytes) = e ∙ ap (big_number n) (slice_rest k bytes) in
    front ∙ ap (λ (t : List ℕ). big_bytes n (big_number n (drop k bytes)) ++ t) (drop-drop n k bytes) ∙ ap (λ (y : ℕ). big_bytes n y ++ drop (k + n) bytes) (sym is)

pub header_front : (bytes : List ℕ) (generation low : ℕ) → 17 < length bytes → IsBytes bytes → generation < 2 ^ 64 → low < 2 ^ 64
    → generation ≡ big_number 8 (take (length bytes - 1) (drop 1 bytes)) → low ≡ big_number 8 (take (length bytes - 9) (drop 9 bytes))
    → HasHeader (get_or bytes 0 0) generation low bytes
header_front bytes generation low long fits generation_fits low_fits eg el =
    let version = drop-cons bytes 0 0 (omega arith) in
    let g = number_at 1 8 bytes generation (omega arith) fits eg in
    let l = number_at 9 8 bytes low (omega arith) fits el in
    let gate = drop-cons bytes 17 0 long in
    let b : ℕ = get_or bytes 0 0 in
    let whole : bytes ≡ b ∷ (big_bytes 8 generation ++ (big_bytes 8 low ++ get_or bytes 17 0 ∷ drop 18 bytes)) =
    version ∙ ap (λ (t : List ℕ). b ∷ t) (g ∙ ap (λ (t : List ℕ). big_bytes 8 generation ++ t) (l ∙ ap (λ (t : List ℕ). big_bytes 8 low ++ t) gate)) in
    record {
      gate = get_or bytes 17 0;
      rest = drop 18 bytes;
      bytes = whole ∙ ap (λ (t : List ℕ). b ∷ t) (sym (append_assoc (big_bytes 8 generation) (big_bytes 8 low) (get_or bytes 17 0 ∷ drop 18 bytes)));
      generation_fits = generation_fits;
      low_fits = low_fits;
    }

-- a number that is read from `&bytes[k..]` fits its bytes
pub slice_number : (k n : ℕ) (bytes : List ℕ) → IsBytes bytes → big_number n (take (length bytes - k) (drop k bytes)) < 256 ^ n
slice_number k n bytes fits = big_from-lt 0 n (take (length bytes - k) (drop k bytes)) (IsBytes-take (length bytes - k) (drop k bytes) (IsBytes-drop k bytes fits))

-- ---- answers

pub if_none : {X : Type 0} (o : Option X) (P Q : Type 0) → (P → Q) → IfNone o P → IfNone o Q
if_none (Some x) P Q f h = tt
if_none None P Q f h = f h

pub refuses_more : (generation gate : ℕ) (P Q : Type 0) (refusal : Refusal) → (P → Q) → RefusesAt generation gate P refusal → RefusesAt generation gate Q refusal
refuses_more generation gate P Q refusal f (inl h) = inl h
refuses_more generation gate P Q refusal f (inr (inl h)) = inr (inl h)
refuses_more generation gate P Q refusal f (inr (inr h)) = inr (inr (h.0, f h.1))

-- what reading on further takes
pub max_pieces : (p a b : ℕ) → a ≤ b → max (max p (pieces_in a)) (pieces_in b) ≡ max p (pieces_in b)
max_pieces p a b below = omega arith

-- the device gave fewer bytes than it has, which an honest one does not
pub never_damaged : (generation gate : ℕ) (P Q : Type 0) (refusal : Refusal) → (P → ⊥) → RefusesAt generation gate P refusal → (refusal ≡ Failed) ⊎ ((refusal ≡ NoMemory) ⊎ Q)
never_damaged generation gate P Q refusal f (inl h) = inl h
never_damaged generation gate P Q refusal f (inr (inl h)) = inr (inl h)
never_damaged generation gate P Q refusal f (inr (inr h)) = absurd (f h.1)

-- whatever the reason, the file is damaged
pub gate_refused : (generation gate : ℕ) (P : Type 0) (refusal : Refusal) → RefusesAt generation gate P refusal → IsFileRefused (log_file generation) refusal
gate_refused generation gate P refusal (inl failed) = inl failed
gate_refused generation gate P refusal (inr (inl no_memory)) = inr (inl no_memory)
gate_refused generation gate P refusal (inr (inr damaged)) = inr (inr (inr (gate, damaged.0)))

-- ---- what stands behind a frame's length

pub behind_length : (content : List ℕ) (gate kind len : ℕ) (rest : List ℕ) → drop (gate + 1) content ≡ rest → (h : HasFrame kind len rest) → drop (gate + 1 + 5) content ≡ h.body ++ h.after ∷ h.behind
behind_length content gate kind len rest is h =
    sym (drop-drop 5 (gate + 1) content) ∙ ap (drop 5) (is ∙ h.bytes)

-- a read gives as many bytes
pub body_read : (content : List ℕ) (gate kind len : ℕ) (rest : List ℕ) → drop (gate + 1) content ≡ rest → (h : HasFrame kind len rest) → take len (drop (gate + 1 + 5) content) ≡ h.body
body_read content gate kind len rest is h =
    ap (take len) (behind_length content gate kind len rest is h) ∙ ap (λ (n : ℕ). take n (h.body ++ h.after ∷ h.behind)) (sym h.size) ∙ take-append_seam h.body (h.after ∷ h.behind)

-- ---- what stands behind a gate

pub rest_is : (content : List ℕ) (gate byte : ℕ) (rest : List ℕ) → drop gate content ≡ byte ∷ rest → drop (gate + 1) content ≡ rest
rest_is content gate byte rest e = sym (drop-drop 1 gate content) ∙ ap (drop 1) e

pub byte_is : (content buf : List ℕ) (gate byte : ℕ) (rest : List ℕ) → drop gate content ≡ byte ∷ rest → buf ≡ take 1 (drop gate content) → get_or buf 0 0 ≡ byte
byte_is content buf gate byte rest e read = ap (λ (l : List ℕ). get_or l 0 0) (read ∙ ap (take 1) e)
