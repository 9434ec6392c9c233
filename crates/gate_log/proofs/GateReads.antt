-- How many bytes are read at a gate.
use Rattle.std.proofs.Common.{◌≡◌, ◌≢◌, ◌<◌, ◌≤◌, ℕ, ◌+◌, ◌^◌, List, ◌∷◌, ◌++◌, length, refl, sym, ap, ◌∙◌, arith}
use Rattle.byteorder.specs.Endian.{big_bytes}
use Rattle.log_records.specs.Layout.{Layout}
use Rattle.store_layout.specs.Logs.{records_bytes}
use Rattle.store_layout.proofs.FrameLemmas.{same_rest, same_number, frame_length, frame_parts, end_parts}
use Rattle.store_layout.proofs.LogLemmas.{length-end_frame}
use Rattle.gate_log.specs.Scan.{ReadsAtGate, shut, whole_batch, whole_end}
use Rattle.gate_log.specs.ScanParts.{FitsAhead, ComesAhead, HasFrame, behind_frame}
use Rattle.gate_log.specs.declared.parts.Ahead.{Ahead}
use Rattle.gate_log.specs.declared.parts.Ahead.TheVariants.{Batch, Closed, End}

-- behind an open gate stand a kind and a length, and so many bytes are read for them
record HasLength (rest : List ℕ) (size : ℕ) : Type 0 where
  kind : ℕ
  len : ℕ
  tail : List ℕ
  head : rest ≡ kind ∷ (big_bytes 4 len ++ tail)
  fits : len < 2 ^ 32
  size_is : size ≡ 7 + len

has_length : (layout : Layout) (byte : ℕ) (rest : List ℕ) (size : ℕ) → byte ≡ 165 → ReadsAtGate layout (byte ∷ rest) size → HasLength rest size
has_length layout byte rest size is_open (shut b r closed e s) = absurd (closed (sym (same_rest byte b rest r e).0 ∙ is_open))
has_length layout byte rest size is_open (whole_batch batch after behind fits e s) =
    let long = frame_length layout batch in
    let short = fits.short in
    record {
      kind = 1;
      len = 12 + length (records_bytes layout batch.commands);
      tail = big_bytes 8 batch.first ++ (big_bytes 4 (length batch.commands) ++ (records_bytes layout batch.commands ++ after ∷ behind));
      head = (same_rest byte 165 rest _ e).1 ∙ frame_parts layout batch (after ∷ behind);
      fits = omega (arith, long, short);
      size_is = omega (arith, long, s);
    }
has_length layout byte rest size is_open (whole_end next after behind e s) =
    let long = length-end_frame next in
    record {
      kind = 2;
      len = 8;
      tail = big_bytes 8 next ++ after ∷ behind;
      head = (same_rest byte 165 rest _ e).1 ∙ end_parts next (after ∷ behind);
      fits = omega arith;
      size_is = omega (arith, long, s);
    }

-- an open gate is read with a kind and a length at least
pub long_enough : (layout : Layout) (rest : List ℕ) (size : ℕ) → ReadsAtGate layout (165 ∷ rest) size → 7 ≤ size
long_enough layout rest size reads =
    let size_is = (has_length layout 165 rest size refl reads).size_is in
    omega (arith, size_is)

one_length : (kind len size : ℕ) (rest : List ℕ) → HasLength rest size → HasFrame kind len rest → len < 2 ^ 32 → size ≡ 7 + len
one_length kind len size rest has h fits =
    let lens = same_number 4 has.len len _ _ has.fits fits (same_rest has.kind kind _ _ (sym has.head ∙ h.bytes)).1 in
    has.size_is ∙ ap (λ (n : ℕ). 7 + n) lens.0

size_closed : (layout : Layout) (byte : ℕ) (rest : List ℕ) (size : ℕ) → byte ≢ 165 → ReadsAtGate layout (byte ∷ rest) size → size ≡ 1
size_closed layout byte rest size closed (shut b r c e s) = s
size_closed layout byte rest size closed (whole_batch batch after behind fits e s) = absurd (closed (same_rest byte 165 rest _ e).0)
size_closed layout byte rest size closed (whole_end next after behind e s) = absurd (closed (same_rest byte 165 rest _ e).0)

-- what comes ahead ends there
pub ends_there : (layout : Layout) (gate byte : ℕ) (rest : List ℕ) (size : ℕ) (ahead : Ahead) → FitsAhead gate ahead → ComesAhead byte rest ahead → ReadsAtGate layout (byte ∷ rest) size
    → behind_frame gate ahead + 1 ≡ gate + size
ends_there layout gate byte rest size Closed fits comes reads =
    let one = size_closed layout byte rest size comes reads in
    omega (arith, one)
ends_there layout gate byte rest size (Batch len) fits comes reads =
    let high = fits.1 in
    let is = one_length 1 len size rest (has_length layout byte rest size comes.0 reads) comes.1 (omega (arith, high)) in
    omega (arith, is)
ends_there layout gate byte rest size End fits comes reads =
    let is = one_length 2 8 size rest (has_length layout byte rest size comes.0 reads) comes.1 (omega arith) in
    omega (arith, is)
