-- The header that was read is the file's.
use Rattle.std.proofs.Common.{◌≡◌, inl, inr, ℕ, ◌-◌, min, List, [], ◌∷◌, ◌++◌, length, slice_index_or, take, drop, sym, ap, ◌∙◌, append_assoc, arith}
use Rattle.std.proofs.lemmas.List.{take_min, length-append, length-take, take-append-drop, append-nil}
use Rattle.byteorder.specs.Endian.{big_bytes}
use Rattle.byteorder.specs.Numbers.{length-bytes_high_first}
use Rattle.map_types.specs.declared.refusals.Refusal.{Refusal}
use Rattle.log_records.specs.declared.versions.Version.{Version}
use Rattle.log_records.specs.Layout.{layout_of}
use Rattle.store_layout.specs.Failures.{IsFileFault}
use Rattle.store_layout.specs.Logs.{header, log_file}
use Rattle.store_layout.specs.Readings.{HasHeader, IsBadHeader, too_short, wrong_version, wrong_generation, wrong_low}
use Rattle.file_pieces.specs.Pieces.{ReaderState, Holds}
use Rattle.gate_log.specs.Scan.{HasRead, ScanState}

header_more : (version generation low : ℕ) (content : List ℕ) → HasHeader version generation low (take 18 content) → HasHeader version generation low content
header_more version generation low content h = record {
  gate = h.gate;
  rest = h.rest ++ drop 18 content;
  bytes = sym (take-append-drop 18 content) ∙ ap (λ (l : List ℕ). l ++ drop 18 content) h.bytes
      ∙ append_assoc (version ∷ (big_bytes 8 generation ++ big_bytes 8 low)) (h.gate ∷ h.rest) (drop 18 content);
  generation_fits = h.generation_fits;
  low_fits = h.low_fits;
}

-- the version is the first byte
pub version_first : (version generation low : ℕ) (content : List ℕ) → HasHeader version generation low (take 18 content) → version ≡ slice_index_or content 0 0
version_first version generation low content h = ap (λ (l : List ℕ). slice_index_or l 0 0) (sym (header_more version generation low content h).bytes)

-- what is wrong with the first 18 bytes is wrong with the file
pub bad_header : (generation low : ℕ) (content : List ℕ) (refusal : Refusal) → IsBadHeader generation low (take 18 content) refusal → IsBadHeader generation low content refusal
bad_header generation low content refusal (too_short short is) = too_short (omega (arith, length-take 18 content)) is
bad_header generation low content refusal (wrong_version v g l h other is) = wrong_version v g l (header_more v g l content h) other is
bad_header generation low content refusal (wrong_generation v g l h known other is) = wrong_generation v g l (header_more v g l content h) known other is
bad_header generation low content refusal (wrong_low v l h known other is) = wrong_low v l (header_more v generation l content h) known other is

-- whatever is wrong with the header is a fault of the file
pub header_fault : (generation low : ℕ) (content : List ℕ) (refusal : Refusal) → IsBadHeader generation low content refusal → IsFileFault (log_file generation) refusal
header_fault generation low content refusal (too_short short is) = inr (0, is)
header_fault generation low content refusal (wrong_version v g l h other is) = inl is
header_fault generation low content refusal (wrong_generation v g l h known other is) = inr (1, is)
header_fault generation low content refusal (wrong_low v l h known other is) = inr (9, is)

abbrev at_first : Version → ℕ → ℕ → ReaderState → ScanState
at_first version generation low reader = record { version = version; generation = generation; gate = 17; expected = low; reader = reader }

-- behind the header that was asked for stands the first gate
pub header_read : (version : Version) (generation low : ℕ) (content : List ℕ) (reader : ReaderState) → HasHeader (layout_of version).version generation low (take 18 content) → Holds content reader
    → HasRead (layout_of version) low [] (at_first version generation low reader) content
unfolding header
header_read version generation low content reader first held =
    let h = header_more (layout_of version).version generation low content first in
    let head : List ℕ = (layout_of version).version ∷ (big_bytes 8 generation ++ big_bytes 8 low) in
    let whole : head ++ [] ≡ head = append-nil head in
    let a = length-append (big_bytes 8 generation) (big_bytes 8 low) in
    let b = length-bytes_high_first 8 generation in
    let d = length-bytes_high_first 8 low in
    let size : 17 ≡ length head = omega arith in
    record {
      byte = h.gate;
      rest = h.rest;
      bytes = h.bytes ∙ ap (λ (l : List ℕ). l ++ h.gate ∷ h.rest) (sym whole);
      place = size ∙ ap (λ (l : List ℕ). length l) (sym whole);
      tickets = omega arith;
      log = record { generation_fits = h.generation_fits; low_fits = h.low_fits; in_order = tt };
      held = held;
    }

-- the first 18 bytes of a content, or all that it has
pub first_bytes : (content : List ℕ) (len : ℕ) → len ≡ length content → take (min len 18) content ≡ take 18 content
first_bytes content len is =
    let same : min len 18 ≡ min 18 (length content) = omega (arith, is) in
    ap (λ (n : ℕ). take n content) same ∙ take_min 18 content

-- what is read of the header
pub header_bytes : (content bytes : List ℕ) (len end : ℕ) → len ≡ length content → end ≡ min len 18 → bytes ≡ take (end - 0) (drop 0 content) → bytes ≡ take 18 content
header_bytes content bytes len end whole is read =
    let count : end - 0 ≡ min len 18 = omega (arith, is) in
    read ∙ ap (λ (n : ℕ). take n content) count ∙ first_bytes content len whole
