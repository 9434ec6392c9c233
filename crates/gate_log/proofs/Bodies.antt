-- What stands behind the length of a batch's frame.
use Rattle.std.proofs.Common.{◌≡◌, ◌<◌, ◌≤◌, ℕ, ◌+◌, ◌^◌, List, ◌∷◌, ◌++◌, length, refl, sym, ap, ap₂, ◌∙◌, arith}
use Rattle.std.proofs.lemmas.List.{length-append}
use Rattle.byteorder.specs.Endian.{big_bytes}
use Rattle.byteorder.specs.Numbers.{length-bytes_high_first}
use Rattle.map_types.specs.declared.commands.Command.{Command}
use Rattle.log_records.specs.Layout.{Layout}
use Rattle.ticket_order.specs.declared.stripe.Entry.{Entry}
use Rattle.store_layout.specs.Logs.{Batch, IsBatch, frame, records_bytes}
use Rattle.gate_log.specs.States.{batch_of}
use Rattle.gate_log.specs.ScanParts.{AreEntries, IsBody, commands_of}
use Rattle.store_layout.proofs.FrameLemmas.{same_rest, same_number, frame_length}
use Rattle.gate_log.proofs.Entries.{commands_length}

abbrev pub body_of : Layout → Batch → List ℕ
body_of layout batch = big_bytes 8 batch.first ++ (big_bytes 4 (length batch.commands) ++ records_bytes layout batch.commands)

pub frame_whole : (layout : Layout) (batch : Batch) → frame layout batch ≡ 1 ∷ (big_bytes 4 (12 + length (records_bytes layout batch.commands)) ++ body_of layout batch)
unfolding frame
frame_whole layout batch = refl

-- a batch whose frame ends with this body has its numbers and its records
pub body_parts : (layout : Layout) (batch : Batch) (body rest : List ℕ) (first count : ℕ) → IsBatch layout batch → length body ≤ 1048571 → first < 2 ^ 64 → count < 2 ^ 32
    → body ≡ big_bytes 8 first ++ (big_bytes 4 count ++ rest) → frame layout batch ≡ 1 ∷ (big_bytes 4 (length body) ++ body)
    → (batch.first ≡ first) × (length batch.commands ≡ count) × (records_bytes layout batch.commands ≡ rest)
body_parts layout batch body rest first count fits short first_fits count_fits parts e =
    let len = frame_length layout batch in
    let whole_short = fits.short in
    let few = fits.few in
    let batch_fits = fits.fits in
    let no_kind = same_rest 1 1 _ _ (sym (frame_whole layout batch) ∙ e) in
    let no_len = same_number 4 _ _ _ _ (omega arith) (omega arith) no_kind.1 in
    let no_first = same_number 8 batch.first first _ _ (omega arith) first_fits (no_len.1 ∙ parts) in
    let no_count = same_number 4 (length batch.commands) count _ _ (omega arith) count_fits no_first.1 in
    (no_first.0, no_count.0, no_count.1)

-- the changes that are read from a body are a batch whose frame ends with it
pub is_body : (layout : Layout) (expected count : ℕ) (entries : List Entry) (body rest : List ℕ) → length body ≤ 1048571 → 1 ≤ count → count ≤ 65536 → expected + count < 2 ^ 64
    → body ≡ big_bytes 8 expected ++ (big_bytes 4 count ++ rest) → AreEntries layout expected count entries rest → IsBody layout expected entries body
is_body layout expected count entries body rest short some few fits parts are =
    let batch : Batch = batch_of expected entries in
    let commands : List Command = commands_of entries in
    let len : length commands ≡ count = commands_length entries ∙ are.so_many in
    let records : length rest ≡ length (records_bytes layout commands) = ap (λ (l : List ℕ). length l) are.spelled in
    let a = length-append (big_bytes 8 expected) (big_bytes 4 count ++ rest) in
    let b = length-append (big_bytes 4 count) rest in
    let p = length-bytes_high_first 8 expected in
    let q = length-bytes_high_first 4 count in
    let whole = ap (λ (l : List ℕ). length l) parts in
    let size : 12 + length (records_bytes layout commands) ≡ length body = omega arith in
    let of_frame = frame_length layout batch in
    let tail : big_bytes 8 expected ++ (big_bytes 4 (length commands) ++ records_bytes layout commands) ≡ body =
    ap₂ (λ (n : ℕ) (l : List ℕ). big_bytes 8 expected ++ (big_bytes 4 n ++ l)) len (sym are.spelled) ∙ sym parts in
    record {
      tickets = are.tickets;
      fits = record { fits = omega arith; some = omega arith; few = omega arith; short = omega arith; well_formed = are.well_formed };
      bytes = frame_whole layout batch ∙ ap₂ (λ (n : ℕ) (l : List ℕ). 1 ∷ (big_bytes 4 n ++ l)) size tail;
    }
