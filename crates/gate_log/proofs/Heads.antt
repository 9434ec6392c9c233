-- What a frame's kind and length say, and what they rule out.
use Rattle.std.proofs.Common.{◌≡◌, ◌≢◌, ◌<◌, ◌≤◌, ℕ, ◌+◌, ◌^◌, suc, List, [], ◌∷◌, ◌++◌, length, take, drop, refl, sym, ap, ap₂, subst, ◌∙◌, append_assoc, arith, get_or, None, Some}
use Rattle.std.proofs.lemmas.List.{length-append, take-append-drop, length-take-le}
use Rattle.std.proofs.Math.Seq.{drop-cons}
use Rattle.byteorder.specs.Endian.{big_bytes}
use Rattle.byteorder.specs.Numbers.{length-bytes_high_first}
use Rattle.log_records.specs.Layout.{Layout}
use Rattle.store_layout.specs.Logs.{Batch as LogBatch, IsBatch, end_frame, frame, records_bytes}
use Rattle.ticket_order.specs.declared.stripe.Entry.{Entry}
use Rattle.gate_log.specs.States.{batch_of}
use Rattle.store_layout.specs.Readings.{HasNoFrame}
use Rattle.gate_log.specs.ScanParts.{HasFrame, IsBody, ComesAhead, IsAheadOf, IsAtBatch, IsAtEnd}
use Rattle.gate_log.specs.declared.parts.Ahead.{Ahead}
use Rattle.gate_log.specs.declared.parts.Ahead.TheVariants.{Batch, Closed, End}
use Rattle.store_layout.proofs.FrameLemmas.{same_rest, same_number, same_parts, frame_length, end_parts}
use Rattle.gate_log.proofs.Bodies.{frame_whole, body_of}

-- a batch's frame stands here, behind this kind and this length
pub record HeadOf (layout : Layout) (batch : LogBatch) (kind len : ℕ) (tail : List ℕ) (after : ℕ) (behind : List ℕ) : Type 0 where
  pub kind_is : kind ≡ 1
  pub low : 12 ≤ len
  pub high : len ≤ 1048571
  pub tail_is : tail ≡ body_of layout batch ++ after ∷ behind
  pub size : length (body_of layout batch) ≡ len
  pub frame_is : frame layout batch ≡ 1 ∷ (big_bytes 4 len ++ body_of layout batch)

body_length : (layout : Layout) (batch : LogBatch) → length (body_of layout batch) ≡ 12 + length (records_bytes layout batch.commands)
body_length layout batch =
    let records : List ℕ = records_bytes layout batch.commands in
    let b = length-append (big_bytes 8 batch.first) (big_bytes 4 (length batch.commands) ++ records) in
    let c = length-append (big_bytes 4 (length batch.commands)) records in
    let e = length-bytes_high_first 8 batch.first in
    let f = length-bytes_high_first 4 (length batch.commands) in
    omega arith

pub head_of : (layout : Layout) (batch : LogBatch) (after : ℕ) (behind rest tail : List ℕ) (kind len : ℕ) → IsBatch layout batch → rest ≡ frame layout batch ++ after ∷ behind
    → rest ≡ kind ∷ (big_bytes 4 len ++ tail) → len < 2 ^ 32 → HeadOf layout batch kind len tail after behind
head_of layout batch after behind rest tail kind len fits is head len_fits =
    let size : ℕ = 12 + length (records_bytes layout batch.commands) in
    let whole : rest ≡ 1 ∷ (big_bytes 4 size ++ (body_of layout batch ++ after ∷ behind)) =
    is ∙ ap (λ (l : List ℕ). l ++ after ∷ behind) (frame_whole layout batch) ∙ ap (λ (l : List ℕ). 1 ∷ l) (append_assoc (big_bytes 4 size) (body_of layout batch) (after ∷ behind)) in
    let frame_len = frame_length layout batch in
    let short = fits.short in
    let body_len = body_length layout batch in
    let kinds = same_rest kind 1 _ _ (sym head ∙ whole) in
    let lens = same_number 4 len size _ _ len_fits (omega arith) kinds.1 in
    let same : size ≡ len = sym lens.0 in
    record {
      kind_is = kinds.0;
      low = omega (arith, same);
      high = omega (arith, same);
      tail_is = lens.1;
      size = body_len ∙ same;
      frame_is = frame_whole layout batch ∙ ap (λ (n : ℕ). 1 ∷ (big_bytes 4 n ++ body_of layout batch)) same;
    }

pub end_head : (next after : ℕ) (behind rest tail : List ℕ) (kind len : ℕ) → rest ≡ end_frame next ++ after ∷ behind → rest ≡ kind ∷ (big_bytes 4 len ++ tail) → len < 2 ^ 32
    → (kind ≡ 2) × (len ≡ 8) × (tail ≡ big_bytes 8 next ++ after ∷ behind)
end_head next after behind rest tail kind len is head len_fits =
    let kinds = same_rest kind 2 _ _ (sym head ∙ is ∙ end_parts next (after ∷ behind)) in
    let lens = same_number 4 len 8 _ _ len_fits (omega arith) kinds.1 in
    (kinds.0, lens.0, lens.1)

tail_length : (body : List ℕ) (after : ℕ) (behind tail : List ℕ) → tail ≡ body ++ after ∷ behind → length body < length tail
tail_length body after behind tail e = omega (arith, ap (λ (l : List ℕ). length l) e, length-append body (after ∷ behind))

module _ (layout : Layout) (expected next : ℕ) (rest : List ℕ) where
  -- there are fewer bytes than a kind, a length and a byte behind them
  pub none_short : length rest < 6 → HasNoFrame layout expected next rest
  none_short short = record {
    no_batch = λ batch after behind fits first e. absurd (omega (arith, tail_length (frame layout batch) after behind rest e, frame_length layout batch));
    no_end = λ after behind fits e. absurd (end_short after behind e);
  }
    where
      end_short : (after : ℕ) (behind : List ℕ) → rest ≡ end_frame next ++ after ∷ behind → ⊥
      end_short after behind e =
          let parts = ap (λ (l : List ℕ). length l) (e ∙ end_parts next (after ∷ behind)) in
          let a = length-append (big_bytes 4 8) (big_bytes 8 next ++ after ∷ behind) in
          let b = length-bytes_high_first 4 8 in
          let c = length-append (big_bytes 8 next) (after ∷ behind) in
          let d = length-bytes_high_first 8 next in
          omega arith

  module _ (kind len : ℕ) (tail : List ℕ) (head : rest ≡ kind ∷ (big_bytes 4 len ++ tail)) (len_fits : len < 2 ^ 32) where
    -- there is no byte behind as many bytes
    pub none_cut : length tail ≤ len → HasNoFrame layout expected next rest
    none_cut short = record {
      no_batch = λ batch after behind fits first e.
          let h = head_of layout batch after behind rest tail kind len fits e head len_fits in
          let size = h.size in
          absurd (omega (arith, tail_length (body_of layout batch) after behind tail h.tail_is));
      no_end = λ after behind fits e.
          let h = end_head next after behind rest tail kind len e head len_fits in
          let size = length-bytes_high_first 8 next in
          let len_is = h.1 in
          absurd (omega (arith, tail_length (big_bytes 8 next) after behind tail h.2));
    }

    -- no frame has this kind and this length
    pub none_ahead : IsAheadOf kind len None → HasNoFrame layout expected next rest
    none_ahead never = record {
      no_batch = λ batch after behind fits first e.
          let h = head_of layout batch after behind rest tail kind len fits e head len_fits in
          never.0 h.kind_is h.low h.high;
      no_end = λ after behind fits e.
          let h = end_head next after behind rest tail kind len e head len_fits in
          never.1 h.0 h.1;
    }

    -- a byte stands behind as many bytes
    pub has_frame : len < length tail → HasFrame kind len rest
    has_frame more =
        let seam = take-append-drop len tail in
        let cut = drop-cons tail len 0 more in
        let parts : tail ≡ take len tail ++ get_or tail len 0 ∷ drop (suc len) tail = sym seam ∙ ap (λ (l : List ℕ). take len tail ++ l) cut in
        record {
          body = take len tail;
          after = get_or tail len 0;
          behind = drop (suc len) tail;
          bytes = head ∙ ap (λ (l : List ℕ). kind ∷ (big_bytes 4 len ++ l)) parts;
          size = length-take-le len tail (omega arith);
        }

  -- an end frame that names another generation
  pub none_end : (h : HasFrame 2 8 rest) → (next < 2 ^ 64 → h.body ≡ big_bytes 8 next → ⊥) → HasNoFrame layout expected next rest
  none_end h other = record {
    no_batch = λ batch after behind fits first e.
        let q = head_of layout batch after behind rest _ 2 8 fits e h.bytes (omega arith) in
        let kind = q.kind_is in
        absurd (omega arith);
    no_end = λ after behind fits e.
        let q = end_head next after behind rest _ 2 8 e h.bytes (omega arith) in
        other fits (same_parts h.body (big_bytes 8 next) _ _ (h.size ∙ sym (length-bytes_high_first 8 next)) q.2).0;
  }

  -- a frame that is not that of a batch that may come next
  pub none_batch : (len : ℕ) (h : HasFrame 1 len rest) → len < 2 ^ 32
      → ((batch : LogBatch) → IsBatch layout batch → batch.first ≡ expected → frame layout batch ≢ 1 ∷ (big_bytes 4 (length h.body) ++ h.body)) → HasNoFrame layout expected next rest
  none_batch len h len_fits never = record {
    no_batch = λ batch after behind fits first e.
        let q = head_of layout batch after behind rest _ 1 len fits e h.bytes len_fits in
        let bodies = same_parts h.body (body_of layout batch) _ _ (h.size ∙ sym q.size) q.tail_is in
        let is : frame layout batch ≡ 1 ∷ (big_bytes 4 (length h.body) ++ h.body) =
        q.frame_is ∙ ap₂ (λ (n : ℕ) (l : List ℕ). 1 ∷ (big_bytes 4 n ++ l)) (sym h.size) (sym bodies.0) in
        never batch fits first is;
    no_end = λ after behind fits e.
        let q = end_head next after behind rest _ 1 len e h.bytes len_fits in
        let kind = q.0 in
        absurd (omega arith);
  }

pub number_is : (x y : ℕ) → x < 2 ^ 64 → y < 2 ^ 64 → big_bytes 8 x ≡ big_bytes 8 y → x ≡ y
number_is x y fits_x fits_y e = (same_number 8 x y [] [] fits_x fits_y (ap (λ (l : List ℕ). l ++ []) e)).0

-- the end frame that names this generation
pub is_end : (next : ℕ) (rest : List ℕ) (h : HasFrame 2 8 rest) → next < 2 ^ 64 → h.body ≡ big_bytes 8 next → IsAtEnd next rest
is_end next rest h fits body = record {
  after = h.after;
  behind = h.behind;
  bytes = h.bytes ∙ ap (λ (l : List ℕ). 2 ∷ (big_bytes 4 8 ++ (l ++ h.after ∷ h.behind))) body ∙ sym (end_parts next (h.after ∷ h.behind));
  next_fits = fits;
}

-- the kind and the length that were read stand at the front
pub head_read : (content buf : List ℕ) (at kind len : ℕ) (rest : List ℕ) → drop at content ≡ rest → buf ≡ take 5 (drop at content) → buf ≡ kind ∷ big_bytes 4 len
    → rest ≡ kind ∷ (big_bytes 4 len ++ drop 5 rest)
head_read content buf at kind len rest is read spelled =
    let front : take 5 rest ≡ kind ∷ big_bytes 4 len = sym (ap (take 5) is) ∙ sym read ∙ spelled in
    sym (take-append-drop 5 rest) ∙ ap (λ (l : List ℕ). l ++ drop 5 rest) front

pub comes_ahead : (kind len : ℕ) (rest : List ℕ) (ahead : Ahead) → IsAheadOf kind len (Some ahead) → HasFrame kind len rest → ComesAhead 165 rest ahead
comes_ahead kind len rest Closed never h = absurd never
comes_ahead kind len rest (Batch size) is h =
    (refl, subst (λ (k : ℕ). HasFrame k size rest) is.0 (subst (λ (n : ℕ). HasFrame kind n rest) (sym is.1) h))
comes_ahead kind len rest End is h = (refl, subst (λ (k : ℕ). HasFrame k 8 rest) is.0 (subst (λ (n : ℕ). HasFrame kind n rest) is.1 h))

-- a batch whose frame ends with this body
pub is_batch : (layout : Layout) (expected len : ℕ) (entries : List Entry) (rest : List ℕ) (h : HasFrame 1 len rest) → IsBody layout expected entries h.body → IsAtBatch layout (batch_of expected entries) rest
is_batch layout expected len entries rest h body = record {
  after = h.after;
  behind = h.behind;
  bytes =
      h.bytes ∙ sym (ap (λ (l : List ℕ). l ++ h.after ∷ h.behind) body.bytes
      ∙ ap (λ (l : List ℕ). 1 ∷ l) (append_assoc (big_bytes 4 (length h.body)) h.body (h.after ∷ h.behind))
      ∙ ap (λ (n : ℕ). 1 ∷ (big_bytes 4 n ++ (h.body ++ h.after ∷ h.behind))) h.size);
}
