-- What stands at the gate, as the scan's callers see it.
use Rattle.std.proofs.Common.{◌≡◌, ℕ, ◌+◌, List, [], ◌∷◌, ◌++◌, length, drop, refl, sym, ap, ap₂, subst, ◌∙◌, append_assoc, arith}
use Rattle.std.proofs.lemmas.List.{length-append, append-nil}
use Rattle.std.proofs.Math.Seq.{drop-append_seam}
use Rattle.map_types.specs.declared.commands.Command.{Command}
use Rattle.log_records.specs.Layout.{Layout}
use Rattle.ticket_order.specs.declared.stripe.Entry.{Entry}
use Rattle.store_layout.specs.Logs.{Batch, IsBatch, IsEnded, IsRun, commands_in, frame, header, log_front, opened}
use Rattle.gate_log.specs.States.{batch_of}
use Rattle.store_layout.specs.Readings.{HasNoFrame, IsBroken}
use Rattle.file_pieces.specs.Pieces.{ReaderState, Holds}
use Rattle.gate_log.specs.Scan.{HasRead, IsNextBatch, ScanState}
use Rattle.gate_log.specs.ScanParts.{FitsBatch, IsAtBatch, IsAtEnd}
use Rattle.gate_log.proofs.Entries.{commands_length}

opened_append : (layout : Layout) (a b : List Batch) → opened layout (a ++ b) ≡ opened layout a ++ opened layout b
opened_append layout [] b = refl
opened_append layout (batch ∷ a) b =
    ap (λ (l : List ℕ). 165 ∷ (frame layout batch ++ l)) (opened_append layout a b)
    ∙ ap (λ (l : List ℕ). 165 ∷ l) (sym (append_assoc (frame layout batch) (opened layout a) (opened layout b)))

commands_append : (a b : List Batch) → commands_in (a ++ b) ≡ commands_in a ++ commands_in b
commands_append [] b = refl
commands_append (batch ∷ a) b =
    ap (λ (l : List Command). batch.commands ++ l) (commands_append a b) ∙ sym (append_assoc batch.commands (commands_in a) (commands_in b))

run_more : (layout : Layout) (low : ℕ) (a : List Batch) (batch : Batch) → IsRun layout low a → IsBatch layout batch → batch.first ≡ low + length (commands_in a) → IsRun layout low (a ++ batch ∷ [])
run_more layout low [] batch run fits first = (fits, omega arith, tt)
run_more layout low (b ∷ a) batch run fits first =
    (run.0, run.1, run_more layout (low + length b.commands) a batch run.2 fits (omega (arith, length-append b.commands (commands_in a))))

front_more : (layout : Layout) (generation low : ℕ) (batches : List Batch) (batch : Batch) (t : List ℕ) → log_front layout generation low (batches ++ batch ∷ []) ++ t
    ≡ log_front layout generation low batches ++ 165 ∷ (frame layout batch ++ t)
front_more layout generation low batches batch t =
    let head : List ℕ = header layout generation low in
    let so_far : List ℕ = opened layout batches in
    let last : List ℕ = 165 ∷ frame layout batch in
    let one : opened layout (batch ∷ []) ≡ last = ap (λ (l : List ℕ). 165 ∷ l) (append-nil (frame layout batch)) in
    ap (λ (l : List ℕ). (head ++ l) ++ t) (opened_append layout batches (batch ∷ []) ∙ ap (λ (l : List ℕ). so_far ++ l) one)
    ∙ ap (λ (l : List ℕ). l ++ t) (sym (append_assoc head so_far last))
    ∙ append_assoc (head ++ so_far) last t

-- the scan behind a frame with so many bytes behind its length
abbrev pub moved_on : ScanState → ℕ → ℕ → ReaderState → ScanState
moved_on scan len count reader = record { version = scan.version; generation = scan.generation; gate = scan.gate + (6 + len); expected = scan.expected + count; reader = reader }

module _ (layout : Layout) (low : ℕ) (batches : List Batch) (scan : ScanState) (content : List ℕ) (read : HasRead layout low batches scan content) where
  pub at_gate : drop scan.gate content ≡ read.byte ∷ read.rest
  at_gate = ap₂ (λ (n : ℕ) (l : List ℕ). drop n l) read.place read.bytes ∙ drop-append_seam (log_front layout scan.generation low batches) (read.byte ∷ read.rest)

  open_bytes : read.byte ≡ 165 → content ≡ log_front layout scan.generation low batches ++ 165 ∷ read.rest
  open_bytes is_open = read.bytes ∙ ap (λ (b : ℕ). log_front layout scan.generation low batches ++ b ∷ read.rest) is_open

  pub broken_here : read.byte ≡ 165 → HasNoFrame layout scan.expected (scan.generation + 1) read.rest → IsBroken layout scan.generation low batches content
  broken_here is_open none = record {
    rest = read.rest;
    bytes = open_bytes is_open;
    no_frame = subst (λ (n : ℕ). HasNoFrame layout n (scan.generation + 1) read.rest) read.tickets none;
    log = read.log;
  }

  pub ended_here : read.byte ≡ 165 → IsAtEnd (scan.generation + 1) read.rest → IsEnded layout scan.generation low batches (scan.generation + 1) content
  ended_here is_open at_end = record {
    after = at_end.after;
    rest = at_end.behind;
    bytes = open_bytes is_open ∙ ap (λ (l : List ℕ). log_front layout scan.generation low batches ++ 165 ∷ l) at_end.bytes;
    next_fits = at_end.next_fits;
    log = read.log;
  }

  pub next_here : (entries : List Entry) (len : ℕ) → read.byte ≡ 165 → IsAtBatch layout (batch_of scan.expected entries) read.rest → FitsBatch layout scan.expected len entries
      → (reader : ReaderState) → Holds content reader → IsNextBatch layout low batches entries scan (moved_on scan len (length entries) reader) content
  next_here entries len is_open at_batch fits reader held =
      let batch : Batch = batch_of scan.expected entries in
      let whole = front_more layout scan.generation low batches batch (at_batch.after ∷ at_batch.behind) in
      let bytes : content ≡ log_front layout scan.generation low (batches ++ batch ∷ []) ++ at_batch.after ∷ at_batch.behind =
      open_bytes is_open ∙ ap (λ (l : List ℕ). log_front layout scan.generation low batches ++ 165 ∷ l) at_batch.bytes ∙ sym whole in
      let front = front_more layout scan.generation low batches batch [] in
      let front_len = ap (λ (l : List ℕ). length l) front in
      let left_len = length-append (log_front layout scan.generation low (batches ++ batch ∷ [])) [] in
      let right_len = length-append (log_front layout scan.generation low batches) (165 ∷ (frame layout batch ++ [])) in
      let frame_len = length-append (frame layout batch) [] in
      let size = fits.size in
      let place = read.place in
      let tickets = read.tickets in
      let commands = ap (λ (l : List Command). length l) (commands_append batches (batch ∷ [])) in
      let commands_len = length-append (commands_in batches) (commands_in (batch ∷ [])) in
      let last_len = length-append batch.commands [] in
      let count = commands_length entries in
      record {
        tickets = fits.tickets;
        fits = fits.fits;
        read = record {
          byte = at_batch.after;
          rest = at_batch.behind;
          bytes = bytes;
          place = omega arith;
          tickets = omega arith;
          log = record { generation_fits = read.log.generation_fits; low_fits = read.log.low_fits; in_order = run_more layout low batches batch read.log.in_order fits.fits read.tickets };
          held = held;
        };
      }
