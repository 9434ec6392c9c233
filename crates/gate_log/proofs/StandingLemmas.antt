-- How a log's file goes from one phase to the next, and what a stop leaves of it.
use Rattle.std.proofs.Common.{◌≡◌, ◌⊎◌, inl, inr, ℕ, ◌+◌, ◌<◌, ◌^◌, Bool, List, [], ◌∷◌, ◌++◌, length, drop, Option, None, Some, refl, sym, ◌∙◌, ap, subst, arith, append_assoc, length-append}
use Rattle.std.proofs.lemmas.List.{append-nil}
use Rattle.std.proofs.lemmas.Bool.{cases_eq}
use Rattle.disk_model.specs.Files.{File, MayLeave, IsTorn, written, synced}
use Rattle.disk_model.specs.Gates.{Call, IsShut, IsOpening, IsPlaced, called, MayFailTo}
use Rattle.disk_model.proofs.GateLemmas.{shut_long, shut_written, shut_torn, shut_synced, opening_synced, gate_written, opening_written, opening_torn, open_synced, closed_synced, left_shut, left_opening, left_open}
use Rattle.log_records.specs.declared.versions.Version.{Version}
use Rattle.log_records.specs.Layout.{layout_of}
use Rattle.store_layout.specs.Logs.{Batch, IsLog, IsClosed, IsEnded, end_frame, frame, header}
use Rattle.store_layout.proofs.LogLemmas.{front_push, commands_push, run_push, length-header}
use Rattle.store_layout.specs.declared.log_phase.Phase.{Phase}
use Rattle.store_layout.specs.declared.log_phase.Phase.TheVariants.{Idle, Header, HeaderWritten, Staged, Written, Synced, Opened}
use Rattle.gate_log.specs.States.{LogState, bytes_staged, call_in, log_after}
use Rattle.gate_log.specs.LogStates.{front_of, HasCommitted, IsNext, HasNone, HasNext, AtRest, AtPhase, Stands, IsReady, IsDone, MayRead}
use Rattle.gate_log.specs.LogSteps.{committed_after, staged_after}

-- ---- a log that begins

pub begun_stands : (version : Version) (generation low : ℕ) (frame : List ℕ) (is_broken : Bool) → frame ≡ [] → generation < 2 ^ 64 → low < 2 ^ 64
    → (file : File) → Stands (record { version = version; generation = generation; low = low; phase = Header; gate = 17; committed = low; count = 0; frame = frame; ending = None; is_broken = is_broken }) [] [] file
begun_stands version generation low frame is_broken empty fits fits' file = record {
  knows = record {
    gate = omega (arith, length-header (layout_of version) generation low, length-append (header (layout_of version) generation low) []);
    committed = omega arith;
    in_order = record { generation_fits = fits; low_fits = fits'; in_order = tt };
  };
  stands = (refl, record { none_staged = refl; frame = empty; count = refl }, refl);
}

-- ---- what a stop leaves

module _ (log : LogState) (batches : List Batch) (knows : HasCommitted log batches) where
  abbrev front : List ℕ
  front = front_of log batches

  abbrev Committed : List ℕ → Type 0
  Committed content = IsClosed (layout_of log.version) log.generation log.low batches content

  pub shut_reads : (behind : List ℕ) (file : File) (content : List ℕ) → IsShut front behind file → MayLeave file content → Committed content
  shut_reads behind file content shut left =
      let parts : (rest : List ℕ) × (content ≡ front ++ shut.gate ∷ rest) = left_shut front behind file content shut left in
      record { gate = shut.gate; rest = parts.0; bytes = parts.1; closed = shut.closed; log = knows.in_order }

  -- the batch that was staged
  pub log_push : (b : Batch) → IsNext log b → IsLog (layout_of log.version) log.generation log.low (batches ++ b ∷ [])
  log_push b next = record {
    generation_fits = knows.in_order.generation_fits;
    low_fits = knows.in_order.low_fits;
    in_order = run_push (layout_of log.version) log.low batches b knows.in_order.in_order next.fits (next.first ∙ knows.committed);
  }

  pub whole_frame : (b : Batch) (rest : List ℕ) → IsNext log b → front ++ 165 ∷ (log.frame ++ rest) ≡ front_of log (batches ++ b ∷ []) ++ 0 ∷ rest
  whole_frame b rest next =
      ap (λ (l : List ℕ). front ++ 165 ∷ (l ++ rest)) next.frame
      ∙ ap (λ (l : List ℕ). front ++ 165 ∷ l) (append_assoc (frame (layout_of log.version) b) (0 ∷ []) rest)
      ∙ sym (append_assoc front (165 ∷ frame (layout_of log.version) b) (0 ∷ rest))
      ∙ ap (λ (l : List ℕ). l ++ 0 ∷ rest) (sym (front_push (layout_of log.version) log.generation log.low batches b))

  pub ended : (next : ℕ) (content rest : List ℕ) → next < 2 ^ 64 → content ≡ front ++ 165 ∷ ((end_frame next ++ 0 ∷ []) ++ rest) → IsEnded (layout_of log.version) log.generation log.low batches next content
  ended next content rest fits is = record {
    after = 0;
    rest = rest;
    bytes = is ∙ ap (λ (l : List ℕ). front ++ 165 ∷ l) (append_assoc (end_frame next) (0 ∷ []) rest);
    next_fits = fits;
    log = knows.in_order;
  }

  done : (ending : Option ℕ) (staged : List Batch) (content rest : List ℕ) → HasNext ending log staged → content ≡ front ++ 165 ∷ (bytes_staged ending log.frame ++ rest) → IsDone ending log batches staged content
  done None staged content rest (b, one, next) is =
      subst (λ bs. IsClosed (layout_of log.version) log.generation log.low (batches ++ bs) content) (sym one)
      (record { gate = 0; rest = rest; bytes = is ∙ whole_frame b rest next; closed = omega arith; log = log_push b next })
  done (Some next) staged content rest has is = ended next content rest has.1 is

  pub opening_reads : (ending : Option ℕ) (staged : List Batch) (file : File) (content : List ℕ) → HasNext ending log staged → IsOpening front (bytes_staged ending log.frame) file → MayLeave file content
      → Committed content ⊎ IsDone ending log batches staged content
  opening_reads ending staged file content has opening left =
      let behind = bytes_staged ending log.frame in
      let parts : (gate : ℕ) × (rest : List ℕ) × (content ≡ front ++ gate ∷ (behind ++ rest)) = left_opening front behind file content opening left in
      elim (cases_eq parts.0 165) [
        | inl is_open ↦ inr (done ending staged content parts.1 has (parts.2 ∙ ap (λ k. front ++ k ∷ (behind ++ parts.1)) is_open))
        | inr closed ↦ inl (record { gate = parts.0; rest = behind ++ parts.1; bytes = parts.2; closed = closed; log = knows.in_order })
      ]

  rest_reads : (ending : Option ℕ) (staged : List Batch) (file : File) (content : List ℕ) → AtRest ending log batches file → MayLeave file content → MayRead Idle ending log batches staged content
  rest_reads None staged file content at left = inl (shut_reads [] file content at left)
  rest_reads (Some next) staged file content at left =
      let parts : (rest : List ℕ) × (content ≡ front ++ 165 ∷ ((end_frame next ++ 0 ∷ []) ++ rest)) = left_open front (end_frame next ++ 0 ∷ []) file content at.0 left in
      ended next content parts.0 at.1 parts.1

  -- in each phase
  pub reads_in : (phase : Phase) (staged : List Batch) (file : File) → AtPhase phase log batches staged file → IsReady phase → (content : List ℕ) → MayLeave file content → MayRead phase log.ending log batches staged content
  reads_in Idle staged file at ready content left = rest_reads log.ending staged file content at.1 left
  reads_in Header staged file at ready content left = absurd ready
  reads_in HeaderWritten staged file at ready content left = absurd ready
  reads_in Staged staged file at ready content left = inl (shut_reads [] file content at.1 left)
  reads_in Written staged file at ready content left = inl (shut_reads (bytes_staged log.ending log.frame) file content at.1 left)
  reads_in Synced staged file at ready content left = inl (shut_reads (bytes_staged log.ending log.frame) file content at.1 left)
  reads_in Opened staged file at ready content left = opening_reads log.ending staged file content at.0 at.1 left

  -- ---- the device call that is due

  abbrev PlacedIn : Option Call → File → Type 0
  PlacedIn None file = Unit {0}
  PlacedIn (Some call) file = IsPlaced call file

  placed_in : (phase : Phase) (staged : List Batch) (file : File) → AtPhase phase log batches staged file → PlacedIn (call_in phase log) file
  placed_in Idle staged file at = tt
  placed_in Header staged file at = omega arith
  placed_in HeaderWritten staged file at = tt
  placed_in Staged staged file at = omega (arith, shut_long front [] file at.1, knows.gate)
  placed_in Written staged file at = tt
  placed_in Synced staged file at = omega (arith, shut_long front (bytes_staged log.ending log.frame) file at.1, knows.gate)
  placed_in Opened staged file at = tt

  pub placed : (phase : Phase) (staged : List Batch) (file : File) → AtPhase phase log batches staged file → (call : Call) → call_in phase log ≡ Some call → IsPlaced call file
  placed phase staged file at call due = subst (λ (o : Option Call). PlacedIn o file) due (placed_in phase staged file at)

  -- ---- it succeeds

  abbrev called_in : Option Call → File → File
  called_in None file = file
  called_in (Some call) file = called call file

  kept_knows : (phase : Phase) → HasCommitted (record log { phase = phase }) batches
  kept_knows phase = record { gate = knows.gate; committed = knows.committed; in_order = knows.in_order }

  kept_next : (ending : Option ℕ) (phase : Phase) (staged : List Batch) → HasNext ending log staged → HasNext ending (record log { phase = phase }) staged
  kept_next None phase staged (b, one, next) = (b, one, record { frame = next.frame; count = next.count; first = next.first; fits = next.fits })
  kept_next (Some next) phase staged has = (record { none_staged = has.0.none_staged; frame = has.0.frame; count = has.0.count }, has.1)

  abbrev committed : LogState
  committed = record log { phase = Idle; gate = log.gate + length log.frame; committed = log.committed + log.count; count = 0; frame = [] }

  knows_batch : (b : Batch) → IsNext log b → HasCommitted committed (batches ++ b ∷ [])
  knows_batch b next = record {
    gate = omega (arith, knows.gate, ap length next.frame, length-append (frame (layout_of log.version) b) (0 ∷ []), ap length (front_push (layout_of log.version) log.generation log.low batches b), length-append front (165 ∷ frame (layout_of log.version) b));
    committed = omega (arith, knows.committed, commands_push batches b, next.count);
    in_order = log_push b next;
  }

  knows_none : (staged : List Batch) → HasNone log staged → HasCommitted committed batches
  knows_none staged has = record {
    gate = omega (arith, knows.gate, ap length has.frame);
    committed = omega (arith, knows.committed, has.count);
    in_order = knows.in_order;
  }

  -- the last sync
  commits : (ending : Option ℕ) (staged : List Batch) (file : File) (rest : List ℕ) → HasNext ending log staged → file.seen ≡ front ++ 165 ∷ (bytes_staged ending log.frame ++ rest)
      → HasCommitted committed (batches ++ staged) × AtRest ending committed (batches ++ staged) (synced file)
  commits None staged file rest (b, one, next) is =
      subst (λ bs. HasCommitted committed (batches ++ bs) × AtRest None committed (batches ++ bs) (synced file)) (sym one)
      (knows_batch b next, closed_synced (front_of log (batches ++ b ∷ [])) rest 0 file (omega arith) (is ∙ whole_frame b rest next))
  commits (Some next) staged file rest has is =
      let none : batches ≡ batches ++ staged = sym (append-nil batches) ∙ ap (λ (bs : List Batch). batches ++ bs) (sym has.0.none_staged) in
      subst (λ bs. HasCommitted committed bs × AtRest (Some next) committed bs (synced file)) none
      (knows_none staged has.0, (open_synced front (end_frame next ++ 0 ∷ []) rest file is, has.1))

  -- the header's sync
  header_stands : (staged : List Batch) (file : File) → AtPhase HeaderWritten log batches staged file → IsShut front [] (synced file)
  header_stands staged file at =
      let h = header (layout_of log.version) log.generation log.low in
      closed_synced front at.3.0 0 file (omega arith)
      (at.3.1 ∙ ap (λ (l : List ℕ). l ++ 0 ∷ at.3.0) (sym (ap (λ (bs : List Batch). front_of log bs) at.0 ∙ append-nil h)))

  kept_none : (phase : Phase) (staged : List Batch) → HasNone log staged → HasNone (record log { phase = phase }) staged
  kept_none phase staged has = record { none_staged = has.none_staged; frame = has.frame; count = has.count }

  abbrev behind : List ℕ
  behind = bytes_staged log.ending log.frame

  frame_written : (file : File) → IsShut front [] file → IsShut front behind (written (log.gate + 1) behind file)
  frame_written file shut = subst (λ n. IsShut front behind (written (n + 1) behind file)) (sym knows.gate) (shut_written front behind file shut)

  opened_written : (file : File) → IsOpening front behind file → IsOpening front behind (written log.gate (165 ∷ []) file)
  opened_written file opening = subst (λ n. IsOpening front behind (written n (165 ∷ []) file)) (sym knows.gate) (opening_written front behind file opening)

  opened_seen : (file : File) → IsOpening front behind file → (rest : List ℕ) × ((written log.gate (165 ∷ []) file).seen ≡ front ++ 165 ∷ (behind ++ rest))
  opened_seen file opening = (opening.rest, subst (λ n. (written n (165 ∷ []) file).seen ≡ front ++ 165 ∷ (behind ++ opening.rest)) (sym knows.gate) (gate_written front behind file opening))

  goes_in : (phase : Phase) (staged : List Batch) (file : File) → log.phase ≡ phase → AtPhase phase log batches staged file
      → Stands (log_after phase log) (committed_after phase batches staged) (staged_after phase staged) (called_in (call_in phase log) file)
  goes_in Idle staged file is at = record { knows = knows; stands = subst (λ p. AtPhase p log batches staged file) (sym is) at }
  goes_in Header staged file is at =
      let h = header (layout_of log.version) log.generation log.low in
      let rest = drop (0 + length (h ++ 0 ∷ [])) file.seen in
      record { knows = kept_knows HeaderWritten; stands = (at.0, kept_none HeaderWritten staged at.1, at.2, (rest, append_assoc h (0 ∷ []) rest)) }
  goes_in HeaderWritten staged file is at = record {
    knows = kept_knows Idle;
    stands = (kept_none Idle staged at.1, subst (λ o. AtRest o (record log { phase = Idle }) batches (synced file)) (sym at.2) (header_stands staged file at));
  }
  goes_in Staged staged file is at = record { knows = kept_knows Written; stands = (kept_next log.ending Written staged at.0, frame_written file at.1) }
  goes_in Written staged file is at = record {
    knows = kept_knows Synced;
    stands = (kept_next log.ending Synced staged at.0, shut_synced front behind file at.1, opening_synced front behind at.1.rest at.1.gate file at.1.seen);
  }
  goes_in Synced staged file is at = record { knows = kept_knows Opened; stands = (kept_next log.ending Opened staged at.0, opened_written file at.2, opened_seen file at.2) }
  goes_in Opened staged file is at =
      let both = commits log.ending staged file at.2.0 at.0 at.2.1 in
      record { knows = both.0; stands = (record { none_staged = refl; frame = refl; count = refl }, both.1) }

  pub goes_to : (phase : Phase) (staged : List Batch) (file : File) → log.phase ≡ phase → AtPhase phase log batches staged file → (call : Call) → call_in phase log ≡ Some call
      → Stands (log_after phase log) (committed_after phase batches staged) (staged_after phase staged) (called call file)
  goes_to phase staged file is at call due =
      subst (λ (o : Option Call). Stands (log_after phase log) (committed_after phase batches staged) (staged_after phase staged) (called_in o file)) due (goes_in phase staged file is at)

  called_reads_in : (phase : Phase) (staged : List Batch) (file : File) → AtPhase phase log batches staged file → IsReady phase
      → (content : List ℕ) → MayLeave (called_in (call_in phase log) file) content → MayRead phase log.ending log batches staged content
  called_reads_in Idle staged file at ready content left = rest_reads log.ending staged file content at.1 left
  called_reads_in Header staged file at ready content left = absurd ready
  called_reads_in HeaderWritten staged file at ready content left = absurd ready
  called_reads_in Staged staged file at ready content left = inl (shut_reads behind (written (log.gate + 1) behind file) content (frame_written file at.1) left)
  called_reads_in Written staged file at ready content left = inl (shut_reads behind (synced file) content (shut_synced front behind file at.1) left)
  called_reads_in Synced staged file at ready content left = opening_reads log.ending staged (written log.gate (165 ∷ []) file) content at.0 (opened_written file at.2) left
  called_reads_in Opened staged file at ready content left =
      opening_reads log.ending staged (synced file) content at.0 (opening_synced front behind at.2.0 165 file at.2.1) left

  pub called_reads : (phase : Phase) (staged : List Batch) (file : File) → AtPhase phase log batches staged file → (call : Call) → call_in phase log ≡ Some call → IsReady phase
      → (content : List ℕ) → MayLeave (called call file) content → MayRead phase log.ending log batches staged content
  called_reads phase staged file at call due ready content left =
      called_reads_in phase staged file at ready content (subst (λ (o : Option Call). MayLeave (called_in o file) content) (sym due) left)

  -- ---- it fails

  abbrev FailsIn : Option Call → File → File → Type 0
  FailsIn None old new = ⊥
  FailsIn (Some call) old new = MayFailTo call old new

  failed_reads_in : (phase : Phase) (staged : List Batch) (old new : File) → AtPhase phase log batches staged old → FailsIn (call_in phase log) old new
      → IsReady phase → (content : List ℕ) → MayLeave new content → MayRead phase log.ending log batches staged content
  failed_reads_in Idle staged old new at fails ready content left = absurd fails
  failed_reads_in Header staged old new at fails ready content left = absurd ready
  failed_reads_in HeaderWritten staged old new at fails ready content left = absurd ready
  failed_reads_in Staged staged old new at fails ready content left =
      inl (shut_reads [] new content (shut_torn front behind old new at.1 (subst (λ n. IsTorn (n + 1) behind old new) knows.gate fails)) left)
  failed_reads_in Written staged old new at fails ready content left = inl (shut_reads behind old content at.1 (subst (λ f. MayLeave f content) fails left))
  failed_reads_in Synced staged old new at fails ready content left =
      opening_reads log.ending staged new content at.0 (opening_torn front behind 165 old new at.2 (subst (λ n. IsTorn n (165 ∷ []) old new) knows.gate fails)) left
  failed_reads_in Opened staged old new at fails ready content left = opening_reads log.ending staged old content at.0 at.1 (subst (λ f. MayLeave f content) fails left)

  pub failed_reads : (phase : Phase) (staged : List Batch) (old new : File) → AtPhase phase log batches staged old → (call : Call) → call_in phase log ≡ Some call → MayFailTo call old new
      → IsReady phase → (content : List ℕ) → MayLeave new content → MayRead phase log.ending log batches staged content
  failed_reads phase staged old new at call due fails ready content left =
      failed_reads_in phase staged old new at (subst (λ (o : Option Call). FailsIn o old new) (sym due) fails) ready content left
