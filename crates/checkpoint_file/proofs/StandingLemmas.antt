-- How a checkpoint's file goes from one phase to the next, and what a stop leaves of it.
use Rattle.std.proofs.Common.{◌≡◌, inl, inr, ℕ, ◌+◌, ◌<◌, ◌≤◌, ◌^◌, replicate, false, List, [], ◌∷◌, ◌++◌, length, Option, None, Some, refl, sym, ◌∙◌, ap, subst, arith, append_assoc, length-append}
use Rattle.std.proofs.lemmas.List.{append-nil, length-replicate}
use Rattle.std.proofs.lemmas.Bool.{cases_eq}
use Rattle.disk_model.specs.Files.{File, MayLeave, IsTorn, written, synced}
use Rattle.disk_model.specs.Gates.{Call, IsShut, IsOpening, IsPlaced, called, MayFailTo}
use Rattle.disk_model.proofs.GateLemmas.{shut_long, shut_written, shut_synced, opening_synced, gate_written, opening_written, opening_torn, left_opening}
use Rattle.disk_model.proofs.FileLemmas.{rest_leaves}
use Rattle.store_layout.specs.Logs.{new_layout}
use Rattle.store_layout.specs.Checkpoints.{Section, IsWhole, IsCheckpoint, checkpoint_header, greatest_mark, is_sealed, sections_bytes, section_bytes}
use Rattle.store_layout.proofs.CheckpointLemmas.{sections_push, length-checkpoint_header}
use Rattle.store_layout.specs.declared.checkpoint_phase.CheckpointPhase.{CheckpointPhase}
use Rattle.store_layout.specs.declared.checkpoint_phase.CheckpointPhase.TheVariants.{Idle, Gate, GateWritten, GateSynced, Ready, Staged, Header, HeaderWritten, HeaderSynced, Opened, Sealed}
use Rattle.checkpoint_file.specs.States.{CheckpointState, call_in, state_after}
use Rattle.checkpoint_file.specs.CheckpointStates.{HasGiven, IsClosing, IsFilled, HasStaged, HasFilled, IsSealed, AtPhase, Stands, IsSealedOrNot, MayRead, checkpoint_of, written_of}
use Rattle.checkpoint_file.proofs.FileSteps.{closed_written, closed_torn, closing_synced, shut_more, shut_over, shut_less, shut_torn_behind, shut_leaves, shut_unsealed}

module _ (w : CheckpointState) (sections : List Section) (knows : HasGiven w sections) where
  -- once all sections are there, it may be sealed
  pub whole : w.count ≡ w.stripes → IsWhole new_layout (checkpoint_of w sections)
  whole all = record {
    generation_fits = knows.generation_fits;
    low_fits = knows.low_fits;
    body_fits = subst (λ n. n < 2 ^ 64) knows.body knows.body_fits;
    stripes = knows.allowed;
    one_each = sym knows.count ∙ all;
    sections = knows.are;
    marks = knows.marks;
  }

  sealed : (content rest : List ℕ) → w.count ≡ w.stripes → content ≡ 165 ∷ (written_of w sections ++ rest) → IsCheckpoint new_layout (checkpoint_of w sections) content
  sealed content rest all is = record { rest = rest; bytes = is; whole = whole all }

  -- ---- what a stop leaves

  filled_leaves : (before : List Section) (file : File) (content : List ℕ) → IsFilled before file → MayLeave file content → is_sealed content ≡ false
  filled_leaves before file content filled left = shut_leaves (filled.space ++ sections_bytes new_layout before) file content filled.shut left

  opening_leaves : (file : File) (content : List ℕ) → w.count ≡ w.stripes → IsOpening [] (written_of w sections) file → MayLeave file content → IsSealedOrNot w sections content
  opening_leaves file content all opening left =
      let behind = written_of w sections in
      let parts : (gate : ℕ) × (rest : List ℕ) × (content ≡ gate ∷ (behind ++ rest)) = left_opening [] behind file content opening left in
      elim (cases_eq parts.0 165) [
        | inl is_open ↦ inr (sealed content parts.1 all (parts.2 ∙ ap (λ k. k ∷ (behind ++ parts.1)) is_open))
        | inr closed ↦ inl (shut_unsealed parts.0 (behind ++ parts.1) content closed parts.2)
      ]

  settled_leaves : (file : File) (content : List ℕ) → IsSealed w sections file → MayLeave file content → IsCheckpoint new_layout (checkpoint_of w sections) content
  settled_leaves file content is left =
      subst (λ (l : List ℕ). IsCheckpoint new_layout (checkpoint_of w sections) l) (sym (rest_leaves is.content content (subst (λ f. MayLeave f content) is.settled left))) is.checkpoint

  -- in each phase
  pub reads_in : (phase : CheckpointPhase) (old : List ℕ) (file : File) → AtPhase phase w old sections file → (content : List ℕ) → MayLeave file content → MayRead phase w old sections content
  reads_in Idle old file at content left = tt
  reads_in Gate old file at content left = inl (rest_leaves old content (subst (λ f. MayLeave f content) at.1 left))
  reads_in GateWritten old file at content left = at.1.leaves content left
  reads_in GateSynced old file at content left = shut_leaves [] file content at.1 left
  reads_in Ready old file at content left = filled_leaves sections file content at.filled left
  reads_in Staged old file at content left = filled_leaves at.before file content at.filled left
  reads_in Header old file at content left = filled_leaves sections file content at.1.filled left
  reads_in HeaderWritten old file at content left = shut_leaves (written_of w sections) file content at.1 left
  reads_in HeaderSynced old file at content left = inl (shut_leaves (written_of w sections) file content at.1 left)
  reads_in Opened old file at content left = opening_leaves file content at.0 at.1 left
  reads_in Sealed old file at content left = settled_leaves file content at.1 left

  -- ---- the device call that is due

  abbrev PlacedIn : Option Call → File → Type 0
  PlacedIn None file = Unit {0}
  PlacedIn (Some call) file = IsPlaced call file

  filled_long : (before : List Section) (file : File) → IsFilled before file → 36 + length (sections_bytes new_layout before) ≤ length file.seen
  filled_long before file filled =
      omega (arith, shut_long [] (filled.space ++ sections_bytes new_layout before) file filled.shut, length-append filled.space (sections_bytes new_layout before), filled.size)

  -- the bytes before the staged section
  body_before : (file : File) → (staged : HasStaged w sections file) → w.body ≡ length (sections_bytes new_layout staged.before)
  body_before file staged =
      let push : sections_bytes new_layout sections ≡ sections_bytes new_layout staged.before ++ section_bytes new_layout staged.last =
      ap (sections_bytes new_layout) staged.parts ∙ sections_push new_layout staged.before staged.last in
      omega (arith, knows.body, ap length push, length-append (sections_bytes new_layout staged.before) (section_bytes new_layout staged.last), ap length staged.bytes)

  placed_in : (phase : CheckpointPhase) (old : List ℕ) (file : File) → AtPhase phase w old sections file → PlacedIn (call_in phase w) file
  placed_in Idle old file at = tt
  placed_in Gate old file at = omega arith
  placed_in GateWritten old file at = tt
  placed_in GateSynced old file at = omega (arith, shut_long [] [] file at.1)
  placed_in Ready old file at = tt
  placed_in Staged old file at = omega (arith, filled_long at.before file at.filled, body_before file at)
  placed_in Header old file at = omega (arith, filled_long sections file at.1.filled)
  placed_in HeaderWritten old file at = tt
  placed_in HeaderSynced old file at = omega arith
  placed_in Opened old file at = tt
  placed_in Sealed old file at = tt

  pub placed : (phase : CheckpointPhase) (old : List ℕ) (file : File) → AtPhase phase w old sections file → (call : Call) → call_in phase w ≡ Some call → IsPlaced call file
  placed phase old file at call due = subst (λ (o : Option Call). PlacedIn o file) due (placed_in phase old file at)

  -- ---- it succeeds

  abbrev called_in : Option Call → File → File
  called_in None file = file
  called_in (Some call) file = called call file

  none_left : (bytes : List ℕ) → length bytes ≡ 0 → bytes ≡ []
  none_left [] h = refl
  none_left (x ∷ bytes) h = absurd (omega (arith, h))

  kept : (phase : CheckpointPhase) → HasGiven (record w { phase = phase }) sections
  kept phase = record {
    count = knows.count;
    greatest = knows.greatest;
    body = knows.body;
    are = knows.are;
    marks = knows.marks;
    generation_fits = knows.generation_fits;
    low_fits = knows.low_fits;
    body_fits = knows.body_fits;
    allowed = knows.allowed;
  }

  -- what was staged is written
  kept_written : HasGiven (record w { phase = Ready; body = w.body + length w.section; section = [] }) sections
  kept_written = record {
    count = knows.count;
    greatest = knows.greatest;
    body = omega (arith, knows.body);
    are = knows.are;
    marks = knows.marks;
    generation_fits = knows.generation_fits;
    low_fits = knows.low_fits;
    body_fits = omega (arith, knows.body_fits);
    allowed = knows.allowed;
  }

  cleared_shut : (file : File) → IsShut [] [] file → IsShut [] (replicate 35 0) (written 1 (replicate 35 0) file)
  cleared_shut file shut = shut_written [] (replicate 35 0) file shut

  cleared : (file : File) → sections ≡ [] → IsShut [] [] file → HasFilled (record w { phase = Ready }) sections (written 1 (replicate 35 0) file)
  cleared file none_given shut =
      let empty : sections_bytes new_layout sections ≡ [] = ap (sections_bytes new_layout) none_given in
      record {
        none_staged = none_left w.section (omega (arith, knows.body, ap length empty));
        filled = record {
          space = replicate 35 0;
          size = length-replicate {A = ℕ} 35 0;
          shut = subst (λ (l : List ℕ). IsShut [] (replicate 35 0 ++ l) (written 1 (replicate 35 0) file)) (sym empty)
              (subst (λ (l : List ℕ). IsShut [] l (written 1 (replicate 35 0) file)) (sym (append-nil (replicate 35 0))) (cleared_shut file shut));
        };
      }

  section_filled : (file : File) → HasStaged w sections file → IsFilled sections (written (36 + w.body) w.section file)
  section_filled file staged =
      let space = staged.filled.space in
      let before = sections_bytes new_layout staged.before in
      let at : 1 + length (space ++ before) ≡ 36 + w.body = omega (arith, length-append space before, staged.filled.size, body_before file staged) in
      let bytes : (space ++ before) ++ w.section ≡ space ++ sections_bytes new_layout sections =
      append_assoc space before w.section
      ∙ ap (λ (l : List ℕ). space ++ (before ++ l)) staged.bytes
      ∙ ap (λ (l : List ℕ). space ++ l) (sym (ap (sections_bytes new_layout) staged.parts ∙ sections_push new_layout staged.before staged.last)) in
      record {
        space = space;
        size = staged.filled.size;
        shut = subst (λ n. IsShut [] (space ++ sections_bytes new_layout sections) (written n w.section file)) at
            (subst (λ (l : List ℕ). IsShut [] l (written (1 + length (space ++ before)) w.section file)) bytes (shut_more (space ++ before) w.section file staged.filled.shut));
      }

  abbrev header : List ℕ
  header = checkpoint_header new_layout w.generation w.low w.greatest w.stripes w.body

  header_shut : (file : File) → HasFilled w sections file → IsShut [] (written_of w sections) (written 1 header file)
  header_shut file has =
      let body = sections_bytes new_layout sections in
      let size : length header ≡ length has.filled.space = length-checkpoint_header new_layout w.generation w.low w.greatest w.stripes w.body ∙ sym has.filled.size in
      let body_is : w.body ≡ length body = omega (arith, knows.body, ap length has.none_staged) in
      let same : header ≡ checkpoint_header new_layout w.generation w.low (greatest_mark sections) w.stripes (length body) =
      ap (λ n. checkpoint_header new_layout w.generation w.low n w.stripes w.body) knows.greatest ∙ ap (λ n. checkpoint_header new_layout w.generation w.low (greatest_mark sections) w.stripes n) body_is in
      subst (λ (l : List ℕ). IsShut [] (l ++ body) (written 1 header file)) same (shut_over header has.filled.space body file size has.filled.shut)

  goes_in : (phase : CheckpointPhase) (old : List ℕ) (file : File) → w.phase ≡ phase → AtPhase phase w old sections file
      → Stands (state_after phase w) old sections (called_in (call_in phase w) file)
  goes_in Idle old file is at = record { knows = knows; stands = subst (λ p. AtPhase p w old sections file) (sym is) at }
  goes_in Gate old file is at = record {
    knows = kept GateWritten;
    stands = (at.0, subst (λ f. IsClosing old (written 0 (0 ∷ []) f)) (sym at.1) (closed_written old at.2));
  }
  goes_in GateWritten old file is at = record { knows = kept GateSynced; stands = (at.0, closing_synced old file at.1) }
  goes_in GateSynced old file is at = record { knows = kept Ready; stands = cleared file at.0 at.1 }
  goes_in Ready old file is at = record { knows = knows; stands = subst (λ p. AtPhase p w old sections file) (sym is) at }
  goes_in Staged old file is at = record { knows = kept_written; stands = record { none_staged = refl; filled = section_filled file at } }
  goes_in Header old file is at = record { knows = kept HeaderWritten; stands = (at.0, header_shut file at.1) }
  goes_in HeaderWritten old file is at =
      let behind = written_of w sections in
      record { knows = kept HeaderSynced; stands = (at.0, shut_synced [] behind file at.1, opening_synced [] behind at.1.rest at.1.gate file at.1.seen) }
  goes_in HeaderSynced old file is at =
      let behind = written_of w sections in
      record { knows = kept Opened; stands = (at.0, opening_written [] behind file at.2, (at.2.rest, gate_written [] behind file at.2)) }
  goes_in Opened old file is at = record {
    knows = kept Sealed;
    stands = (at.0, record { content = file.seen; settled = refl; checkpoint = sealed file.seen at.2.0 at.0 at.2.1 });
  }
  goes_in Sealed old file is at = record { knows = knows; stands = subst (λ p. AtPhase p w old sections file) (sym is) at }

  pub goes_to : (phase : CheckpointPhase) (old : List ℕ) (file : File) → w.phase ≡ phase → AtPhase phase w old sections file → (call : Call) → call_in phase w ≡ Some call
      → Stands (state_after phase w) old sections (called call file)
  goes_to phase old file is at call due = subst (λ (o : Option Call). Stands (state_after phase w) old sections (called_in o file)) due (goes_in phase old file is at)

  called_reads_in : (phase : CheckpointPhase) (old : List ℕ) (file : File) → AtPhase phase w old sections file
      → (content : List ℕ) → MayLeave (called_in (call_in phase w) file) content → MayRead phase w old sections content
  called_reads_in Idle old file at content left = tt
  called_reads_in Gate old file at content left =
      (closed_written old at.2).leaves content (subst (λ f. MayLeave (written 0 (0 ∷ []) f) content) at.1 left)
  called_reads_in GateWritten old file at content left = inr (shut_leaves [] (synced file) content (closing_synced old file at.1) left)
  called_reads_in GateSynced old file at content left = shut_leaves (replicate 35 0) (written 1 (replicate 35 0) file) content (cleared_shut file at.1) left
  called_reads_in Ready old file at content left = filled_leaves sections file content at.filled left
  called_reads_in Staged old file at content left = filled_leaves sections (written (36 + w.body) w.section file) content (section_filled file at) left
  called_reads_in Header old file at content left = shut_leaves (written_of w sections) (written 1 header file) content (header_shut file at.1) left
  called_reads_in HeaderWritten old file at content left =
      shut_leaves (written_of w sections) (synced file) content (shut_synced [] (written_of w sections) file at.1) left
  called_reads_in HeaderSynced old file at content left =
      opening_leaves (written 0 (165 ∷ []) file) content at.0 (opening_written [] (written_of w sections) file at.2) left
  called_reads_in Opened old file at content left =
      opening_leaves (synced file) content at.0 (opening_synced [] (written_of w sections) at.2.0 165 file at.2.1) left
  called_reads_in Sealed old file at content left = settled_leaves file content at.1 left

  pub called_reads : (phase : CheckpointPhase) (old : List ℕ) (file : File) → AtPhase phase w old sections file → (call : Call) → call_in phase w ≡ Some call
      → (content : List ℕ) → MayLeave (called call file) content → MayRead phase w old sections content
  called_reads phase old file at call due content left =
      called_reads_in phase old file at content (subst (λ (o : Option Call). MayLeave (called_in o file) content) (sym due) left)

  -- ---- it fails

  abbrev FailsIn : Option Call → File → File → Type 0
  FailsIn None old new = ⊥
  FailsIn (Some call) old new = MayFailTo call old new

  filled_torn : (before : List Section) (at : ℕ) (bytes : List ℕ) (file new : File) (content : List ℕ) → 1 ≤ at → IsFilled before file → IsTorn at bytes file new → MayLeave new content → is_sealed content ≡ false
  filled_torn before at bytes file new content h filled torn left =
      shut_leaves [] new content (shut_torn_behind at bytes file new h (shut_less (filled.space ++ sections_bytes new_layout before) file filled.shut) torn) left

  failed_reads_in : (phase : CheckpointPhase) (old : List ℕ) (file new : File) → AtPhase phase w old sections file → FailsIn (call_in phase w) file new
      → (content : List ℕ) → MayLeave new content → MayRead phase w old sections content
  failed_reads_in Idle old file new at fails content left = absurd fails
  failed_reads_in Gate old file new at fails content left = closed_torn old new at.2 (subst (λ f. IsTorn 0 (0 ∷ []) f new) at.1 fails) content left
  failed_reads_in GateWritten old file new at fails content left = at.1.leaves content (subst (λ f. MayLeave f content) fails left)
  failed_reads_in GateSynced old file new at fails content left =
      shut_leaves [] new content (shut_torn_behind 1 (replicate 35 0) file new (omega arith) at.1 fails) left
  failed_reads_in Ready old file new at fails content left = absurd fails
  failed_reads_in Staged old file new at fails content left =
      filled_torn at.before (36 + w.body) w.section file new content (omega arith) at.filled fails left
  failed_reads_in Header old file new at fails content left = filled_torn sections 1 header file new content (omega arith) at.1.filled fails left
  failed_reads_in HeaderWritten old file new at fails content left =
      shut_leaves (written_of w sections) file content at.1 (subst (λ f. MayLeave f content) fails left)
  failed_reads_in HeaderSynced old file new at fails content left =
      opening_leaves new content at.0 (opening_torn [] (written_of w sections) 165 file new at.2 fails) left
  failed_reads_in Opened old file new at fails content left = opening_leaves file content at.0 at.1 (subst (λ f. MayLeave f content) fails left)
  failed_reads_in Sealed old file new at fails content left = absurd fails

  pub failed_reads : (phase : CheckpointPhase) (old : List ℕ) (file new : File) → AtPhase phase w old sections file → (call : Call) → call_in phase w ≡ Some call → MayFailTo call file new
      → (content : List ℕ) → MayLeave new content → MayRead phase w old sections content
  failed_reads phase old file new at call due fails content left =
      failed_reads_in phase old file new at (subst (λ (o : Option Call). FailsIn o file new) (sym due) fails) content left
