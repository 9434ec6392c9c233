-- Files that are refused.
use Rattle.std.proofs.Common.{◌≡◌, inl, ℕ, List, [], ◌∷◌, ◌++◌, length, None, Some, refl, sym, ap, arith}
use Rattle.std.proofs.lemmas.List.{length-append}
use Rattle.std.specs.FinMap as finite
use Rattle.std.specs.List.Sorted.{IsStrictlySortedBy}
use Rattle.byteorder.specs.Endian.{big_bytes}
use Rattle.map_types.specs.declared.texts.Value.{Value}
use Rattle.map_model.specs.Maps.{Entries}
use Rattle.log_records.specs.Layout.{first_layout}
use Rattle.log_records.specs.Spelling.{key_bytes, value_bytes}
use Rattle.store_layout.specs.Logs.{Batch, IsClosed, end_frame, frame, header}
use Rattle.store_layout.specs.Checkpoints.{entry_bytes, marked_bytes}
use Rattle.store_layout.specs.Readings.{too_short, wrong_generation}
use Rattle.store_layout.specs.Faults.{HasBadEntry, bad_entry, left_over, bad_section, bad_marks}
use Rattle.store_layout.specs.Opening.{empty_section, first_checkpoint, bad_header, bad_frame, below_mark, bad_checkpoint, bad_logs}
use Rattle.store_layout.specs.Examples.{eight, four, MissingEntry, ByteLeftOver, OtherGreatestMark, NoLog, OtherLog, NoFrame, BelowMark}
use Rattle.store_layout.proofs.NewStores.{no_entries, sections, section_size}
use Rattle.store_layout.proofs.FirstExamples.{new_sealed}
use Rattle.store_layout.proofs.CheckpointExamples.{next_sealed, next_k}

-- ---- the sections

no_bytes : (entry : List ℕ × Value) (others : List ℕ) → [] ≡ entry_bytes first_layout entry ++ others → ⊥
no_bytes entry others e =
    let all : length {A = ℕ} [] ≡ length (entry_bytes first_layout entry ++ others) = ap (λ (l : List ℕ). length l) e in
    let x = length-append (entry_bytes first_layout entry) others in
    let y = length-append (key_bytes first_layout entry.0) (value_bytes (Some entry.1)) in
    let z = length-append (big_bytes 1 (length entry.0)) entry.0 in
    omega (arith, all, x, y, z)

missing : HasBadEntry first_layout 1 0 (eight 0 ++ four 1) 12
unfolding IsStrictlySortedBy
missing = record {
  mark = 0;
  count = 1;
  mark_fits = omega arith;
  count_fits = omega arith;
  before = [];
  are = record { each = tt; rising = tt };
  rest = [];
  spelled = refl;
  fewer = omega arith;
  none_next = λ entry others e are. no_bytes entry others e;
  place = refl;
}

pub missing_entry : MissingEntry
missing_entry = bad_checkpoint refl (bad_section 12 refl (record { before = []; are = tt; rest = eight 0 ++ four 1; spelled = refl; distance = 12; fault = bad_entry (omega arith) missing; place = refl }) refl)

empty_bytes : eight 0 ++ four 0 ≡ marked_bytes first_layout 0 (finite.entries empty_section.map)
unfolding marked_bytes
empty_bytes = ap (λ (es : Entries). marked_bytes first_layout 0 es) (sym no_entries)

pub byte_left_over : ByteLeftOver
byte_left_over =
    bad_checkpoint refl (bad_section 12 refl
    (record {
      before = empty_section ∷ [];
      are = sections first_layout 1 0 0 1;
      rest = 0 ∷ [];
      spelled = ap (λ (l : List ℕ). (l ++ []) ++ 0 ∷ []) empty_bytes;
      distance = 0;
      fault = left_over refl (omega arith) refl;
      place = let size = section_size first_layout in let all = length-append (marked_bytes first_layout 0 (finite.entries empty_section.map)) [] in omega (arith, size, all);
    }) refl)

pub other_greatest_mark : OtherGreatestMark
other_greatest_mark =
    bad_checkpoint refl (bad_marks refl
    (record {
      sections = empty_section ∷ [];
      are = sections first_layout 1 0 0 1;
      one_each = refl;
      spelled = ap (λ (l : List ℕ). l ++ []) empty_bytes;
      wrong = inl (λ e. omega (arith, e));
    }) refl)

-- ---- the logs

pub no_log : NoLog
no_log = bad_logs (first_checkpoint 1) refl new_sealed (bad_header (too_short (omega arith) refl))

pub other_log : OtherLog
other_log =
    bad_logs (first_checkpoint 1) refl new_sealed
    (bad_header (wrong_generation 1 2 4 (record { gate = 0; rest = []; bytes = refl; generation_fits = omega arith; low_fits = omega arith }) refl (λ e. omega (arith, e)) refl))

no_frame_bytes : (batch : Batch) (after : ℕ) (behind : List ℕ) → [] ≡ frame first_layout batch ++ after ∷ behind → ⊥
no_frame_bytes batch after behind e =
    let all : length {A = ℕ} [] ≡ length (frame first_layout batch ++ after ∷ behind) = ap (λ (l : List ℕ). length l) e in
    let x = length-append (frame first_layout batch) (after ∷ behind) in
    omega (arith, all, x)

no_end_bytes : (next after : ℕ) (behind : List ℕ) → [] ≡ end_frame next ++ after ∷ behind → ⊥
no_end_bytes next after behind e =
    let all : length {A = ℕ} [] ≡ length (end_frame next ++ after ∷ behind) = ap (λ (l : List ℕ). length l) e in
    let x = length-append (end_frame next) (after ∷ behind) in
    omega (arith, all, x)

pub no_frame : NoFrame
unfolding header
no_frame =
    bad_logs (first_checkpoint 1) refl new_sealed
    (bad_frame []
    (record {
      rest = [];
      bytes = refl;
      no_frame = record { no_batch = λ batch after behind _ _ e. no_frame_bytes batch after behind e; no_end = λ after behind _ e. no_end_bytes 1 after behind e };
      log = record { generation_fits = omega arith; low_fits = omega arith; in_order = tt };
    }) refl)

short_log : IsClosed first_layout 1 0 [] (1 ∷ (eight 1 ++ (eight 0 ++ 0 ∷ [])))
unfolding header
short_log = record { gate = 0; rest = []; bytes = refl; closed = λ e. omega (arith, e); log = record { generation_fits = omega arith; low_fits = omega arith; in_order = tt } }

pub below : BelowMark
unfolding header
below = bad_logs next_k refl next_sealed (below_mark [] None short_log (omega arith) refl)
