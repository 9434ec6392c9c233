-- The logs of a checkpoint read in one way.
use Rattle.std.proofs.Common.{◌≡◌, ◌≤◌, ◌<◌, ℕ, ◌+◌, true, false, cond, nat_lt, Option, None, Some, List, ◌∷◌, ◌++◌, length, Result, Ok, Err, refl, sym, ap, ap₂, subst, ◌∙◌, append_assoc, arith}
use Rattle.std.specs.Prelude.{slice_index_or}
use Rattle.std.proofs.lemmas.Bool.Decides.{nat_tests}
use Rattle.std.proofs.lemmas.List.{length-append}
use Rattle.byteorder.specs.Endian.{big_bytes}
use Rattle.byteorder.specs.Numbers.{length-bytes_high_first}
use Rattle.map_types.specs.declared.refusals.Refusal.{Refusal}
use Rattle.log_records.specs.Layout.{Layout}
use Rattle.store_layout.specs.Logs.{Batch, IsLog, end_frame, header, is_read, log_file, log_front, opened}
use Rattle.store_layout.specs.Checkpoints.{Checkpoint, greatest_mark}
use Rattle.store_layout.specs.Readings.{HasHeader, IsBadHeader, too_short, wrong_version, wrong_generation, wrong_low, Reading, closed, ended, broken, Reads}
use Rattle.store_layout.specs.Opening.{Contents, log_layout, ReadsIn, next_low, newest_by, logged_by, AreLogs, damage_behind, AreBadLogs, bad_header, bad_frame, bad_next_header, bad_next_frame, second_end, below_mark}
use Rattle.store_layout.proofs.FrameLemmas.{same_number, same_rest}
use Rattle.store_layout.proofs.ReadingLemmas.{begins, one_reading}
use Rattle.store_layout.proofs.Versions.{room_for, read_for}

-- ---- headers

pub header_parts : (version generation low gate : ℕ) (rest : List ℕ) → (version ∷ (big_bytes 8 generation ++ big_bytes 8 low)) ++ gate ∷ rest ≡ version ∷ (big_bytes 8 generation ++ (big_bytes 8 low ++ gate ∷ rest))
header_parts version generation low gate rest = ap (λ (l : List ℕ). version ∷ l) (append_assoc (big_bytes 8 generation) (big_bytes 8 low) (gate ∷ rest))

one_header : (v g l v' g' l' : ℕ) (content : List ℕ) → HasHeader v g l content → HasHeader v' g' l' content → (v ≡ v') × (g ≡ g') × (l ≡ l')
one_header v g l v' g' l' content p q =
    let p_generation = p.generation_fits in
    let p_low = p.low_fits in
    let q_generation = q.generation_fits in
    let q_low = q.low_fits in
    let whole = sym (header_parts v g l p.gate p.rest) ∙ sym p.bytes ∙ q.bytes ∙ header_parts v' g' l' q.gate q.rest in
    let versions = same_rest v v' _ _ whole in
    let generations = same_number 8 g g' _ _ (omega arith) (omega arith) versions.1 in
    let lows = same_number 8 l l' _ _ (omega arith) (omega arith) generations.1 in
    (versions.0, generations.0, lows.0)

header_long : (v g l : ℕ) (content : List ℕ) → HasHeader v g l content → 18 ≤ length content
header_long v g l content h =
    let all : length content ≡ length (v ∷ (big_bytes 8 g ++ (big_bytes 8 l ++ h.gate ∷ h.rest))) = ap (λ (t : List ℕ). length t) (h.bytes ∙ header_parts v g l h.gate h.rest) in
    let a = length-append (big_bytes 8 g) (big_bytes 8 l ++ h.gate ∷ h.rest) in
    let b = length-append (big_bytes 8 l) (h.gate ∷ h.rest) in
    let c = length-bytes_high_first 8 g in
    let d = length-bytes_high_first 8 l in
    omega arith

read_or_not : (v v' : ℕ) → v ≡ v' → is_read v ≡ false → is_read v' ≡ true → ⊥
read_or_not v v' e w is = absurd (let clash : false ≡ true = sym w ∙ ap is_read e ∙ is in cc)

one_bad_header : (g l : ℕ) (content : List ℕ) (r r' : Refusal) → IsBadHeader g l content r → IsBadHeader g l content r' → r ≡ r'
one_bad_header g l content r r' (too_short p e) (too_short q e') = e ∙ sym e'
one_bad_header g l content r r' (too_short p e) (wrong_version v' h' m' q w' e') = let long = header_long v' h' m' content q in absurd (omega (arith, p, long))
one_bad_header g l content r r' (too_short p e) (wrong_generation v' h' m' q is' w' e') = let long = header_long v' h' m' content q in absurd (omega (arith, p, long))
one_bad_header g l content r r' (too_short p e) (wrong_low v' m' q is' w' e') = let long = header_long v' g m' content q in absurd (omega (arith, p, long))
one_bad_header g l content r r' (wrong_version v h m p w e) (too_short q e') = let long = header_long v h m content p in absurd (omega (arith, q, long))
one_bad_header g l content r r' (wrong_version v h m p w e) (wrong_version v' h' m' q w' e') = e ∙ sym e'
one_bad_header g l content r r' (wrong_version v h m p w e) (wrong_generation v' h' m' q is' w' e') = absurd (read_or_not v v' (one_header v h m v' h' m' content p q).0 w is')
one_bad_header g l content r r' (wrong_version v h m p w e) (wrong_low v' m' q is' w' e') = absurd (read_or_not v v' (one_header v h m v' g m' content p q).0 w is')
one_bad_header g l content r r' (wrong_generation v h m p is w e) (too_short q e') = let long = header_long v h m content p in absurd (omega (arith, q, long))
one_bad_header g l content r r' (wrong_generation v h m p is w e) (wrong_version v' h' m' q w' e') = absurd (read_or_not v' v (one_header v' h' m' v h m content q p).0 w' is)
one_bad_header g l content r r' (wrong_generation v h m p is w e) (wrong_generation v' h' m' q is' w' e') = e ∙ sym e'
one_bad_header g l content r r' (wrong_generation v h m p is w e) (wrong_low v' m' q is' w' e') = absurd (w (one_header v h m v' g m' content p q).1)
one_bad_header g l content r r' (wrong_low v m p is w e) (too_short q e') = let long = header_long v g m content p in absurd (omega (arith, q, long))
one_bad_header g l content r r' (wrong_low v m p is w e) (wrong_version v' h' m' q w' e') = absurd (read_or_not v' v (one_header v' h' m' v g m content q p).0 w' is)
one_bad_header g l content r r' (wrong_low v m p is w e) (wrong_generation v' h' m' q is' w' e') = absurd (w' (one_header v' h' m' v g m content q p).1)
one_bad_header g l content r r' (wrong_low v m p is w e) (wrong_low v' m' q is' w' e') = e ∙ sym e'

whole_header : (v g l : ℕ) (content : List ℕ) (r : Refusal) → HasHeader v g l content → is_read v ≡ true → IsBadHeader g l content r → ⊥
whole_header v g l content r h is (too_short p e) = let long = header_long v g l content h in omega (arith, p, long)
whole_header v g l content r h is (wrong_version v' g' l' q w e) = read_or_not v' v (one_header v' g' l' v g l content q h).0 w is
whole_header v g l content r h is (wrong_generation v' g' l' q is' w e) = w (one_header v' g' l' v g l content q h).1
whole_header v g l content r h is (wrong_low v' l' q is' w e) = w (one_header v' g l' v g l content q h).2

front_header : (layout : Layout) (g l : ℕ) (batches : List Batch) (x : ℕ) (xs content : List ℕ) → IsLog layout g l batches → content ≡ log_front layout g l batches ++ x ∷ xs → HasHeader layout.version g l content
unfolding header
front_header layout g l batches x xs content log e =
    let next = begins layout batches x xs in
    record {
      gate = next.0;
      rest = next.1;
      bytes = e ∙ append_assoc (header layout g l) (opened layout batches) (x ∷ xs) ∙ ap (λ (t : List ℕ). header layout g l ++ t) next.2;
      generation_fits = log.generation_fits;
      low_fits = log.low_fits;
    }

pub reads_header : (layout : Layout) (g l : ℕ) (content : List ℕ) (reading : Reading) → Reads layout g l content reading → HasHeader layout.version g l content
reads_header layout g l content (closed batches) h = front_header layout g l batches h.gate h.rest content h.log h.bytes
reads_header layout g l content (ended batches) h = front_header layout g l batches 165 (end_frame (g + 1) ++ h.after ∷ h.rest) content h.log h.bytes
reads_header layout g l content (broken batches) h = front_header layout g l batches 165 h.rest content h.log h.bytes

-- ---- one log

-- its header is bad, or it reads so
data Outcome : Type 0 where
  faulty : Refusal → Outcome
  whole : Reading → Outcome

abbrev IsOutcome : ℕ → ℕ → List ℕ → Outcome → Type 0
IsOutcome g l content (faulty r) = IsBadHeader g l content r
IsOutcome g l content (whole reading) = ReadsIn g l content reading

one_outcome : (g l : ℕ) (content : List ℕ) (a b : Outcome) → IsOutcome g l content a → IsOutcome g l content b → a ≡ b
one_outcome g l content (faulty r) (faulty r') p q = ap faulty (one_bad_header g l content r r' p q)
one_outcome g l content (faulty r) (whole b) p q = absurd (whole_header (log_layout content).version g l content r (reads_header (log_layout content) g l content b q) (read_for (slice_index_or content 0 0)) p)
one_outcome g l content (whole a) (faulty r') p q = absurd (whole_header (log_layout content).version g l content r' (reads_header (log_layout content) g l content a p) (read_for (slice_index_or content 0 0)) q)
one_outcome g l content (whole a) (whole b) p q = ap whole (one_reading (log_layout content) (room_for (slice_index_or content 0 0)) g l content a b p q)

-- ---- both logs

-- the first has not ended; or it has, and then the next counts
data Both : Type 0 where
  only : Outcome → Both
  behind : List Batch → Outcome → Both

abbrev NotEnded : Outcome → Type 0
NotEnded (faulty r) = Unit {0}
NotEnded (whole (closed batches)) = Unit {0}
NotEnded (whole (ended batches)) = ⊥
NotEnded (whole (broken batches)) = Unit {0}

abbrev AreBoth : Contents → Checkpoint → Both → Type 0
AreBoth contents k (only a) = IsOutcome k.generation k.low (contents (log_file k.generation)) a × NotEnded a
AreBoth contents k (behind first b) =
    ReadsIn k.generation k.low (contents (log_file k.generation)) (ended first)
    × IsOutcome (k.generation + 1) (next_low k first) (contents (log_file (k.generation + 1))) b

batches_in : Reading → List Batch
batches_in (closed batches) = batches
batches_in (ended batches) = batches
batches_in (broken batches) = batches

one_both : (contents : Contents) (k : Checkpoint) (a b : Both) → AreBoth contents k a → AreBoth contents k b → a ≡ b
unfolding batches_in
one_both contents k (only a) (only b) p q = ap only (one_outcome k.generation k.low (contents (log_file k.generation)) a b p.0 q.0)
one_both contents k (only a) (behind first b) p q =
    absurd (subst NotEnded (one_outcome k.generation k.low (contents (log_file k.generation)) a (whole (ended first)) p.0 q.0) p.1)
one_both contents k (behind first a) (only b) p q =
    absurd (subst NotEnded (one_outcome k.generation k.low (contents (log_file k.generation)) b (whole (ended first)) q.0 p.0) q.1)
one_both contents k (behind first a) (behind first' b) p q =
    let same : first ≡ first' = ap batches_in (one_reading (log_layout (contents (log_file k.generation))) (room_for (slice_index_or (contents (log_file k.generation)) 0 0)) k.generation k.low (contents (log_file k.generation)) (ended first) (ended first') p.0 q.0) in
    let next = one_outcome (k.generation + 1) (next_low k first) (contents (log_file (k.generation + 1))) a b p.1
    (subst (λ (l : List Batch). IsOutcome (k.generation + 1) (next_low k l) (contents (log_file (k.generation + 1))) b) (sym same) q.1) in
    ap₂ behind same next

-- what is found in logs that are whole, or the refusal
abbrev Found : Type 0
Found = Result (List Batch × Option (List Batch)) Refusal

abbrev reached : Contents → Checkpoint → List Batch → Option (List Batch) → Found
reached contents k first second = cond (nat_lt (k.low + length (logged_by first second)) (greatest_mark k.sections)) (Err (damage_behind contents (newest_by k first second))) (Ok (first, second))

abbrev verdict : Contents → Checkpoint → Both → Found
verdict contents k (only (faulty r)) = Err r
verdict contents k (only (whole (closed first))) = reached contents k first None
verdict contents k (only (whole (ended first))) = Err (damage_behind contents (newest_by k first None))
verdict contents k (only (whole (broken first))) = Err (damage_behind contents (newest_by k first None))
verdict contents k (behind first (faulty r)) = Err r
verdict contents k (behind first (whole (closed second))) = reached contents k first (Some second)
verdict contents k (behind first (whole (ended second))) = Err (damage_behind contents (newest_by k first (Some second)))
verdict contents k (behind first (whole (broken second))) = Err (damage_behind contents (newest_by k first (Some second)))

pub record LogsGive (contents : Contents) (k : Checkpoint) (found : Result (List Batch × Option (List Batch)) Refusal) : Type 0 where
  both : Both
  are : AreBoth contents k both
  gives : verdict contents k both ≡ found

pub one_give : (contents : Contents) (k j : Checkpoint) (a b : Result (List Batch × Option (List Batch)) Refusal) → k ≡ j → LogsGive contents k a → LogsGive contents j b → a ≡ b
one_give contents k j a b same p q =
    let q' = subst (λ (k : Checkpoint). LogsGive contents k b) (sym same) q in
    sym p.gives ∙ ap (verdict contents k) (one_both contents k p.both q'.both p.are q'.are) ∙ q'.gives

pub good_logs : (contents : Contents) (k : Checkpoint) (first : List Batch) (second : Option (List Batch)) → AreLogs contents k first second
    → greatest_mark k.sections ≤ k.low + length (logged_by first second) → LogsGive contents k (Ok (first, second))
good_logs contents k first None logs up =
    let no : nat_lt (k.low + length (logged_by first None)) (greatest_mark k.sections) ≡ false = grind (arith, nat_tests, up) in
    record {
      both = only (whole (closed first));
      are = (logs, tt);
      gives = ap (λ b. cond b (Err (damage_behind contents (newest_by k first None))) (Ok (first, None))) no;
    }
good_logs contents k first (Some second) logs up =
    let no : nat_lt (k.low + length (logged_by first (Some second))) (greatest_mark k.sections) ≡ false = grind (arith, nat_tests, up) in
    record {
      both = behind first (whole (closed second));
      are = (logs.0, logs.1);
      gives = ap (λ b. cond b (Err (damage_behind contents (newest_by k first (Some second)))) (Ok (first, Some second))) no;
    }

below : (contents : Contents) (k : Checkpoint) (refusal : Refusal) (first : List Batch) (second : Option (List Batch)) → AreLogs contents k first second
    → k.low + length (logged_by first second) < greatest_mark k.sections → refusal ≡ damage_behind contents (newest_by k first second) → LogsGive contents k (Err refusal)
below contents k refusal first None logs low place =
    let is : nat_lt (k.low + length (logged_by first None)) (greatest_mark k.sections) ≡ true = grind (arith, nat_tests, low) in
    record {
      both = only (whole (closed first));
      are = (logs, tt);
      gives = ap (λ b. cond b (Err (damage_behind contents (newest_by k first None))) (Ok (first, None))) is ∙ ap (λ r. Err r) (sym place);
    }
below contents k refusal first (Some second) logs low place =
    let is : nat_lt (k.low + length (logged_by first (Some second))) (greatest_mark k.sections) ≡ true = grind (arith, nat_tests, low) in
    record {
      both = behind first (whole (closed second));
      are = (logs.0, logs.1);
      gives = ap (λ b. cond b (Err (damage_behind contents (newest_by k first (Some second)))) (Ok (first, Some second))) is ∙ ap (λ r. Err r) (sym place);
    }

pub bad_logs_give : (contents : Contents) (k : Checkpoint) (refusal : Refusal) → AreBadLogs contents k refusal → LogsGive contents k (Err refusal)
bad_logs_give contents k refusal (bad_header bad) = record { both = only (faulty refusal); are = (bad, tt); gives = refl }
bad_logs_give contents k refusal (bad_frame first reads place) = record { both = only (whole (broken first)); are = (reads, tt); gives = ap (λ r. Err r) (sym place) }
bad_logs_give contents k refusal (bad_next_header first reads bad) = record { both = behind first (faulty refusal); are = (reads, bad); gives = refl }
bad_logs_give contents k refusal (bad_next_frame first second reads next place) = record { both = behind first (whole (broken second)); are = (reads, next); gives = ap (λ r. Err r) (sym place) }
bad_logs_give contents k refusal (second_end first second reads next place) = record { both = behind first (whole (ended second)); are = (reads, next); gives = ap (λ r. Err r) (sym place) }
bad_logs_give contents k refusal (below_mark first second logs low place) = below contents k refusal first second logs low place
