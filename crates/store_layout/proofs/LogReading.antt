-- A log file has a bad header, or reads as closed, ended or broken.
use Rattle.std.proofs.Common.{◌≡◌, ◌≢◌, ◌⊎◌, inl, inr, ◌≤◌, ◌<◌, ℕ, zero, suc, ◌+◌, ◌^◌, Bool, true, false, ◌&&◌, ◌==◌, nat_le, nat_lt, List, [], ◌∷◌, ◌++◌, length, take, drop, refl, sym, ap, ap₂, subst, ◌∙◌, append_assoc, take-append-drop, arith, length-drop}
use Rattle.std.proofs.lemmas.Bool.{cases_lt, eqb-true, eqb-false}
use Rattle.std.proofs.lemmas.Bool.Decides.{nat_tests}
use Rattle.std.proofs.lemmas.List.{length-append, drop_at, take_at}
use Rattle.byteorder.specs.Endian.{big_number, big_bytes}
use Rattle.map_types.specs.declared.refusals.Refusal.{Refusal}
use Rattle.map_types.specs.declared.refusals.Refusal.TheVariants.{Damaged, WrongVersion}
use Rattle.map_types.specs.declared.commands.Command.{Command}
use Rattle.map_model.proofs.MapLaws.{ties, same_from_ties}
use Rattle.map_model.proofs.KeyLaws.{ties_itself}
use Rattle.log_records.specs.Layout.{Layout, IsLayout}
use Rattle.log_records.specs.Agreement.{IsBytes}
use Rattle.log_records.proofs.Digits.{IsBytes-rest, IsBytes-drop}
use Rattle.store_layout.specs.Logs.{Batch, IsBatch, IsRun, IsLog, commands_in, end_frame, frame, header, is_read, log_file, log_front, opened, records_bytes}
use Rattle.store_layout.specs.Readings.{HasHeader, IsBadHeader, too_short, wrong_version, wrong_generation, wrong_low, HasNoFrame, Reading, closed, ended, broken, Reads}
use Rattle.store_layout.proofs.LogLemmas.{length-end_frame, length-frame}
use Rattle.store_layout.proofs.FrameLemmas.{same_number, same_records, same_rest, frame_parts}
use Rattle.store_layout.proofs.ReadingLemmas.{opened_parts, more_commands}
use Rattle.store_layout.proofs.LogOutcomes.{header_parts}
use Rattle.store_layout.proofs.CheckpointReading.{next_field, number_fits, both_true}
use Rattle.store_layout.proofs.Looking.{Rows, read_records}

-- ---- the header

abbrev ToldHeader : ℕ → ℕ → List ℕ → Type 0
ToldHeader g l content = ((v : ℕ) × (is_read v ≡ true) × HasHeader v g l content) ⊎ ((refusal : Refusal) × IsBadHeader g l content refusal)

module _ (version : ℕ) (rest : List ℕ) (fits : IsBytes rest) (long : 17 ≤ length rest) where
  abbrev generation : ℕ
  generation = big_number 8 (drop 0 rest)

  abbrev low : ℕ
  low = big_number 8 (drop 8 rest)

  has_header : HasHeader version generation low (version ∷ rest)
  has_header = by (drop 16 rest) refl
    where
      by : (l : List ℕ) → drop 16 rest ≡ l → HasHeader version generation low (version ∷ rest)
      by [] e = absurd (let none : length (drop 16 rest) ≡ 0 = ap (λ (l : List ℕ). length l) e in omega (arith, none, length-drop 16 rest, long))
      by (gate ∷ behind) e =
          let g = number_fits 8 0 rest fits in
          let l = number_fits 8 8 rest fits in
          record {
            gate = gate;
            rest = behind;
            bytes = ap (λ (t : List ℕ). version ∷ t)
                (next_field 8 0 rest (omega (arith, long)) fits ∙ ap (λ (t : List ℕ). big_bytes 8 generation ++ t) (next_field 8 8 rest (omega (arith, long)) fits ∙ ap (λ (t : List ℕ). big_bytes 8 low ++ t) e))
                ∙ sym (header_parts version generation low gate behind);
            generation_fits = omega (arith, g);
            low_fits = omega (arith, l);
          }

  told_header : (g l : ℕ) → ToldHeader g l (version ∷ rest)
  told_header g l = by (is_read version) (generation == g) (low == l) refl refl refl
    where
      by : (x y z : Bool) → is_read version ≡ x → (generation == g) ≡ y → (low == l) ≡ z → ToldHeader g l (version ∷ rest)
      by false y z p q r = inr (WrongVersion, wrong_version version generation low has_header p refl)
      by true false z p q r = inr (Damaged (log_file g) 1, wrong_generation version generation low has_header p (eqb-false _ _ q) refl)
      by true true false p q r =
          inr (Damaged (log_file g) 9, wrong_low version low (subst (λ n. HasHeader version n low (version ∷ rest)) (eqb-true _ _ q) has_header) p (eqb-false _ _ r) refl)
      by true true true p q r =
          inl (version, p, subst (λ n. HasHeader version g n (version ∷ rest)) (eqb-true _ _ r) (subst (λ n. HasHeader version n low (version ∷ rest)) (eqb-true _ _ q) has_header))

read_header : (g l : ℕ) (content : List ℕ) → IsBytes content → ToldHeader g l content
read_header g l [] fits = inr (Damaged (log_file g) 0, too_short (omega arith) refl)
read_header g l (version ∷ rest) fits = elim (cases_lt (length rest) 17) as (λ _. ToldHeader g l (version ∷ rest)) [
  | inl short ↦ inr (Damaged (log_file g) 0, too_short (omega (arith, short)) refl)
  | inr long ↦ told_header version rest (IsBytes-rest version rest fits) long g l
]

-- ---- a batch

module _ (layout : Layout) (room : IsLayout layout) (expected : ℕ) where
  record AtBatch (bytes : List ℕ) : Type 0 where
    batch : Batch
    after : ℕ
    behind : List ℕ
    is : IsBatch layout batch
    first : batch.first ≡ expected
    spelled : bytes ≡ frame layout batch ++ after ∷ behind
    rest_fits : IsBytes (after ∷ behind)

  abbrev NoBatch : List ℕ → Type 0
  NoBatch bytes = (batch : Batch) (after : ℕ) (behind : List ℕ) → IsBatch layout batch → batch.first ≡ expected → bytes ≡ frame layout batch ++ after ∷ behind → ⊥

  module _ (kind : ℕ) (rest : List ℕ) (fits : IsBytes rest) (long : 16 ≤ length rest) where
    abbrev size : ℕ
    size = big_number 4 (drop 0 rest)

    abbrev first : ℕ
    first = big_number 8 (drop 4 rest)

    abbrev count : ℕ
    count = big_number 4 (drop 12 rest)

    parts : kind ∷ rest ≡ kind ∷ (big_bytes 4 size ++ (big_bytes 8 first ++ (big_bytes 4 count ++ drop 16 rest)))
    parts = ap (λ (l : List ℕ). kind ∷ l)
        (next_field 4 0 rest (omega (arith, long)) fits ∙ ap (λ (l : List ℕ). big_bytes 4 size ++ l)
        (next_field 8 4 rest (omega (arith, long)) fits ∙ ap (λ (l : List ℕ). big_bytes 8 first ++ l) (next_field 4 12 rest (omega (arith, long)) fits)))

    -- what any batch that stands here says
    record Says (batch : Batch) (after : ℕ) (behind : List ℕ) : Type 0 where
      kind_is : kind ≡ 1
      size_is : size ≡ 12 + length (records_bytes layout batch.commands)
      first_is : first ≡ batch.first
      count_is : count ≡ length batch.commands
      records : drop 16 rest ≡ records_bytes layout batch.commands ++ after ∷ behind

    says : (batch : Batch) (after : ℕ) (behind : List ℕ) → IsBatch layout batch → kind ∷ rest ≡ frame layout batch ++ after ∷ behind → Says batch after behind
    says batch after behind is e =
        let whole = sym parts ∙ e ∙ frame_parts layout batch (after ∷ behind) in
        let short = is.short in
        let len = length-frame layout batch in
        let few = is.few in
        let tickets = is.fits in
        let s = number_fits 4 0 rest fits in
        let f = number_fits 8 4 rest fits in
        let c = number_fits 4 12 rest fits in
        let kinds = same_rest kind 1 _ _ whole in
        let sizes = same_number 4 size (12 + length (records_bytes layout batch.commands)) _ _ s (omega (arith, short, len)) kinds.1 in
        let firsts = same_number 8 first batch.first _ _ f (omega (arith, tickets)) sizes.1 in
        let counts = same_number 4 count (length batch.commands) _ _ c (omega (arith, few)) firsts.1 in
        record { kind_is = kinds.0; size_is = sizes.0; first_is = firsts.0; count_is = counts.0; records = counts.1 }

    abbrev test : ℕ → Bool
    test records =
        (kind == 1) && ((size == 12 + records) && ((first == expected) && (nat_lt (first + count) (2 ^ 64) && (nat_le 1 count && (nat_le count 65536 && nat_le (17 + records) 1048576)))))

    passes : (n : ℕ) → kind ≡ 1 → size ≡ 12 + n → first ≡ expected → first + count < 2 ^ 64 → 1 ≤ count → count ≤ 65536 → 17 + n ≤ 1048576 → test n ≡ true
    passes n a b c d e f g = grind (arith, nat_tests, a, b, c, d, e, f, g)

    record Passes (n : ℕ) : Type 0 where
      kind_is : kind ≡ 1
      size_is : size ≡ 12 + n
      first_is : first ≡ expected
      fits_is : first + count < 2 ^ 64
      some_is : 1 ≤ count
      few_is : count ≤ 65536
      short_is : 17 + n ≤ 1048576

    passed : (n : ℕ) → test n ≡ true → Passes n
    passed n e =
        let a = both_true _ _ e in
        let b = both_true _ _ a.1 in
        let c = both_true _ _ b.1 in
        let d = both_true _ _ c.1 in
        let f = both_true _ _ d.1 in
        let g = both_true _ _ f.1 in
        record {
          kind_is = eqb-true _ _ a.0;
          size_is = eqb-true _ _ b.0;
          first_is = eqb-true _ _ c.0;
          fits_is = (let h : nat_lt (first + count) (2 ^ 64) ≡ true = d.0 in grind (arith, nat_tests, h));
          some_is = (let h : nat_le 1 count ≡ true = f.0 in grind (arith, nat_tests, h));
          few_is = (let h : nat_le count 65536 ≡ true = g.0 in grind (arith, nat_tests, h));
          short_is = (let h : nat_le (17 + n) 1048576 ≡ true = g.1 in grind (arith, nat_tests, h));
        }

    abbrev ToldBatch : Type 0
    ToldBatch = AtBatch (kind ∷ rest) ⊎ NoBatch (kind ∷ rest)

    -- another batch here has the same records
    others_same : (rows : Rows layout room count (drop 16 rest)) (batch : Batch) (after : ℕ) (behind : List ℕ) → IsBatch layout batch → Says batch after behind → (rows.commands ≡ batch.commands) × (rows.rest ≡ after ∷ behind)
    others_same rows batch after behind is h =
        same_records layout room rows.commands batch.commands rows.rest (after ∷ behind) rows.well_formed is.well_formed (rows.so_many ∙ h.count_is) (sym rows.spelled ∙ h.records)

    at_batch : (rows : Rows layout room count (drop 16 rest)) (after : ℕ) (behind : List ℕ) → rows.rest ≡ after ∷ behind → Passes (length (records_bytes layout rows.commands)) → AtBatch (kind ∷ rest)
    at_batch rows after behind e p =
        let batch : Batch = record { first = first; commands = rows.commands } in
        let many = rows.so_many in
        let fits_is = p.fits_is in
        let some_is = p.some_is in
        let few_is = p.few_is in
        let short_is = p.short_is in
        record {
          batch = batch;
          after = after;
          behind = behind;
          is = record {
            fits = omega (arith, many, fits_is);
            some = omega (arith, many, some_is);
            few = omega (arith, many, few_is);
            short = omega (arith, short_is, length-frame layout batch);
            well_formed = rows.well_formed;
          };
          first = p.first_is;
          spelled = parts
              ∙ ap₂ (λ (k n : ℕ). k ∷ (big_bytes 4 n ++ (big_bytes 8 first ++ (big_bytes 4 count ++ drop 16 rest)))) p.kind_is p.size_is
              ∙ ap₂ (λ (n : ℕ) (l : List ℕ). 1 ∷ (big_bytes 4 (12 + length (records_bytes layout rows.commands)) ++ (big_bytes 8 first ++ (big_bytes 4 n ++ l)))) (sym many) (rows.spelled ∙ ap (λ (l : List ℕ). records_bytes layout rows.commands ++ l) e)
              ∙ sym (frame_parts layout batch (after ∷ behind));
          rest_fits = subst IsBytes e rows.rest_fits;
        }

    by_rows : (rows : Rows layout room count (drop 16 rest)) → ToldBatch
    by_rows rows = by rows.rest refl (test (length (records_bytes layout rows.commands))) refl
      where
        by : (l : List ℕ) → rows.rest ≡ l → (x : Bool) → test (length (records_bytes layout rows.commands)) ≡ x → ToldBatch
        by [] e x t = inr (λ batch after behind is first_is f.
            let same = (others_same rows batch after behind is (says batch after behind is f)).1 in
            let clash : 0 ≡ length (after ∷ behind) = ap (λ (l : List ℕ). length l) (sym e ∙ same) in omega (arith, clash))
        by (after ∷ behind) e true t = inl (at_batch rows after behind e (passed (length (records_bytes layout rows.commands)) t))
        by (after ∷ behind) e false t = inr (λ batch after' behind' is first_is f.
            let h = says batch after' behind' is f in
            let same : rows.commands ≡ batch.commands = (others_same rows batch after' behind' is h).0 in
            let n : length (records_bytes layout rows.commands) ≡ length (records_bytes layout batch.commands) = ap (λ (cs : List Command). length (records_bytes layout cs)) same in
            let kind_is = h.kind_is in
            let size_is = h.size_is in
            let f_is = h.first_is in
            let count_is = h.count_is in
            let tickets = is.fits in
            let some = is.some in
            let few = is.few in
            let short = is.short in
            let yes_it_is = passes (length (records_bytes layout rows.commands)) kind_is (omega (arith, size_is, n)) (omega (arith, f_is, first_is)) (omega (arith, tickets, f_is, count_is)) (omega (arith, some, count_is)) (omega (arith, few, count_is))
            (omega (arith, short, length-frame layout batch, n)) in
            let clash : true ≡ false = sym yes_it_is ∙ t in absurd cc)

    by_count : ToldBatch
    by_count = elim (read_records layout room count (drop 16 rest) (IsBytes-drop 16 rest fits)) as (λ _. ToldBatch) [
      | inl rows ↦ by_rows rows
      | inr none ↦ inr (λ batch after behind is first_is f. let h = says batch after behind is f in none batch.commands (after ∷ behind) (sym h.count_is) is.well_formed h.records)
    ]

  read_batch : (bytes : List ℕ) → IsBytes bytes → AtBatch bytes ⊎ NoBatch bytes
  read_batch [] fits = inr (λ batch after behind is first_is f.
      let clash : 0 ≡ length (frame layout batch ++ after ∷ behind) = ap (λ (l : List ℕ). length l) f in omega (arith, clash, length-append (frame layout batch) (after ∷ behind)))
  read_batch (kind ∷ rest) fits = elim (cases_lt (length rest) 16) as (λ _. AtBatch (kind ∷ rest) ⊎ NoBatch (kind ∷ rest)) [
    | inr long ↦ by_count kind rest (IsBytes-rest kind rest fits) long
    | inl short ↦ inr (λ batch after behind is first_is f.
        let clash : length (kind ∷ rest) ≡ length (frame layout batch ++ after ∷ behind) = ap (λ (l : List ℕ). length l) f in
        omega (arith, clash, short, length-append (frame layout batch) (after ∷ behind), length-frame layout batch))
  ]

-- ---- an end

record AtEnd (next : ℕ) (bytes : List ℕ) : Type 0 where
  after : ℕ
  behind : List ℕ
  next_fits : next < 2 ^ 64
  spelled : bytes ≡ end_frame next ++ after ∷ behind

abbrev NoEnd : ℕ → List ℕ → Type 0
NoEnd next bytes = (after : ℕ) (behind : List ℕ) → next < 2 ^ 64 → bytes ≡ end_frame next ++ after ∷ behind → ⊥

read_end : (next : ℕ) (bytes : List ℕ) → AtEnd next bytes ⊎ NoEnd next bytes
read_end next bytes = by (drop 13 bytes) (nat_lt next (2 ^ 64)) (ties (take 13 bytes) (end_frame next)) refl refl refl
  where
    by : (l : List ℕ) (x y : Bool) → drop 13 bytes ≡ l → nat_lt next (2 ^ 64) ≡ x → ties (take 13 bytes) (end_frame next) ≡ y → AtEnd next bytes ⊎ NoEnd next bytes
    by [] x y e p q = inr (λ after behind fits is.
        let clash : length bytes ≡ length (end_frame next ++ after ∷ behind) = ap (λ (l : List ℕ). length l) is in
        let none : length (drop 13 bytes) ≡ 0 = ap (λ (l : List ℕ). length l) e in
        omega (arith, clash, none, length-drop 13 bytes, length-append (end_frame next) (after ∷ behind), length-end_frame next))
    by (after ∷ behind) false y e p q = inr (λ after behind fits is. let never : nat_lt next (2 ^ 64) ≡ true = grind (arith, nat_tests, fits) in let clash : true ≡ false = sym never ∙ p in absurd cc)
    by (after ∷ behind) true false e p q = inr (λ after behind fits is.
        let same : take 13 bytes ≡ end_frame next = ap (λ (l : List ℕ). take 13 l) is ∙ take_at (end_frame next) (after ∷ behind) 13 (length-end_frame next) in
        let clash : true ≡ false = sym (ap (λ (l : List ℕ). ties l (end_frame next)) same ∙ ties_itself (end_frame next)) ∙ q in absurd cc)
    by (after ∷ behind) true true e p q = inl (record {
      after = after;
      behind = behind;
      next_fits = grind (arith, nat_tests, p);
      spelled = sym (take-append-drop 13 bytes) ∙ ap₂ (λ (x y : List ℕ). x ++ y) (same_from_ties (take 13 bytes) (end_frame next) q) e;
    })

-- ---- a run of batches, and what ends it

module _ (layout : Layout) (room : IsLayout layout) (next : ℕ) where
  abbrev Stop : ℕ → ℕ → List ℕ → Type 0
  Stop expected byte rest = (byte ≢ 165) ⊎ ((byte ≡ 165) × (AtEnd next rest ⊎ HasNoFrame layout expected next rest))

  record Run (low : ℕ) (first_byte : ℕ) (first_rest : List ℕ) : Type 0 where
    batches : List Batch
    byte : ℕ
    rest : List ℕ
    run : IsRun layout low batches
    spelled : first_byte ∷ first_rest ≡ opened layout batches ++ byte ∷ rest
    stop : Stop (low + length (commands_in batches)) byte rest

  none_run : (low byte : ℕ) (rest : List ℕ) → Stop low byte rest → Run low byte rest
  none_run low byte rest stop = record { batches = []; byte = byte; rest = rest; run = tt; spelled = refl; stop = subst (λ n. Stop n byte rest) (omega arith) stop }

  open_run : (low byte : ℕ) (rest : List ℕ) → byte ≡ 165 → NoBatch layout room low rest → Run low byte rest
  open_run low byte rest e none = elim (read_end next rest) as (λ _. Run low byte rest) [
    | inl end ↦ none_run low byte rest (inr (e, inl end))
    | inr no_end ↦ none_run low byte rest (inr (e, inr (record { no_batch = none; no_end = no_end })))
  ]

  more_run : (low byte : ℕ) (rest : List ℕ) → byte ≡ 165 → (at : AtBatch layout room low rest) → Run (low + length at.batch.commands) at.after at.behind → Run low byte rest
  more_run low byte rest e at r = record {
    batches = at.batch ∷ r.batches;
    byte = r.byte;
    rest = r.rest;
    run = (at.is, at.first, r.run);
    spelled = ap₂ (λ (b : ℕ) (l : List ℕ). b ∷ l) e (at.spelled ∙ ap (λ (l : List ℕ). frame layout at.batch ++ l) r.spelled) ∙ sym (opened_parts layout at.batch r.batches (r.byte ∷ r.rest));
    stop = subst (λ n. Stop n r.byte r.rest) (sym (more_commands low at.batch r.batches)) r.stop;
  }

  read_run : (fuel low byte : ℕ) (rest : List ℕ) → length rest < fuel → IsBytes rest → Run low byte rest
  read_run zero low byte rest enough fits = absurd (omega (arith, enough))
  read_run (suc fuel) low byte rest enough fits = by (byte == 165) refl (λ low byte rest enough fits. read_run fuel low byte rest enough fits)
    where
      by : (x : Bool) → (byte == 165) ≡ x → ((low byte : ℕ) (rest : List ℕ) → length rest < fuel → IsBytes rest → Run low byte rest) → Run low byte rest
      by false e again = none_run low byte rest (inl (eqb-false _ _ e))
      by true e again = elim (read_batch layout room low rest fits) as (λ _. Run low byte rest) [
        | inr none ↦ open_run low byte rest (eqb-true _ _ e) none
        | inl at ↦ more_run low byte rest (eqb-true _ _ e) at (again (low + length at.batch.commands) at.after at.behind
            (let all : length rest ≡ length (frame layout at.batch ++ at.after ∷ at.behind) = ap (λ (l : List ℕ). length l) at.spelled in
            omega (arith, all, enough, length-append (frame layout at.batch) (at.after ∷ at.behind), length-frame layout at.batch))
            (IsBytes-rest at.after at.behind at.rest_fits))
      ]

-- ---- the log

module _ (layout : Layout) (room : IsLayout layout) (g l : ℕ) (content : List ℕ) where
  read_frames : HasHeader layout.version g l content → IsBytes content → (reading : Reading) × Reads layout g l content reading
  unfolding header
  read_frames h fits = by (read_run layout room (g + 1) (length h.rest + 1) l h.gate h.rest (omega arith) rest_fits)
    where
      rest_fits : IsBytes h.rest
      rest_fits = IsBytes-rest h.gate h.rest (subst IsBytes (drop_at (layout.version ∷ (big_bytes 8 g ++ big_bytes 8 l)) (h.gate ∷ h.rest) 17 refl) (IsBytes-drop 17 ((layout.version ∷ (big_bytes 8 g ++ big_bytes 8 l)) ++ h.gate ∷ h.rest) (subst IsBytes h.bytes fits)))

      by : Run layout room (g + 1) l h.gate h.rest → (reading : Reading) × Reads layout g l content reading
      by r = by_stop r.stop
        where
          log : IsLog layout g l r.batches
          log = record { generation_fits = h.generation_fits; low_fits = h.low_fits; in_order = r.run }

          whole : content ≡ log_front layout g l r.batches ++ r.byte ∷ r.rest
          whole = h.bytes ∙ ap (λ (t : List ℕ). header layout g l ++ t) r.spelled ∙ sym (append_assoc (header layout g l) (opened layout r.batches) (r.byte ∷ r.rest))

          whole_open : r.byte ≡ 165 → content ≡ log_front layout g l r.batches ++ 165 ∷ r.rest
          whole_open e = whole ∙ ap (λ (b : ℕ). log_front layout g l r.batches ++ b ∷ r.rest) e

          by_stop : Stop layout room (g + 1) (l + length (commands_in r.batches)) r.byte r.rest → (reading : Reading) × Reads layout g l content reading
          by_stop (inl shut) = (closed r.batches, record { gate = r.byte; rest = r.rest; bytes = whole; closed = shut; log = log })
          by_stop (inr (e, inl end)) = (
            ended r.batches,
            record {
              after = end.after;
              rest = end.behind;
              bytes = whole_open e ∙ ap (λ (t : List ℕ). log_front layout g l r.batches ++ 165 ∷ t) end.spelled;
              next_fits = end.next_fits;
              log = log;
            },
          )
          by_stop (inr (e, inr none)) = (broken r.batches, record { rest = r.rest; bytes = whole_open e; no_frame = none; log = log })

  abbrev pub ToldLog : Type 0
  ToldLog = ((reading : Reading) × Reads layout g l content reading) ⊎ ((refusal : Refusal) × IsBadHeader g l content refusal)

  -- if the layout's version is the only one of a header there that is read
  pub read_log : ((v g' l' : ℕ) → HasHeader v g' l' content → is_read v ≡ true → v ≡ layout.version) → IsBytes content → ToldLog
  read_log only fits = elim (read_header g l content fits) as (λ _. ToldLog) [
    | inl h ↦ inl (read_frames (subst (λ v. HasHeader v g l content) (only h.0 g l h.2 h.1) h.2) fits)
    | inr bad ↦ inr bad
  ]
