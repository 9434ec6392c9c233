-- One way to read the frames of a log.
use Rattle.std.proofs.Common.{◌≡◌, ◌≤◌, ◌<◌, ℕ, ◌+◌, ◌^◌, List, [], ◌∷◌, ◌++◌, length, take, drop, refl, sym, ap, ap₂, ◌∙◌, append_assoc, arith}
use Rattle.std.proofs.lemmas.List.{length-append, append_cancel_left}
use Rattle.std.proofs.Math.Seq.{take-append_seam, drop-append_seam}
use Rattle.std.specs.List.{AllByRecursion}
use Rattle.byteorder.specs.Endian.{big_number, big_bytes}
use Rattle.byteorder.specs.Numbers.{big_number-reads_back, length-bytes_high_first}
use Rattle.map_types.specs.declared.commands.Command.{Command}
use Rattle.log_records.specs.Layout.{Layout, IsLayout}
use Rattle.log_records.specs.Spelling.{IsCommand, record_bytes}
use Rattle.log_records.proofs.Records.{one_record}
use Rattle.store_layout.specs.Logs.{Batch, IsBatch, end_frame, frame, records_bytes}

-- ---- lists and numbers

pub same_parts : (a b x y : List ℕ) → length a ≡ length b → a ++ x ≡ b ++ y → (a ≡ b) × (x ≡ y)
same_parts a b x y len e =
    let left : take (length a) (a ++ x) ≡ take (length b) (b ++ y) = ap (λ (n : ℕ). take n (a ++ x)) len ∙ ap (take (length b)) e in
    let right : drop (length a) (a ++ x) ≡ drop (length b) (b ++ y) = ap (λ (n : ℕ). drop n (a ++ x)) len ∙ ap (drop (length b)) e in
    (sym (take-append_seam a x) ∙ left ∙ take-append_seam b y, sym (drop-append_seam a x) ∙ right ∙ drop-append_seam b y)

pub same_number : (n x y : ℕ) (s t : List ℕ) → x < 256 ^ n → y < 256 ^ n → big_bytes n x ++ s ≡ big_bytes n y ++ t → (x ≡ y) × (s ≡ t)
same_number n x y s t fits_x fits_y e =
    let number : big_number n (big_bytes n x ++ s) ≡ big_number n (big_bytes n y ++ t) = ap (big_number n) e in
    let both = same_parts (big_bytes n x) (big_bytes n y) s t (length-bytes_high_first n x ∙ sym (length-bytes_high_first n y)) e in
    (sym (big_number-reads_back n x s fits_x) ∙ number ∙ big_number-reads_back n y t fits_y, both.1)

pub same_rest : (a b : ℕ) (s t : List ℕ) → a ∷ s ≡ b ∷ t → (a ≡ b) × (s ≡ t)
same_rest a b s t e = (cc, cc)

-- ---- records

-- Of two rows of records at the front of the same bytes the longer begins with the shorter.
pub records_part : (layout : Layout) → IsLayout layout → (a b : List Command) (x y : List ℕ) → AllByRecursion (IsCommand layout) a → AllByRecursion (IsCommand layout) b
    → length a ≤ length b → records_bytes layout a ++ x ≡ records_bytes layout b ++ y
    → (more : List Command) × (b ≡ a ++ more) × (x ≡ records_bytes layout more ++ y)
records_part layout room [] b x y all_a all_b len e = (b, refl, e)
records_part layout room (c ∷ a) [] x y all_a all_b len e = absurd (omega arith)
records_part layout room (c ∷ a) (d ∷ b) x y all_a all_b len e =
    let whole : record_bytes layout c ++ (records_bytes layout a ++ x) ≡ record_bytes layout d ++ (records_bytes layout b ++ y) =
    sym (append_assoc (record_bytes layout c) (records_bytes layout a) x) ∙ e ∙ append_assoc (record_bytes layout d) (records_bytes layout b) y in
    let one = one_record layout (record_bytes layout c) (record_bytes layout d) _ _ c d room (record { fits = all_a.0; spelled = refl }) (record { fits = all_b.0; spelled = refl }) whole in
    let behind : records_bytes layout a ++ x ≡ records_bytes layout b ++ y =
    append_cancel_left (record_bytes layout d) (records_bytes layout a ++ x) (records_bytes layout b ++ y) (ap (λ (t : List ℕ). t ++ (records_bytes layout a ++ x)) (sym one.0) ∙ whole) in
    let more = records_part layout room a b x y all_a.1 all_b.1 (omega arith) behind in
    let is : d ∷ b ≡ c ∷ (a ++ more.0) = cc in
    (more.0, is, more.2)

-- So many records at the front of the same bytes are the same.
pub same_records : (layout : Layout) → IsLayout layout → (a b : List Command) (x y : List ℕ) → AllByRecursion (IsCommand layout) a → AllByRecursion (IsCommand layout) b
    → length a ≡ length b → records_bytes layout a ++ x ≡ records_bytes layout b ++ y → (a ≡ b) × (x ≡ y)
same_records layout room [] [] x y all_a all_b len e = (refl, e)
same_records layout room [] (d ∷ b) x y all_a all_b len e = absurd (omega arith)
same_records layout room (c ∷ a) [] x y all_a all_b len e = absurd (omega arith)
same_records layout room (c ∷ a) (d ∷ b) x y all_a all_b len e =
    let whole : record_bytes layout c ++ (records_bytes layout a ++ x) ≡ record_bytes layout d ++ (records_bytes layout b ++ y) =
    sym (append_assoc (record_bytes layout c) (records_bytes layout a) x) ∙ e ∙ append_assoc (record_bytes layout d) (records_bytes layout b) y in
    let one = one_record layout (record_bytes layout c) (record_bytes layout d) _ _ c d room (record { fits = all_a.0; spelled = refl }) (record { fits = all_b.0; spelled = refl }) whole in
    let behind : records_bytes layout a ++ x ≡ records_bytes layout b ++ y =
    append_cancel_left (record_bytes layout d) (records_bytes layout a ++ x) (records_bytes layout b ++ y) (ap (λ (t : List ℕ). t ++ (records_bytes layout a ++ x)) (sym one.0) ∙ whole) in
    let rest = same_records layout room a b x y all_a.1 all_b.1 (omega arith) behind in
    let first = one.1 in
    let others = rest.0 in
    let is : c ∷ a ≡ d ∷ b = cc in
    (is, rest.1)

-- ---- frames

pub frame_length : (layout : Layout) (batch : Batch) → length (frame layout batch) ≡ 17 + length (records_bytes layout batch.commands)
unfolding frame
frame_length layout batch =
    let records : List ℕ = records_bytes layout batch.commands in
    let a = length-append (big_bytes 4 (12 + length records)) (big_bytes 8 batch.first ++ (big_bytes 4 (length batch.commands) ++ records)) in
    let b = length-append (big_bytes 8 batch.first) (big_bytes 4 (length batch.commands) ++ records) in
    let c = length-append (big_bytes 4 (length batch.commands)) records in
    let d = length-bytes_high_first 4 (12 + length records) in
    let e = length-bytes_high_first 8 batch.first in
    let f = length-bytes_high_first 4 (length batch.commands) in
    omega arith

-- a frame and what follows it, part by part
pub frame_parts : (layout : Layout) (batch : Batch) (x : List ℕ) → frame layout batch ++ x
    ≡ 1 ∷ (big_bytes 4 (12 + length (records_bytes layout batch.commands)) ++ (big_bytes 8 batch.first ++ (big_bytes 4 (length batch.commands) ++ (records_bytes layout batch.commands ++ x))))
unfolding frame
frame_parts layout batch x =
    let records : List ℕ = records_bytes layout batch.commands in
    let a = append_assoc (big_bytes 4 (12 + length records)) (big_bytes 8 batch.first ++ (big_bytes 4 (length batch.commands) ++ records)) x in
    let b = append_assoc (big_bytes 8 batch.first) (big_bytes 4 (length batch.commands) ++ records) x in
    let c = append_assoc (big_bytes 4 (length batch.commands)) records x in
    ap (λ (t : List ℕ). 1 ∷ t) (a ∙ ap (λ (t : List ℕ). big_bytes 4 (12 + length records) ++ t) (b ∙ ap (λ (t : List ℕ). big_bytes 8 batch.first ++ t) c))

pub end_parts : (next : ℕ) (x : List ℕ) → end_frame next ++ x ≡ 2 ∷ (big_bytes 4 8 ++ (big_bytes 8 next ++ x))
unfolding end_frame
end_parts next x = ap (λ (t : List ℕ). 2 ∷ t) (append_assoc (big_bytes 4 8) (big_bytes 8 next) x)

pub same_frames : (layout : Layout) → IsLayout layout → (a b : Batch) (x y : List ℕ) → IsBatch layout a → IsBatch layout b → frame layout a ++ x ≡ frame layout b ++ y → (a ≡ b) × (x ≡ y)
same_frames layout room a b x y fits_a fits_b e =
    let len_a = frame_length layout a in
    let len_b = frame_length layout b in
    let short_a = fits_a.short in
    let short_b = fits_b.short in
    let few_a = fits_a.few in
    let few_b = fits_b.few in
    let first_a = fits_a.fits in
    let first_b = fits_b.fits in
    let whole = sym (frame_parts layout a x) ∙ e ∙ frame_parts layout b y in
    let no_kind = same_rest 1 1 _ _ whole in
    let no_len = same_number 4 _ _ _ _ (omega arith) (omega arith) no_kind.1 in
    let no_first = same_number 8 a.first b.first _ _ (omega arith) (omega arith) no_len.1 in
    let no_count = same_number 4 (length a.commands) (length b.commands) _ _ (omega arith) (omega arith) no_first.1 in
    let commands = same_records layout room a.commands b.commands x y fits_a.well_formed fits_b.well_formed no_count.0 no_count.1 in
    let made : ℕ → List Command → Batch = λ first all. record { first = first; commands = all } in
    (ap₂ made no_first.0 commands.0, commands.1)
