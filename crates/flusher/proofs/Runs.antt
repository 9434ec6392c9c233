-- The run of commands from the first place on.
use Rattle.std.proofs.Common.{◌≡◌, inl, inr, ℕ, ◌+◌, ◌-◌, ◌<◌, ◌≤◌, ◌^◌, List, [], ◌∷◌, ◌++◌, length, get_or, set, take, drop, map, replicate, Option, Some, None, append-nil, refl, sym, ◌∙◌, ap, subst, arith}
use Rattle.std.proofs.lemmas.List.{length-append, length-map, append_assoc, map-append, get_or_at, get_or-append_right, get_or_append_left, get_or-map, take_more, drop_more, set_at, replicate-append-replicate, length-replicate, length-take-le}
use Rattle.std.proofs.lemmas.Bool.{cases_lt}
use Rattle.map_types.specs.declared.commands.Command.{Command}
use Rattle.ticket_order.specs.declared.stripe.Entry.{Entry}
use Rattle.ticket_order.specs.Records.{entry}
use Rattle.ticket_order.specs.Legality.{entries_from}
use Rattle.log_records.specs.declared.versions.Version.{Version}
use Rattle.log_records.specs.Layout.{Layout, layout_of}
use Rattle.log_records.specs.Spelling.{record_bytes}
use Rattle.store_layout.specs.Logs.{frame, records_bytes}
use Rattle.store_layout.proofs.LogLemmas.{length-frame, records_push}
use Rattle.gate_log.specs.States.{LogState}
use Rattle.flusher.specs.KeeperSteps.{IsFull}
use Rattle.store_layout.specs.Hands.{Hand, most_from, IsRun, FitsBatch, IsLongest}

-- of two runs one is a front of the other
pub run_front : (xs ys : List Command) (r s : List (Option Command)) → map Some xs ++ r ≡ map Some ys ++ s → length xs ≤ length ys → (rest : List Command) × (ys ≡ xs ++ rest) × (r ≡ map Some rest ++ s)
run_front [] ys r s e h = (ys, refl, e)
run_front (x ∷ xs) [] r s e h = absurd (omega arith)
run_front (x ∷ xs) (y ∷ ys) r s e h =
    let same : x ≡ y = cc in
    let tails : map Some xs ++ r ≡ map Some ys ++ s = cc in
    let k = run_front xs ys r s tails (omega arith) in
    (k.0, (let t = k.1 in cc), k.2)

records_long : (layout : Layout) (xs ys : List Command) → length (records_bytes layout xs) ≤ length (records_bytes layout (xs ++ ys))
records_long layout [] ys = omega arith
records_long layout (x ∷ xs) ys =
    omega (arith, records_long layout xs ys, length-append (record_bytes layout x) (records_bytes layout xs), length-append (record_bytes layout x) (records_bytes layout (xs ++ ys)))

pub record_more : (layout : Layout) (xs : List Command) (x : Command) → length (records_bytes layout (xs ++ x ∷ [])) ≡ length (records_bytes layout xs) + length (record_bytes layout x)
record_more layout xs x = ap length (records_push layout xs x) ∙ length-append (records_bytes layout xs) (record_bytes layout x)

behind : (xs : List (Option Command)) (c : Command) → get_or xs 0 None ≡ Some c → (s : List (Option Command)) × (xs ≡ Some c ∷ s)
behind [] c e = (let no : None ≡ Some c = e in cc)
behind (x ∷ xs) c e = (xs, ap (λ z. z ∷ xs) e)

get_or_behind : (xs ys : List (Option Command)) (n : ℕ) → length xs ≡ n → get_or (xs ++ ys) n None ≡ get_or ys 0 None
get_or_behind xs ys n is = get_or-append_right xs ys n n None is (omega arith) ∙ ap (λ k. get_or ys k None) (omega arith)

-- How far the search for the longest run has come: so many commands are a run, and their records leave this much room.
pub record IsFound (layout : Layout) (hand : Hand) (room : ℕ) (commands : List Command) : Type 0 where
  pub rest : List (Option Command)
  pub slots : hand.slots ≡ map Some commands ++ rest
  pub filled : length (records_bytes layout commands) + room ≡ 1048559

fits : (layout : Layout) (most : ℕ) (hand : Hand) (room : ℕ) (commands : List Command) → IsFound layout hand room commands → hand.next < 2 ^ 64 → length commands ≤ most_from hand.next most → FitsBatch layout most hand.next commands
fits layout most hand room commands f number few = record {
  few = omega arith;
  fits = omega (arith, number, few);
  within = omega arith;
  short = omega (arith, length-frame layout (record { first = hand.next; commands = commands }), f.filled);
}

pub frame_of_found : (layout : Layout) (hand : Hand) (room : ℕ) (commands : List Command) (len : ℕ) → IsFound layout hand room commands → len + room ≡ 1048576 → len ≡ length (frame layout (record { first = hand.next; commands = commands }))
frame_of_found layout hand room commands len f is = omega (arith, is, f.filled, length-frame layout (record { first = hand.next; commands = commands }))

-- nothing is in the place behind it, or it has as many commands as may be
pub longest_at_limit : (layout : Layout) (most : ℕ) (hand : Hand) (room : ℕ) (commands : List Command) → IsFound layout hand room commands → hand.next < 2 ^ 64 → length commands ≡ most_from hand.next most → IsLongest layout most hand commands
longest_at_limit layout most hand room commands f number few = record {
  run = (f.rest, f.slots);
  fits = fits layout most hand room commands f number (omega arith);
  longest = λ others run g. omega (arith, few, number, g.few, g.within, g.fits);
}

beyond : (commands rest : List Command) (s slots : List (Option Command)) → slots ≡ map Some commands ++ (map Some rest ++ s) → 0 < length rest
    → (c : Command) × (more : List Command) × (rest ≡ c ∷ more) × (get_or slots (length commands) None ≡ Some c)
beyond commands [] s slots e h = absurd (omega arith)
beyond commands (c ∷ more) s slots e h =
    (c, more, refl, ap (λ z. get_or z (length commands) None) e ∙ get_or_at (map Some commands) (Some c) (map Some more ++ s) None (length commands) (length-map commands Some))

-- a longer run has the command that stands behind this one
longer : (layout : Layout) (hand : Hand) (room : ℕ) (commands others : List Command) → IsFound layout hand room commands → IsRun hand others → length commands < length others
    → (c : Command) × (more : List Command) × (others ≡ commands ++ c ∷ more) × (get_or hand.slots (length commands) None ≡ Some c)
longer layout hand room commands others f run long =
    let k = run_front commands others f.rest run.0 (sym f.slots ∙ run.1) (omega arith) in
    let some : 0 < length k.0 = omega (arith, long, ap length k.1, length-append commands k.0) in
    let b = beyond commands k.0 run.0 hand.slots (f.slots ∙ ap (λ z. map Some commands ++ z) k.2) some in
    (b.0, b.1, k.1 ∙ ap (λ z. commands ++ z) b.2, b.3)

-- the place behind it is empty
pub longest_at_gap : (layout : Layout) (most : ℕ) (hand : Hand) (room : ℕ) (commands : List Command) → IsFound layout hand room commands → hand.next < 2 ^ 64 → length commands ≤ most_from hand.next most → get_or hand.slots (length commands) None ≡ None
    → IsLongest layout most hand commands
longest_at_gap layout most hand room commands f number few gap = record {
  run = (f.rest, f.slots);
  fits = fits layout most hand room commands f number few;
  longest = λ others run g. elim (cases_lt (length commands) (length others)) [
    | inl more ↦ (let k = longer layout hand room commands others f run more in let no : None ≡ Some k.0 = sym gap ∙ k.3 in cc)
    | inr short ↦ short
  ];
}

-- the record of the command behind it has no room
pub longest_at_size : (layout : Layout) (most : ℕ) (hand : Hand) (room : ℕ) (commands : List Command) (c : Command) → IsFound layout hand room commands → hand.next < 2 ^ 64 → length commands ≤ most_from hand.next most
    → get_or hand.slots (length commands) None ≡ Some c → room < length (record_bytes layout c) → IsLongest layout most hand commands
longest_at_size layout most hand room commands c f number few there full = record {
  run = (f.rest, f.slots);
  fits = fits layout most hand room commands f number few;
  longest = λ others run g. elim (cases_lt (length commands) (length others)) [
    | inl more ↦ (
        let k = longer layout hand room commands others f run more in
        let same : c ≡ k.0 = (let j : Some c ≡ Some k.0 = sym there ∙ k.3 in cc) in
        let split : others ≡ (commands ++ k.0 ∷ []) ++ k.1 = k.2 ∙ sym (append_assoc commands (k.0 ∷ []) k.1) in
        let long : length (records_bytes layout (commands ++ k.0 ∷ [])) ≤ length (records_bytes layout others) = subst (λ z. length (records_bytes layout (commands ++ k.0 ∷ [])) ≤ length (records_bytes layout z)) (sym split) (records_long layout (commands ++ k.0 ∷ []) k.1) in
        let big : room < length (record_bytes layout k.0) = subst (λ z. room < length (record_bytes layout z)) same full in
        absurd (omega (arith, long, big, f.filled, g.short, record_more layout commands k.0, length-frame layout (record { first = hand.next; commands = others })))
        )
    | inr short ↦ short
  ];
}

pub found_more : (layout : Layout) (hand : Hand) (room : ℕ) (commands : List Command) (c : Command) (len : ℕ) → IsFound layout hand room commands → get_or hand.slots (length commands) None ≡ Some c
    → len ≡ length (record_bytes layout c) → len ≤ room → IsFound layout hand (room - len) (commands ++ c ∷ [])
found_more layout hand room commands c len f there is small =
    let rest : (s : List (Option Command)) × (f.rest ≡ Some c ∷ s) = behind f.rest c (sym (get_or_behind (map Some commands) f.rest (length commands) (length-map commands Some)) ∙ sym (ap (λ z. get_or z (length commands) None) f.slots) ∙ there) in
    record {
      rest = rest.0;
      slots = f.slots ∙ ap (λ z. map Some commands ++ z) rest.1 ∙ sym (append_assoc (map Some commands) (Some c ∷ []) rest.0) ∙ ap (λ z. z ++ rest.0) (sym (map-append Some commands (c ∷ [])));
      filled = omega (arith, f.filled, record_more layout commands c);
    }

-- the command in place i of a run
pub command_in_run : (hand : Hand) (commands : List Command) (i : ℕ) → IsRun hand commands → i < length commands
    → (c : Command) × (get_or hand.slots i None ≡ Some c) × (take (i + 1) commands ≡ take i commands ++ c ∷ [])
command_in_run hand [] i run within = absurd (omega arith)
command_in_run hand (x ∷ xs) i run within =
    let commands = x ∷ xs in (
      get_or commands i x,
      ap (λ z. get_or z i None) run.1 ∙ get_or_append_left (map Some commands) run.0 None i (omega (arith, length-map commands Some)) ∙ get_or-map Some commands i x None within,
      take_more commands i x within,
    )

entries_push : (t : ℕ) (xs : List Command) (c : Command) → entries_from t (xs ++ c ∷ []) ≡ entries_from t xs ++ entry (t + length xs) c ∷ []
entries_push t [] c = ap (λ k. entry k c ∷ []) (omega arith)
entries_push t (x ∷ xs) c = ap (λ z. entry t x ∷ z) (entries_push (t + 1) xs c ∙ ap (λ k. entries_from (t + 1) xs ++ entry k c ∷ []) (omega arith))

-- one place more is emptied
pub emptied_more : (slots now : List (Option Command)) (i : ℕ) → now ≡ replicate i None ++ drop i slots → i < length slots → set now i None ≡ replicate (i + 1) None ++ drop (i + 1) slots
emptied_more slots now i is within =
    let nones : List (Option Command) = replicate i None in
    ap (λ z. set z i None) (is ∙ ap (λ z. nones ++ z) (drop_more slots i None within)) ∙ set_at nones (get_or slots i None) (drop (i + 1) slots) None i (length-replicate i None)
    ∙ sym (append_assoc nones (None ∷ []) (drop (i + 1) slots)) ∙ ap (λ z. z ++ drop (i + 1) slots) (replicate-append-replicate i 1 None)

-- what is in the place before it is emptied
pub there_still : (slots now : List (Option Command)) (i : ℕ) (d : Option Command) → now ≡ replicate i None ++ drop i slots → i < length slots → get_or now i d ≡ get_or slots i None
there_still slots now i d is within =
    ap (λ z. get_or z i d) (is ∙ ap (λ z. replicate i None ++ z) (drop_more slots i None within)) ∙ get_or_at (replicate i None) (get_or slots i None) (drop (i + 1) slots) d i (length-replicate i None)

-- one entry more is taken
pub taken_more : (hand : Hand) (commands : List Command) (i : ℕ) (before now : List Entry) (c : Command) → IsRun hand commands → i < length commands → get_or hand.slots i None ≡ Some c
    → before ≡ entries_from hand.next (take i commands) → now ≡ before ++ entry (hand.next + i) c ∷ [] → now ≡ entries_from hand.next (take (i + 1) commands)
taken_more hand commands i before now c run within there is more =
    let k = command_in_run hand commands i run within in
    let same : c ≡ k.0 = (let j : Some c ≡ Some k.0 = sym there ∙ k.1 in cc) in
    let long : length (take i commands) ≡ i = length-take-le i commands (omega arith) in
    more ∙ ap (λ z. z ++ entry (hand.next + i) c ∷ []) is ∙ ap (λ z. entries_from hand.next (take i commands) ++ entry z c ∷ []) (ap (λ z. hand.next + z) (sym long))
    ∙ sym (entries_push hand.next (take i commands) c) ∙ ap (entries_from hand.next) (ap (λ z. take i commands ++ z ∷ []) same ∙ sym k.2)

pub run_within : (hand : Hand) (commands : List Command) → IsRun hand commands → length commands ≤ length hand.slots
run_within hand commands run = omega (arith, ap length run.1, length-append (map Some commands) run.0, length-map commands Some)

pub none_is_some : (c : Command) → None ≡ Some c → ⊥
none_is_some c e = cc

no_more : (xs : List Command) → length xs ≡ 0 → xs ≡ []
no_more [] h = refl
no_more (x ∷ xs) h = absurd (omega (arith, h))

pub same_run : (hand : Hand) (xs ys : List Command) → IsRun hand xs → IsRun hand ys → length xs ≡ length ys → ys ≡ xs
same_run hand xs ys a b long =
    let k = run_front xs ys a.0 b.0 (sym a.1 ∙ b.1) (omega (arith, long)) in
    let none_ : k.0 ≡ [] = no_more k.0 (omega (arith, ap (λ (z : List Command). length z) k.1, length-append xs k.0, long)) in
    k.1 ∙ ap (λ z. xs ++ z) none_ ∙ append-nil xs

-- the longest run doesn't carry the log past its greatest length, so no longest run does
pub not_full : (version : Version) (most : ℕ) (log : LogState) (hand : Hand) (commands : List Command) (len : ℕ) → version ≡ log.version → IsLongest (layout_of version) most hand commands → hand.next ≡ log.committed
    → len ≡ length (frame (layout_of version) (record { first = hand.next; commands = commands })) → log.gate + 1 + len + 1 ≤ 2 ^ 40 → IsFull most log hand → ⊥
not_full version most log hand commands len of_log longest next is low full =
    let layout = layout_of log.version in
    let l : IsLongest layout most hand commands = subst (λ (v : Version). IsLongest (layout_of v) most hand commands) of_log longest in
    let long : length commands ≡ length full.commands = omega (arith, l.longest full.commands full.longest.run full.longest.fits, full.longest.longest commands l.run l.fits) in
    let same : full.commands ≡ commands = same_run hand commands full.commands l.run full.longest.run long in
    let big : 2 ^ 40 < log.gate + 1 + length (frame layout (record { first = log.committed; commands = commands })) + 1 =
    subst (λ (z : List Command). 2 ^ 40 < log.gate + 1 + length (frame layout (record { first = log.committed; commands = z })) + 1) same full.too_long in
    let there : len ≡ length (frame layout (record { first = log.committed; commands = commands })) =
    is ∙ ap (λ (v : Version). length (frame (layout_of v) (record { first = hand.next; commands = commands }))) of_log ∙ ap (λ (t : ℕ). length (frame layout (record { first = t; commands = commands }))) next in
    omega (arith, big, there, low)
