-- What a stop may leave of the log's file in the commit of one change.
use Rattle.std.proofs.Common.{◌≡◌, ◌⊎◌, inl, inr, ℕ, zero, suc, ◌<◌, ◌≤◌, ◌+◌, ◌&&◌, ◌||◌, false, nat_le, nat_lt, List, [], ◌∷◌, ◌++◌, length, take, drop, refl, sym, ap, ◌∙◌, arith}
use Rattle.std.proofs.lemmas.Bool.Decides.{nat_tests}
use Rattle.std.proofs.lemmas.List.{append_assoc, ext_get_or, get_or-take, get_or_append_left, length-take-le, take-append-drop}
use Rattle.disk_model.specs.Files.{MayLeave, at_rest, byte_at, written}
use Rattle.store_layout.specs.FirstFiles.{first_log}
use Rattle.store_layout.specs.Logs.{frame, header, log_front, new_layout, new_version}
use Rattle.store_layout.specs.Opening.{IsClosedIn}
use Rattle.store_layout.proofs.OwnLayouts.{closed_in_own, own_of}
use Rattle.sim_rules.specs.Examples.{frame_bytes}
use Rattle.sim_rules.proofs.StopExamples.{gated, log_file, log_with_five}

-- of a file at rest a stop leaves its content
pub stays_at_rest : (there content : List ℕ) → MayLeave (at_rest there) content → content ≡ there
stays_at_rest there content may = ext_get_or 0 content there (omega (arith, may.no_shorter, may.no_longer))
    (λ i l. may.same i (let beyond : nat_le (length there) i ≡ false = grind (arith, nat_tests, l, may.no_longer) in beyond))

-- ---- while the frame is written

-- the front that isn't written stays
front_stays : (front bytes content : List ℕ) → MayLeave (written (length front) bytes (at_rest front)) content → (i : ℕ) → i < length front → byte_at i content ≡ byte_at i (take (length front) front ++ (bytes ++ drop (length front + length bytes) front))
front_stays front bytes content may i l =
    may.same i (let still : ((nat_le (length front) i && nat_lt i (length front + length bytes)) || false) || nat_le (length front) i ≡ false = grind (arith, nat_tests, l) in still)

begins_with : (front bytes content : List ℕ) → MayLeave (written (length front) bytes (at_rest front)) content → content ≡ front ++ drop (length front) content
begins_with front bytes content may =
    let long : length front ≤ length content = may.no_shorter in
    let first : take (length front) content ≡ front = ext_get_or 0 (take (length front) content) front (length-take-le (length front) content long)
    (λ i l.
    let below : i < length front = omega (arith, l, length-take-le (length front) content long) in
    get_or-take (length front) content i 0 below ∙ front_stays front bytes content may i below
    ∙ get_or_append_left (take (length front) front) (bytes ++ drop (length front + length bytes) front) 0 i (omega (arith, below, length-take-le (length front) front (omega arith)))
    ∙ get_or-take (length front) front i 0 below) in
    sym (take-append-drop (length front) content) ∙ ap (λ xs. xs ++ drop (length front) content) first

pub shut_while_written : (bytes content : List ℕ) → MayLeave (written 18 bytes (at_rest first_log)) content → IsClosedIn 0 0 [] content
unfolding header
shut_while_written bytes content may = closed_in_own new_layout (own_of new_version) 0 0 [] content (record {
  gate = 0;
  rest = drop 18 content;
  bytes = begins_with first_log bytes content may ∙ append_assoc (log_front new_layout 0 0 []) (0 ∷ []) (drop 18 content);
  closed = λ e. omega (arith, e);
  log = record { generation_fits = omega arith; low_fits = omega arith; in_order = tt };
})

-- ---- once it is synced

pub shut_once_synced : (content : List ℕ) → MayLeave (log_file frame_bytes) content → content ≡ log_with_five 0
unfolding frame header log_file
shut_once_synced content may = stays_at_rest (log_with_five 0) content may

-- ---- while the gate is opened

-- one byte may be any
other_byte : (xs ys : List ℕ) (g h i : ℕ) → (i ≡ length xs → ⊥) → byte_at i (xs ++ g ∷ ys) ≡ byte_at i (xs ++ h ∷ ys)
other_byte [] ys g h zero other = absurd (other refl)
other_byte [] ys g h (suc i) other = refl
other_byte (x ∷ xs) ys g h zero other = refl
other_byte (x ∷ xs) ys g h (suc i) other = other_byte xs ys g h i (λ e. other (ap suc e))

that_byte : (xs ys : List ℕ) (g i : ℕ) → i ≡ length xs → byte_at i (xs ++ g ∷ ys) ≡ g
that_byte [] ys g zero is = refl
that_byte [] ys g (suc i) is = absurd (omega (arith, is))
that_byte (x ∷ xs) ys g zero is = absurd (omega (arith, is))
that_byte (x ∷ xs) ys g (suc i) is = that_byte xs ys g i (omega (arith, is))

-- the log's header, and what stands behind its gate
behind : List ℕ
behind = frame_bytes

split : (gate : ℕ) → log_with_five gate ≡ log_front new_layout 0 0 [] ++ gate ∷ behind
unfolding behind frame header
split gate = refl

pub same_or_not : (i n : ℕ) → (i ≡ n) ⊎ (i ≡ n → ⊥)
same_or_not zero zero = inl refl
same_or_not zero (suc n) = inr (λ e. omega (arith, e))
same_or_not (suc i) zero = inr (λ e. omega (arith, e))
same_or_not (suc i) (suc n) = next (same_or_not i n)
  where
    next : (i ≡ n) ⊎ (i ≡ n → ⊥) → (suc i ≡ suc n) ⊎ (suc i ≡ suc n → ⊥)
    next (inl is) = inl (ap suc is)
    next (inr other) = inr (λ e. other (omega (arith, e)))

abbrev log_bytes : ℕ
log_bytes = length (log_with_five 0)

size : (gate : ℕ) → length (log_with_five gate) ≡ log_bytes
unfolding frame header
size gate = refl

pub left_of_gate : (content : List ℕ) → MayLeave (gated frame_bytes (165 ∷ [])) content → content ≡ log_with_five (byte_at 17 content)
unfolding frame header log_file gated
left_of_gate content may =
    let long : length content ≡ length (log_with_five 165) = omega (arith, may.no_shorter, may.no_longer) in
    ext_get_or 0 content (log_with_five (byte_at 17 content)) (long ∙ size 165 ∙ sym (size (byte_at 17 content))) (λ i l. by i (omega (arith, l, long, size 165)) (same_or_not i 17))
  where
    by : (i : ℕ) → i < log_bytes → (i ≡ 17) ⊎ (i ≡ 17 → ⊥) → byte_at i content ≡ byte_at i (log_with_five (byte_at 17 content))
    by i l (inl is) = ap (λ n. byte_at n content) is ∙ sym (that_byte (log_front new_layout 0 0 []) behind (byte_at 17 content) i is) ∙ ap (byte_at i) (sym (split (byte_at 17 content)))
    by i l (inr other) =
        may.same i (let still : ((nat_le 17 i && nat_lt i 18) || false) || nat_le log_bytes i ≡ false = grind (arith, nat_tests, l, other) in still)
        ∙ ap (byte_at i) (split 165) ∙ other_byte (log_front new_layout 0 0 []) behind 165 (byte_at 17 content) i other ∙ ap (byte_at i) (sym (split (byte_at 17 content)))
