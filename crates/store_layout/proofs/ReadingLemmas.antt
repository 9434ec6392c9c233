-- A content reads in at most one way as the log of a generation.
use Rattle.std.proofs.Common.{◌≡◌, ℕ, ◌+◌, List, [], ◌∷◌, ◌++◌, length, refl, sym, ap, subst, ◌∙◌, append_assoc, arith}
use Rattle.std.proofs.lemmas.List.{length-append, append_cancel_left}
use Rattle.log_records.specs.Layout.{Layout, IsLayout}
use Rattle.store_layout.specs.Logs.{Batch, IsBatch, IsRun, IsLog, IsClosed, IsEnded, commands_in, end_frame, frame, header, log_front, opened}
use Rattle.store_layout.specs.Readings.{IsBroken, Reading, closed, ended, broken, Reads}
use Rattle.store_layout.proofs.FrameLemmas.{same_rest, same_number, same_frames, frame_parts, end_parts}

-- no batch that begins with this ticket stands here behind an open gate
abbrev Stops : Layout → ℕ → List ℕ → Type 0
Stops layout expected tail = (batch : Batch) (after : ℕ) (behind : List ℕ) → IsBatch layout batch → batch.first ≡ expected → tail ≡ 165 ∷ (frame layout batch ++ after ∷ behind) → ⊥

pub begins : (layout : Layout) (batches : List Batch) (x : ℕ) (xs : List ℕ) → (after : ℕ) × (behind : List ℕ) × (opened layout batches ++ x ∷ xs ≡ after ∷ behind)
begins layout [] x xs = (x, xs, refl)
begins layout (batch ∷ batches) x xs = (165, (frame layout batch ++ opened layout batches) ++ x ∷ xs, refl)

-- what stands behind the first gate of a run
pub opened_parts : (layout : Layout) (batch : Batch) (batches : List Batch) (t : List ℕ) → opened layout (batch ∷ batches) ++ t ≡ 165 ∷ (frame layout batch ++ (opened layout batches ++ t))
opened_parts layout batch batches t = ap (λ (l : List ℕ). 165 ∷ l) (append_assoc (frame layout batch) (opened layout batches) t)

pub more_commands : (low : ℕ) (batch : Batch) (batches : List Batch) → low + length (commands_in (batch ∷ batches)) ≡ (low + length batch.commands) + length (commands_in batches)
more_commands low batch batches = omega (arith, length-append batch.commands (commands_in batches))

never_goes_on : (layout : Layout) (low : ℕ) (batch : Batch) (batches : List Batch) (x : ℕ) (xs tail : List ℕ) → IsBatch layout batch → batch.first ≡ low
    → Stops layout (low + 0) tail → tail ≡ opened layout (batch ∷ batches) ++ x ∷ xs → ⊥
never_goes_on layout low batch batches x xs tail fits first stops e =
    let more = begins layout batches x xs in
    let is : tail ≡ 165 ∷ (frame layout batch ++ more.0 ∷ more.1) = e ∙ opened_parts layout batch batches (x ∷ xs) ∙ ap (λ (l : List ℕ). 165 ∷ (frame layout batch ++ l)) more.2 in
    stops batch more.0 more.1 fits (omega arith) is

same_run : (layout : Layout) → IsLayout layout → (low : ℕ) (a b : List Batch) (x : ℕ) (xs : List ℕ) (y : ℕ) (ys : List ℕ) → IsRun layout low a → IsRun layout low b
    → Stops layout (low + length (commands_in a)) (x ∷ xs) → Stops layout (low + length (commands_in b)) (y ∷ ys) → opened layout a ++ x ∷ xs ≡ opened layout b ++ y ∷ ys
    → (a ≡ b) × (x ∷ xs ≡ y ∷ ys)
same_run layout room low [] [] x xs y ys run_a run_b stops_a stops_b e = (refl, e)
same_run layout room low [] (d ∷ b) x xs y ys run_a run_b stops_a stops_b e = absurd (never_goes_on layout low d b y ys (x ∷ xs) run_b.0 run_b.1 stops_a e)
same_run layout room low (c ∷ a) [] x xs y ys run_a run_b stops_a stops_b e = absurd (never_goes_on layout low c a x xs (y ∷ ys) run_a.0 run_a.1 stops_b (sym e))
same_run layout room low (c ∷ a) (d ∷ b) x xs y ys run_a run_b stops_a stops_b e =
    let whole = sym (opened_parts layout c a (x ∷ xs)) ∙ e ∙ opened_parts layout d b (y ∷ ys) in
    let frames = same_frames layout room c d _ _ run_a.0 run_b.0 (same_rest 165 165 _ _ whole).1 in
    let same : c ≡ d = frames.0 in
    let run_d : IsRun layout (low + length c.commands) b = subst (λ (z : Batch). IsRun layout (low + length z.commands) b) (sym same) run_b.2 in
    let stops_c : Stops layout ((low + length c.commands) + length (commands_in a)) (x ∷ xs) = subst (λ (n : ℕ). Stops layout n (x ∷ xs)) (more_commands low c a) stops_a in
    let stops_d : Stops layout ((low + length d.commands) + length (commands_in b)) (y ∷ ys) = subst (λ (n : ℕ). Stops layout n (y ∷ ys)) (more_commands low d b) stops_b in
    let stops_e : Stops layout ((low + length c.commands) + length (commands_in b)) (y ∷ ys) = subst (λ (z : Batch). Stops layout ((low + length z.commands) + length (commands_in b)) (y ∷ ys)) (sym same) stops_d in
    let rest = same_run layout room (low + length c.commands) a b x xs y ys run_a.2 run_d stops_c stops_e frames.1 in
    let others = rest.0 in
    let is : c ∷ a ≡ d ∷ b = cc in
    (is, rest.1)

-- a log that goes on with this byte and this rest, and not with a batch
record IsStop (layout : Layout) (generation low : ℕ) (batches : List Batch) (byte : ℕ) (rest content : List ℕ) : Type 0 where
  bytes : content ≡ log_front layout generation low batches ++ byte ∷ rest
  stops : Stops layout (low + length (commands_in batches)) (byte ∷ rest)
  log : IsLog layout generation low batches

same_stop : (layout : Layout) → IsLayout layout → (generation low : ℕ) (a b : List Batch) (x : ℕ) (xs : List ℕ) (y : ℕ) (ys content : List ℕ)
    → IsStop layout generation low a x xs content → IsStop layout generation low b y ys content → (a ≡ b) × (x ≡ y) × (xs ≡ ys)
same_stop layout room generation low a b x xs y ys content p q =
    let head : List ℕ = header layout generation low in
    let e : head ++ (opened layout a ++ x ∷ xs) ≡ head ++ (opened layout b ++ y ∷ ys) =
    sym (append_assoc head (opened layout a) (x ∷ xs)) ∙ sym p.bytes ∙ q.bytes ∙ append_assoc head (opened layout b) (y ∷ ys) in
    let run = same_run layout room low a b x xs y ys p.log.in_order q.log.in_order p.stops q.stops (append_cancel_left head _ _ e) in
    let parts = same_rest x y xs ys run.1 in
    (run.0, parts.0, parts.1)

closed_stops : (layout : Layout) (generation low : ℕ) (a : List Batch) (content : List ℕ) → (h : IsClosed layout generation low a content) → IsStop layout generation low a h.gate h.rest content
closed_stops layout generation low a content h = record {
  bytes = h.bytes;
  stops = λ batch after behind fits first e. h.closed (same_rest h.gate 165 _ _ e).0;
  log = h.log;
}

ended_stops : (layout : Layout) (generation low : ℕ) (a : List Batch) (next : ℕ) (content : List ℕ) → (h : IsEnded layout generation low a next content)
    → IsStop layout generation low a 165 (end_frame next ++ h.after ∷ h.rest) content
ended_stops layout generation low a next content h = record {
  bytes = h.bytes;
  stops = λ batch after behind fits first e.
      let kinds = sym (end_parts next (h.after ∷ h.rest)) ∙ (same_rest 165 165 _ _ e).1 ∙ frame_parts layout batch (after ∷ behind) in
      let impossible : 2 ≡ 1 = (same_rest 2 1 _ _ kinds).0 in
      omega arith;
  log = h.log;
}

broken_stops : (layout : Layout) (generation low : ℕ) (a : List Batch) (content : List ℕ) → (h : IsBroken layout generation low a content) → IsStop layout generation low a 165 h.rest content
broken_stops layout generation low a content h = record {
  bytes = h.bytes;
  stops = λ batch after behind fits first e. h.no_frame.no_batch batch after behind fits first (same_rest 165 165 _ _ e).1;
  log = h.log;
}

module _ (layout : Layout) (room : IsLayout layout) (generation low : ℕ) where
  pub one_closed : (content : List ℕ) (a b : List Batch) → IsClosed layout generation low a content → IsClosed layout generation low b content → a ≡ b
  one_closed content a b p q = (same_stop layout room generation low a b _ _ _ _ content (closed_stops layout generation low a content p) (closed_stops layout generation low b content q)).0

  pub one_end : (m n : ℕ) (content : List ℕ) (a b : List Batch) → IsEnded layout generation low a m content → IsEnded layout generation low b n content → (a ≡ b) × (m ≡ n)
  one_end m n content a b p q =
      let same = same_stop layout room generation low a b _ _ _ _ content (ended_stops layout generation low a m content p) (ended_stops layout generation low b n content q) in
      let parts = sym (end_parts m (p.after ∷ p.rest)) ∙ same.2 ∙ end_parts n (q.after ∷ q.rest) in
      let lens = same_number 4 8 8 _ _ (omega arith) (omega arith) (same_rest 2 2 _ _ parts).1 in
      (same.0, (same_number 8 m n _ _ p.next_fits q.next_fits lens.1).0)

  pub never_both : (next : ℕ) (content : List ℕ) (a b : List Batch) → IsClosed layout generation low a content → IsEnded layout generation low b next content → ⊥
  never_both next content a b p q =
      p.closed (same_stop layout room generation low a b _ _ _ _ content (closed_stops layout generation low a content p) (ended_stops layout generation low b next content q)).1

  pub one_broken : (content : List ℕ) (a b : List Batch) → IsBroken layout generation low a content → IsBroken layout generation low b content → a ≡ b
  one_broken content a b p q = (same_stop layout room generation low a b _ _ _ _ content (broken_stops layout generation low a content p) (broken_stops layout generation low b content q)).0

  pub closed_whole : (content : List ℕ) (a b : List Batch) → IsClosed layout generation low a content → IsBroken layout generation low b content → ⊥
  closed_whole content a b p q =
      p.closed (same_stop layout room generation low a b _ _ _ _ content (closed_stops layout generation low a content p) (broken_stops layout generation low b content q)).1

  pub ended_whole : (content : List ℕ) (a b : List Batch) → IsEnded layout generation low a (generation + 1) content → IsBroken layout generation low b content → ⊥
  ended_whole content a b p q =
      let same = same_stop layout room generation low a b _ _ _ _ content (ended_stops layout generation low a (generation + 1) content p) (broken_stops layout generation low b content q) in
      q.no_frame.no_end p.after p.rest p.next_fits (sym same.2)

  pub one_reading : (content : List ℕ) (a b : Reading) → Reads layout generation low content a → Reads layout generation low content b → a ≡ b
  one_reading content (closed a) (closed b) p q = ap closed (one_closed content a b p q)
  one_reading content (closed a) (ended b) p q = absurd (never_both (generation + 1) content a b p q)
  one_reading content (closed a) (broken b) p q = absurd (closed_whole content a b p q)
  one_reading content (ended a) (closed b) p q = absurd (never_both (generation + 1) content b a q p)
  one_reading content (ended a) (ended b) p q = ap ended (one_end (generation + 1) (generation + 1) content a b p q).0
  one_reading content (ended a) (broken b) p q = absurd (ended_whole content a b p q)
  one_reading content (broken a) (closed b) p q = absurd (closed_whole content b a q p)
  one_reading content (broken a) (ended b) p q = absurd (ended_whole content b a q p)
  one_reading content (broken a) (broken b) p q = ap broken (one_broken content a b p q)
