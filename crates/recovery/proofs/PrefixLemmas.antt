-- The batches that were read of a log are the first of its batches.
use Rattle.std.proofs.Common.{◌≡◌, ℕ, ◌+◌, ◌≤◌, List, [], ◌∷◌, ◌++◌, length, drop, refl, sym, ap, subst, ◌∙◌, append_assoc, arith}
use Rattle.std.proofs.lemmas.List.{length-append, append_cancel_left}
use Rattle.log_records.specs.Layout.{Layout, IsLayout}
use Rattle.store_layout.specs.Logs.{Batch, IsBatch, IsLog, IsRun, commands_in, end_frame, frame, header, log_front, opened}
use Rattle.store_layout.specs.Readings.{gate_behind}
use Rattle.store_layout.proofs.FrameLemmas.{same_rest, same_frames, frame_parts, end_parts}
use Rattle.store_layout.proofs.LogLemmas.{length-end_frame}
use Rattle.store_layout.proofs.ReadingLemmas.{begins, more_commands, opened_parts}
use Rattle.gate_log.specs.Scan.{HasRead, ReadsAtGate, ScanState, shut, whole_batch, whole_end}
use Rattle.gate_log.proofs.Steps.{at_gate}
use Rattle.recovery.specs.declared.replay.End.{End}
use Rattle.recovery.specs.declared.replay.End.TheVariants.{Closed, Ended}
use Rattle.recovery.specs.LogReading.{EndsAt, IsEnd, end_gate}

module _ (layout : Layout) where
  -- no batch that begins with this ticket stands here behind an open gate
  abbrev Stops : ℕ → List ℕ → Type 0
  Stops expected tail = (batch : Batch) (after : ℕ) (behind : List ℕ) → IsBatch layout batch → batch.first ≡ expected → tail ≡ 165 ∷ (frame layout batch ++ after ∷ behind) → ⊥

  -- behind the batches that were read come the others of the log, and then the stop
  record Follows (read all : List Batch) (tail stop : List ℕ) : Type 0 where
    more : List Batch
    low : ℕ
    run : IsRun layout low more
    size : length (opened layout all) ≡ length (opened layout read) + length (opened layout more)
    tail_is : tail ≡ opened layout more ++ stop

  never_over : (low : ℕ) (batch : Batch) (batches : List Batch) (x : ℕ) (xs tail : List ℕ) → IsBatch layout batch → batch.first ≡ low
      → Stops (low + 0) tail → opened layout (batch ∷ batches) ++ x ∷ xs ≡ tail → ⊥
  never_over low batch batches x xs tail fits first stops e =
      let more = begins layout batches x xs in
      let is : tail ≡ 165 ∷ (frame layout batch ++ more.0 ∷ more.1) = sym e ∙ opened_parts layout batch batches (x ∷ xs) ∙ ap (λ (l : List ℕ). 165 ∷ (frame layout batch ++ l)) more.2 in
      stops batch more.0 more.1 fits (omega arith) is

  follow : IsLayout layout → (low : ℕ) (a b : List Batch) (x : ℕ) (xs : List ℕ) (y : ℕ) (ys : List ℕ) → IsRun layout low a → IsRun layout low b
      → Stops (low + length (commands_in b)) (y ∷ ys) → opened layout a ++ x ∷ xs ≡ opened layout b ++ y ∷ ys → Follows a b (x ∷ xs) (y ∷ ys)
  follow room low [] b x xs y ys run_a run_b stops e = record { more = b; low = low; run = run_b; size = omega arith; tail_is = e }
  follow room low (c ∷ a) [] x xs y ys run_a run_b stops e = absurd (never_over low c a x xs (y ∷ ys) run_a.0 run_a.1 stops e)
  follow room low (c ∷ a) (d ∷ b) x xs y ys run_a run_b stops e =
      let whole = sym (opened_parts layout c a (x ∷ xs)) ∙ e ∙ opened_parts layout d b (y ∷ ys) in
      let frames = same_frames layout room c d _ _ run_a.0 run_b.0 (same_rest 165 165 _ _ whole).1 in
      let same : c ≡ d = frames.0 in
      let run_d : IsRun layout (low + length c.commands) b = subst (λ (z : Batch). IsRun layout (low + length z.commands) b) (sym same) run_b.2 in
      let stops_d : Stops ((low + length d.commands) + length (commands_in b)) (y ∷ ys) = subst (λ (n : ℕ). Stops n (y ∷ ys)) (more_commands low d b) stops in
      let stops_c : Stops ((low + length c.commands) + length (commands_in b)) (y ∷ ys) = subst (λ (z : Batch). Stops ((low + length z.commands) + length (commands_in b)) (y ∷ ys)) (sym same) stops_d in
      let rest = follow room (low + length c.commands) a b x xs y ys run_a.2 run_d stops_c frames.1 in
      let size = rest.size in
      let one = length-append (frame layout c) (opened layout a) in
      let other = length-append (frame layout d) (opened layout b) in
      let long : length (frame layout c) ≡ length (frame layout d) = ap (λ (z : Batch). length (frame layout z)) same in
      record {
        more = rest.more;
        low = rest.low;
        run = rest.run;
        size = omega (arith, size, one, other, long);
        tail_is = rest.tail_is;
      }

  -- where the log stops behind its batches, and up to where it is read
  record StopsAt (generation low : ℕ) (batches : List Batch) (content : List ℕ) (last : ℕ) : Type 0 where
    byte : ℕ
    rest : List ℕ
    bytes : content ≡ log_front layout generation low batches ++ byte ∷ rest
    stops : Stops (low + length (commands_in batches)) (byte ∷ rest)
    log : IsLog layout generation low batches
    size : ℕ
    reads : ReadsAtGate layout (byte ∷ rest) size
    reached : gate_behind layout generation low batches + size ≡ last + 1

  stop_at : (generation low : ℕ) (batches : List Batch) (content : List ℕ) (last : ℕ) (end : End) → IsEnd layout end generation low batches content
      → last ≡ end_gate end (gate_behind layout generation low batches) → StopsAt generation low batches content last
  stop_at generation low batches content last Closed h is = record {
    byte = h.gate;
    rest = h.rest;
    bytes = h.bytes;
    stops = λ batch after behind fits first e. h.closed (same_rest h.gate 165 _ _ e).0;
    log = h.log;
    size = 1;
    reads = shut h.gate h.rest h.closed refl refl;
    reached = omega (arith, is);
  }
  stop_at generation low batches content last Ended h is = record {
    byte = 165;
    rest = end_frame (generation + 1) ++ h.after ∷ h.rest;
    bytes = h.bytes;
    stops = λ batch after behind fits first e.
        let kinds = sym (end_parts (generation + 1) (h.after ∷ h.rest)) ∙ (same_rest 165 165 _ _ e).1 ∙ frame_parts layout batch (after ∷ behind) in
        let impossible : 2 ≡ 1 = (same_rest 2 1 _ _ kinds).0 in
        omega arith;
    log = h.log;
    size = 2 + length (end_frame (generation + 1));
    reads = whole_end (generation + 1) h.after h.rest refl refl;
    reached = omega (arith, is, length-end_frame (generation + 1));
  }

  -- so many bytes are read at the gate of the scan, which are no more than those of the log
  pub record ReadsInside (scan : ScanState) (content : List ℕ) (last : ℕ) : Type 0 where
    pub size : ℕ
    pub reads : ReadsAtGate layout (drop scan.gate content) size
    pub some : 1 ≤ size
    pub inside : scan.gate + size ≤ last + 1

  first_of_more : (more : List Batch) (low y : ℕ) (ys : List ℕ) (gate size last : ℕ) → IsRun layout low more → ReadsAtGate layout (y ∷ ys) size → 1 ≤ size
      → gate + length (opened layout more) + size ≡ last + 1
      → (n : ℕ) × ReadsAtGate layout (opened layout more ++ y ∷ ys) n × (1 ≤ n) × (gate + n ≤ last + 1)
  first_of_more [] low y ys gate size last run reads some reached = (size, reads, some, omega (arith, reached))
  first_of_more (batch ∷ more) low y ys gate size last run reads some reached =
      let next = begins layout more y ys in
      let parts = opened_parts layout batch more (y ∷ ys) ∙ ap (λ (l : List ℕ). 165 ∷ (frame layout batch ++ l)) next.2 in
      let both = length-append (frame layout batch) (opened layout more) in
      (2 + length (frame layout batch), whole_batch batch next.0 next.1 run.0 parts refl, omega arith, omega (arith, reached, some, both))

  some_read : (tail : List ℕ) (size : ℕ) → ReadsAtGate layout tail size → 1 ≤ size
  some_read tail size (shut byte rest closed e s) = omega (arith, s)
  some_read tail size (whole_batch batch after behind fits e s) = omega (arith, s)
  some_read tail size (whole_end next after behind e s) = omega (arith, s)

  pub reads_inside : IsLayout layout → (generation low : ℕ) (batches : List Batch) (scan : ScanState) (content : List ℕ) (last : ℕ) → scan.generation ≡ generation → HasRead layout low batches scan content
      → EndsAt layout generation low content last → ReadsInside scan content last
  reads_inside room generation low batches scan content last same read ends =
      let stop = stop_at generation low ends.batches content last ends.end ends.ends ends.gate in
      let head : List ℕ = header layout generation low in
      let front : content ≡ log_front layout generation low batches ++ read.byte ∷ read.rest =
      read.bytes ∙ ap (λ (n : ℕ). log_front layout n low batches ++ read.byte ∷ read.rest) same in
      let e : head ++ (opened layout batches ++ read.byte ∷ read.rest) ≡ head ++ (opened layout ends.batches ++ stop.byte ∷ stop.rest) =
      sym (append_assoc head (opened layout batches) (read.byte ∷ read.rest)) ∙ sym front ∙ stop.bytes ∙ append_assoc head (opened layout ends.batches) (stop.byte ∷ stop.rest) in
      let follows = follow room low batches ends.batches read.byte read.rest stop.byte stop.rest read.log.in_order stop.log.in_order stop.stops (append_cancel_left head _ _ e) in
      let place : scan.gate ≡ length (log_front layout generation low batches) = read.place ∙ ap (λ (n : ℕ). length (log_front layout n low batches)) same in
      let here = length-append head (opened layout batches) in
      let there = length-append head (opened layout ends.batches) in
      let size = follows.size in
      let reached = stop.reached in
      let some = some_read (stop.byte ∷ stop.rest) stop.size stop.reads in
      let first = first_of_more follows.more follows.low stop.byte stop.rest scan.gate stop.size last follows.run stop.reads some (omega (arith, place, here, there, size, reached)) in
      let tail = at_gate layout low batches scan content read ∙ follows.tail_is in
      record {
        size = first.0;
        reads = subst (λ (l : List ℕ). ReadsAtGate layout l first.0) (sym tail) first.1;
        some = first.2;
        inside = first.3;
      }
