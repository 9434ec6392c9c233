-- What the three steps of a capture of one stripe leave.
use Rattle.std.proofs.Common.{Option, Result, Ok, Err, OnOk, is_some, Bool, true, false, ◌≡◌, ◌⊎◌, inl, inr, ℕ, ◌+◌, ◌<◌, ◌≤◌, List, [], ◌∷◌, ◌++◌, length, Some, None, append-nil, refl, sym, ◌∙◌, ap, subst, arith}
use Rattle.std.proofs.lemmas.List.{append_assoc, length_push, same_from_push}
use Rattle.map_types.specs.declared.refusals.Refusal.{Refusal}
use Rattle.map_types.specs.declared.refusals.Refusal.TheVariants as refusal
use Rattle.map_types.specs.declared.commands.Command.{Command}
use Rattle.map_types.specs.declared.texts.Value.{Value}
use Rattle.atomic_methods.specs.PartState.{PartState}
use Rattle.ticket_order.specs.declared.capture_walk.Captured.{Captured}
use Rattle.ticket_order.specs.declared.capture_walk.CaptureStage.TheVariants as capture
use Rattle.ticket_order.specs.declared.walk.Stage.{Stage}
use Rattle.ticket_order.specs.declared.walk.Stage.TheVariants as stage
use Rattle.ticket_order.specs.declared.walk.Stepped.{Stepped}
use Rattle.ticket_order.specs.declared.walk.Stepped.TheVariants as stepped
use Rattle.ticket_order.specs.declared.walk.Taken.{Taken}
use Rattle.ticket_order.specs.declared.walk.Walk.{Walk}
use Rattle.ticket_order.specs.declared.stripe.Entry.{Entry}
use Rattle.ticket_order.specs.declared.record.Purpose.TheVariants.{Nothing, Capture}
use Rattle.ticket_order.specs.declared.record.StepMade.{StepMade}
use Rattle.ticket_order.specs.declared.record.StepMade.TheVariants.{FoundHeld, Gave, Looked, Took}
use Rattle.ticket_order.specs.declared.record.Record.{Record}
use Rattle.ticket_order.specs.Records.{giving, looking, missing, stripe_held, taking}
use Rattle.ticket_order.specs.Calls.{CapturesStripe, HasLookedAt, RefusesCapture}
use Rattle.ticket_order.specs.Walks.{Fits, FitsStage, Give, HasContent, KeepsCaptured, KeepsRefusal, Look, Next, ToCapture, captured_of_stage, captured_of_walk, entries_captured, part_of_stage, part_of_walk, left_of_stage, next_of_stage, refusal_of_stage, refusal_of_walk, steps_left, IsUnderWay}
use Rattle.ticket_order.proofs.Left.{some_left}
use Rattle.map_model.specs.Maps.{Map}
use Rattle.flusher.specs.Fitting.{IsBeside}
use Rattle.std.specs.FinMap as finite
use Rattle.disk_model.specs.Files.{File}
use Rattle.store_layout.specs.Checkpoints.{Section}
use Rattle.checkpoint_file.specs.States.{AreKeysOf, CheckpointState, with_section}
use Rattle.checkpoint_file.specs.CheckpointStates.{Stands}
use Rattle.checkpoint_walk.specs.Capturing.{HasLooked, HasTaken, IsStaged, StandsWith}
use Rattle.checkpoint_walk.proofs.CaptureWalks.{same_stripe, by_change, by_read, by_release, by_sweep}

-- ---- its steps
-- TAKE, LOOK, GIVE
abbrev made_by : List StepMade → ℕ → List Entry → ℕ → ℕ → ℕ → List StepMade
made_by steps i outbox last q j = ((steps ++ Took i outbox last ∷ []) ++ Looked q ∷ []) ++ Gave j ∷ []

three : (steps : List StepMade) (i : ℕ) (outbox : List Entry) (last q j : ℕ) → length (made_by steps i outbox last q j) ≡ length steps + 3
three steps i outbox last q j = omega (
  arith,
  length_push ((steps ++ Took i outbox last ∷ []) ++ Looked q ∷ []) (Gave j),
  length_push (steps ++ Took i outbox last ∷ []) (Looked q),
  length_push steps (Took i outbox last),
)

-- a stripe that was put back, once it was looked at
pub record IsPutBack (b : Record) (i : ℕ) (w : Record) : Type 0 where
  pub at : Record
  pub looked : HasLookedAt b i at
  pub is : w ≡ giving Nothing at

abbrev given_back : (b : Record) (i : ℕ) (p : Record) → HasLookedAt b i p → Record
given_back b i p x = giving Nothing (looking (taking b i x.part x.outbox x.last x.taken) x.looked)

back_is : (b : Record) (i : ℕ) (w : Record) (k : IsPutBack b i w) → w ≡ given_back b i k.at k.looked
back_is b i w k = k.is ∙ ap (giving Nothing) k.looked.is

refused_by : (b : Record) (i : ℕ) (e : Refusal) (w : Record) → RefusesCapture b i e w → (w ≡ missing b i) ⊎ IsPutBack b i w
refused_by b i (refusal.Busy j) w r = inl r.1
refused_by b i refusal.NoMemory w r = inr (record { at = r.holder; looked = r.before; is = r.is })
refused_by b i refusal.LogFull w r = inr (record { at = r.holder; looked = r.before.at; is = r.is })
refused_by b i refusal.NullValue w r = absurd r
refused_by b i refusal.KeyTooLong w r = absurd r
refused_by b i refusal.ValueTooLong w r = absurd r
refused_by b i refusal.UnknownMethod w r = absurd r
refused_by b i refusal.UnknownFunction w r = absurd r
refused_by b i refusal.BadFrame w r = absurd r
refused_by b i refusal.Failed w r = absurd r
refused_by b i refusal.TicketsSpent w r = absurd r
refused_by b i refusal.NotFormatted w r = absurd r
refused_by b i (refusal.Damaged file offset) w r = absurd r
refused_by b i refusal.WrongVersion w r = absurd r
refused_by b i refusal.AlreadyFormatted w r = absurd r
refused_by b i refusal.WrongPhase w r = absurd r
refused_by b i refusal.TooEarly w r = absurd r
refused_by b i refusal.NotText w r = absurd r
refused_by b i refusal.SeatsSpent w r = absurd r

back_long : (b : Record) (i : ℕ) (w : Record) → IsPutBack b i w → length w.steps ≡ length b.steps + 3
back_long b i w k = ap (λ (z : Record). length z.steps) (back_is b i w k) ∙ three b.steps i k.looked.outbox k.looked.last _ _

missed_long : (b : Record) (i : ℕ) (w : Record) → w ≡ missing b i → length w.steps ≡ length b.steps + 1
missed_long b i w is = ap (λ (z : Record). length z.steps) is ∙ length_push b.steps (FoundHeld i)

captured_long : (n : ℕ) (b : Record) (i mark : ℕ) (es : List (List ℕ × Value)) (w : Record) → CapturesStripe n b i mark es w → length w.steps ≡ length b.steps + 3
captured_long n b i mark es w k = ap (λ (z : Record). length z.steps) k.is ∙ three b.steps i k.outbox k.last _ _

-- a refusal after so many steps
pub one_missed : (b : Record) (i : ℕ) (e : Refusal) (w : Record) → RefusesCapture b i e w → length w.steps ≡ length b.steps + 1 → w ≡ missing b i
one_missed b i e w r made = elim (refused_by b i e w r) [ inl is ↦ is | inr k ↦ (let long = back_long b i w k in absurd (omega (arith, long, made))) ]

no_second : (b : Record) (i : ℕ) (e : Refusal) (w : Record) → RefusesCapture b i e w → length w.steps ≡ length b.steps + 2 → ⊥
no_second b i e w r made = elim (refused_by b i e w r) [
  | inl is ↦ (let long = missed_long b i w is in omega (arith, long, made))
  | inr k ↦ (let long = back_long b i w k in omega (arith, long, made))
]

pub third_put_back : (b : Record) (i : ℕ) (e : Refusal) (w : Record) → RefusesCapture b i e w → length w.steps ≡ length b.steps + 3 → IsPutBack b i w
third_put_back b i e w r made = elim (refused_by b i e w r) [ inl is ↦ (let long = missed_long b i w is in absurd (omega (arith, long, made))) | inr k ↦ k ]

-- ---- the stage after so many steps
taken_at : (n : ℕ) (b : Record) (i : ℕ) (s : Stage) (p : Record) → FitsStage n b (ToCapture i) s p → length p.steps ≡ length b.steps + 1 → next_of_stage n s ≡ Look
taken_at n b i (stage.Change s) p k made = absurd (by_change n b i s p k)
taken_at n b i (stage.Read s) p k made = absurd (by_read n b i s p k)
taken_at n b i (stage.Release s) p k made = absurd (by_release n b i s p k)
taken_at n b i (stage.Sweep s) p k made = absurd (by_sweep n b i s p k)
taken_at n b i (stage.Capture (capture.Begins j)) p k made = absurd (omega (arith, ap (λ (z : Record). length z.steps) k.0.is, made))
taken_at n b i (stage.Capture (capture.HasTaken t)) p k made = refl
taken_at n b i (stage.Capture (capture.HasLooked t z)) p k made = (
    let at = taking b t.stripe t.content.part.map t.content.outbox.items t.content.last k.1.taken in
    let q = at.opening.first + length (at.seen ++ k.1.looked) in
    let long : length p.steps ≡ length ((b.steps ++ Took t.stripe t.content.outbox.items t.content.last ∷ []) ++ Looked q ∷ []) = ap (λ (x : Record). length x.steps) k.1.is in
    absurd (omega (arith, long, length_push (b.steps ++ Took t.stripe t.content.outbox.items t.content.last ∷ []) (Looked q), length_push b.steps (Took t.stripe t.content.outbox.items t.content.last), made))
    )
taken_at n b i (stage.GivingBack t e) p k made = absurd (no_second b i e (giving Nothing p) k.refused (omega (arith, length_push p.steps (Gave (stripe_held p.holding)), made)))

same_gave : (i j : ℕ) → Gave i ≡ Gave j → i ≡ j
same_gave i j e = cc

-- the stripe that goes back is the one that was taken
gave_of : (b : Record) (i : ℕ) (p : Record) (k : IsPutBack b i (giving Nothing p)) (t : Taken) (c : HasContent p t) → t.stripe ≡ i
gave_of b i p k t c =
    let x = k.looked in
    let at : Record = looking (taking b i x.part x.outbox x.last x.taken) x.looked in
    let last : Gave (stripe_held p.holding) ≡ Gave i = (same_from_push p.steps at.steps (Gave (stripe_held p.holding)) (Gave i) (ap (λ (r : Record). r.steps) (back_is b i (giving Nothing p) k))).1 in
    let held : stripe_held p.holding ≡ c.held.stripe = ap stripe_held c.holding in
    sym c.stripe_is ∙ sym held ∙ same_gave (stripe_held p.holding) i last

looked_at : (n : ℕ) (b : Record) (i : ℕ) (s : Stage) (p : Record) → FitsStage n b (ToCapture i) s p → length p.steps ≡ length b.steps + 2 → next_of_stage n s ≡ Give i
looked_at n b i (stage.Change s) p k made = absurd (by_change n b i s p k)
looked_at n b i (stage.Read s) p k made = absurd (by_read n b i s p k)
looked_at n b i (stage.Release s) p k made = absurd (by_release n b i s p k)
looked_at n b i (stage.Sweep s) p k made = absurd (by_sweep n b i s p k)
looked_at n b i (stage.Capture (capture.Begins j)) p k made = absurd (omega (arith, ap (λ (z : Record). length z.steps) k.0.is, made))
looked_at n b i (stage.Capture (capture.HasTaken t)) p k made = (
    let long : length p.steps ≡ length (b.steps ++ Took t.stripe t.content.outbox.items t.content.last ∷ []) = ap (λ (x : Record). length x.steps) k.1.is in
    absurd (omega (arith, long, length_push b.steps (Took t.stripe t.content.outbox.items t.content.last), made))
    )
looked_at n b i (stage.Capture (capture.HasLooked t z)) p k made = ap Give (sym (same_stripe i t.stripe k.0))
looked_at n b i (stage.GivingBack t e) p k made = ap Give (gave_of b i p (third_put_back b i e (giving Nothing p) k.refused (omega (arith, length_push p.steps (Gave (stripe_held p.holding)), made))) t k.content)

one_left : (n : ℕ) (b : Record) (i : ℕ) (s : Stage) (p : Record) → FitsStage n b (ToCapture i) s p → length p.steps ≡ length b.steps + 2 → left_of_stage s ≡ 1
one_left n b i (stage.Change s) p k made = absurd (by_change n b i s p k)
one_left n b i (stage.Read s) p k made = absurd (by_read n b i s p k)
one_left n b i (stage.Release s) p k made = absurd (by_release n b i s p k)
one_left n b i (stage.Sweep s) p k made = absurd (by_sweep n b i s p k)
one_left n b i (stage.Capture (capture.Begins j)) p k made = absurd (omega (arith, ap (λ (z : Record). length z.steps) k.0.is, made))
one_left n b i (stage.Capture (capture.HasTaken t)) p k made = (
    let long : length p.steps ≡ length (b.steps ++ Took t.stripe t.content.outbox.items t.content.last ∷ []) = ap (λ (x : Record). length x.steps) k.1.is in
    absurd (omega (arith, long, length_push b.steps (Took t.stripe t.content.outbox.items t.content.last), made))
    )
one_left n b i (stage.Capture (capture.HasLooked t z)) p k made = refl
one_left n b i (stage.GivingBack t e) p k made = refl

refused_at : (n : ℕ) (b : Record) (i : ℕ) (s : Stage) (p : Record) (e : Refusal) → FitsStage n b (ToCapture i) s p → length p.steps ≡ length b.steps + 2
    → KeepsCaptured (captured_of_stage s) (stepped.Refused e) → KeepsRefusal (refusal_of_stage s) (stepped.Refused e) → refusal_of_stage s ≡ Some e
refused_at n b i (stage.Change s) p e k made kept refused = absurd (by_change n b i s p k)
refused_at n b i (stage.Read s) p e k made kept refused = absurd (by_read n b i s p k)
refused_at n b i (stage.Release s) p e k made kept refused = absurd (by_release n b i s p k)
refused_at n b i (stage.Sweep s) p e k made kept refused = absurd (by_sweep n b i s p k)
refused_at n b i (stage.Capture (capture.Begins j)) p e k made kept refused = absurd (omega (arith, ap (λ (z : Record). length z.steps) k.0.is, made))
refused_at n b i (stage.Capture (capture.HasTaken t)) p e k made kept refused = (
    let long : length p.steps ≡ length (b.steps ++ Took t.stripe t.content.outbox.items t.content.last ∷ []) = ap (λ (x : Record). length x.steps) k.1.is in
    absurd (omega (arith, long, length_push b.steps (Took t.stripe t.content.outbox.items t.content.last), made))
    )
refused_at n b i (stage.Capture (capture.HasLooked t z)) p e k made kept refused = cc
refused_at n b i (stage.GivingBack t f) p e k made kept refused = cc

pub taken_next : (n : ℕ) (b : Record) (i : ℕ) (walk : Walk) (p : Record) → Fits n b (ToCapture i) walk p → length p.steps ≡ length b.steps + 1 → HasTaken n b i walk p
taken_next n b i walk p k made = record { fits = k; next = taken_at n b i walk.stage p k made; one_made = made }

pub looked_next : (n : ℕ) (b : Record) (i : ℕ) (walk : Walk) (p : Record) → Fits n b (ToCapture i) walk p → length p.steps ≡ length b.steps + 2 → HasLooked n b i walk p
looked_next n b i walk p k made = record { fits = k; next = looked_at n b i walk.stage p k made; two_made = made }

-- ---- how a step ends
-- a TAKE that leaves nothing to go on with found the stripe held
pub missed : (n : ℕ) (b : Record) (i : ℕ) (w : Record) (r : Stepped) → Next n b (ToCapture i) r w → ((x : Walk) → r ≡ stepped.More x → ⊥) → length w.steps ≡ length b.steps + 1 → w ≡ missing b i
missed n b i w (stepped.More x) next not_more made = absurd (not_more x refl)
missed n b i w (stepped.Held h) next not_more made = absurd next
missed n b i w (stepped.Released z) next not_more made = absurd next
missed n b i w (stepped.Swept es) next not_more made = absurd next
missed n b i w (stepped.Captured z) next not_more made = (let long = captured_long n b i z.mark (entries_captured z) w next in absurd (omega (arith, long, made)))
missed n b i w (stepped.Refused e) next not_more made = one_missed b i e w next made

-- after its LOOK a walk goes on
pub goes_on : (n : ℕ) (b : Record) (i : ℕ) (w : Record) (r : Stepped) → Next n b (ToCapture i) r w → length w.steps ≡ length b.steps + 2 → (x : Walk) × (r ≡ stepped.More x)
goes_on n b i w (stepped.More x) next made = (x, refl)
goes_on n b i w (stepped.Held h) next made = absurd next
goes_on n b i w (stepped.Released z) next made = absurd next
goes_on n b i w (stepped.Swept es) next made = absurd next
goes_on n b i w (stepped.Captured z) next made = (let long = captured_long n b i z.mark (entries_captured z) w next in absurd (omega (arith, long, made)))
goes_on n b i w (stepped.Refused e) next made = absurd (no_second b i e w next made)

-- its GIVE is its last step
pub ends : (n : ℕ) (b : Record) (i : ℕ) (walk : Walk) (p : Record) (x : Walk) → HasLooked n b i walk p → steps_left x < steps_left walk → ⊥
ends n b i walk p x k fewer = (let last = one_left n b i walk.stage p k.fits k.two_made in omega (arith, fewer, some_left x, last))

-- what it has copied it hands out, and else it was to refuse
pub refuses : (n : ℕ) (b : Record) (i : ℕ) (walk : Walk) (p : Record) (e : Refusal) → HasLooked n b i walk p → KeepsCaptured (captured_of_walk walk) (stepped.Refused e) → KeepsRefusal (refusal_of_walk walk) (stepped.Refused e) → refusal_of_walk walk ≡ Some e
refuses n b i walk p e k kept refused = refused_at n b i walk.stage p e k.fits k.two_made kept refused

-- ---- the keeper's record beside it
beside_at : (b v w : Record) → IsBeside b v → w ≡ v → IsBeside b w
beside_at b v w k is = subst (IsBeside b) (sym is) k

pub beside_missed : (b : Record) (i : ℕ) → IsBeside b (missing b i)
beside_missed b i = record { opening = refl; keeper = refl; taken = refl; published = refl; failed = refl; seen = record { more = []; is = sym (append-nil b.seen) }; made = FoundHeld i ∷ []; steps = refl }

beside_begun : (b : Record) → IsBeside b b
beside_begun b = record { opening = refl; keeper = refl; taken = refl; published = refl; failed = refl; seen = record { more = []; is = sym (append-nil b.seen) }; made = []; steps = sym (append-nil b.steps) }

beside_taken : (b : Record) (i : ℕ) (m : Map) (es : List Entry) (last : ℕ) (taken : List Command) → IsBeside b (taking b i m es last taken)
beside_taken b i m es last taken = record { opening = refl; keeper = refl; taken = refl; published = refl; failed = refl; seen = record { more = taken; is = refl }; made = Took i es last ∷ []; steps = refl }

beside_looked : (b : Record) (i : ℕ) (m : Map) (es : List Entry) (last : ℕ) (taken looked : List Command) → IsBeside b (looking (taking b i m es last taken) looked)
beside_looked b i m es last taken looked = record {
  opening = refl;
  keeper = refl;
  taken = refl;
  published = refl;
  failed = refl;
  seen = record { more = taken ++ looked; is = append_assoc b.seen taken looked };
  made = Took i es last ∷ (Looked _ ∷ []);
  steps = append_assoc b.steps (Took i es last ∷ []) (Looked _ ∷ []);
}

beside_given : (b v : Record) (g : StepMade) (w : Record) → w.opening ≡ v.opening → w.keeper ≡ v.keeper → w.taken ≡ v.taken → w.published ≡ v.published → w.failed ≡ v.failed → w.seen ≡ v.seen → w.steps ≡ v.steps ++ g ∷ [] → IsBeside b v → IsBeside b w
beside_given b v g w opening keeper taken published failed seen steps k = record {
  opening = opening ∙ k.opening;
  keeper = keeper ∙ k.keeper;
  taken = taken ∙ k.taken;
  published = published ∙ k.published;
  failed = failed ∙ k.failed;
  seen = record { more = k.seen.more; is = seen ∙ k.seen.is };
  made = k.made ++ g ∷ [];
  steps = steps ∙ ap (λ (xs : List StepMade). xs ++ g ∷ []) k.steps ∙ append_assoc b.steps k.made (g ∷ []);
}

-- a walk that puts its stripe back stands where its LOOK left it
beside_back : (b : Record) (i : ℕ) (p : Record) → IsPutBack b i (giving Nothing p) → IsBeside b p
beside_back b i p k =
    let x = k.looked in
    let at : Record = looking (taking b i x.part x.outbox x.last x.taken) x.looked in
    let is : giving Nothing p ≡ giving Nothing at = back_is b i (giving Nothing p) k in
    let v : IsBeside b at = beside_looked b i x.part x.outbox x.last x.taken x.looked in
    record {
      opening = ap (λ (r : Record). r.opening) is ∙ v.opening;
      keeper = ap (λ (r : Record). r.keeper) is ∙ v.keeper;
      taken = sym (append-nil p.taken) ∙ ap (λ (r : Record). r.taken) is ∙ append-nil at.taken ∙ v.taken;
      published = ap (λ (r : Record). r.published) is ∙ v.published;
      failed = ap (λ (r : Record). r.failed) is ∙ v.failed;
      seen = record { more = v.seen.more; is = ap (λ (r : Record). r.seen) is ∙ v.seen.is };
      made = v.made;
      steps = (same_from_push p.steps at.steps (Gave (stripe_held p.holding)) (Gave i) (ap (λ (r : Record). r.steps) is)).0 ∙ v.steps;
    }

beside_stage : (n : ℕ) (b : Record) (i : ℕ) (s : Stage) (p : Record) → FitsStage n b (ToCapture i) s p → (length p.steps ≡ length b.steps → ⊥) → IsBeside b p
beside_stage n b i (stage.Change s) p k made = absurd (by_change n b i s p k)
beside_stage n b i (stage.Read s) p k made = absurd (by_read n b i s p k)
beside_stage n b i (stage.Release s) p k made = absurd (by_release n b i s p k)
beside_stage n b i (stage.Sweep s) p k made = absurd (by_sweep n b i s p k)
beside_stage n b i (stage.Capture (capture.Begins j)) p k made = beside_at b b p (beside_begun b) k.0.is
beside_stage n b i (stage.Capture (capture.HasTaken t)) p k made = beside_at b _ p (beside_taken b t.stripe t.content.part.map t.content.outbox.items t.content.last k.1.taken) k.1.is
beside_stage n b i (stage.Capture (capture.HasLooked t z)) p k made = beside_at b _ p (beside_looked b t.stripe t.content.part.map t.content.outbox.items t.content.last k.1.taken k.1.looked) k.1.is
beside_stage n b i (stage.GivingBack t e) p k made = elim (refused_by b i e (giving Nothing p) k.refused) [
  | inl is ↦ (let long = missed_long b i (giving Nothing p) is in absurd (made (omega (arith, long, length_push p.steps (Gave (stripe_held p.holding))))))
  | inr back ↦ beside_back b i p back
]

pub taken_beside : (n : ℕ) (b : Record) (i : ℕ) (walk : Walk) (p : Record) → HasTaken n b i walk p → IsBeside b p
taken_beside n b i walk p k = beside_stage n b i walk.stage p k.fits (λ e. (let one = k.one_made in omega (arith, one, e)))

pub looked_beside : (n : ℕ) (b : Record) (i : ℕ) (walk : Walk) (p : Record) → HasLooked n b i walk p → IsBeside b p
looked_beside n b i walk p k = beside_stage n b i walk.stage p k.fits (λ e. (let two = k.two_made in omega (arith, two, e)))

pub captured_beside : (n : ℕ) (b : Record) (i mark : ℕ) (es : List (List ℕ × Value)) (w : Record) → CapturesStripe n b i mark es w → IsBeside b w
captured_beside n b i mark es w k =
    let at : Record = looking (taking b i k.part k.outbox k.last k.taken) k.looked in
    beside_at b (giving Capture at) w (beside_given b at (Gave i) (giving Capture at) refl refl (append-nil b.taken) refl refl refl refl (beside_looked b i k.part k.outbox k.last k.taken k.looked)) k.is

pub refused_beside : (b : Record) (i : ℕ) (e : Refusal) (w : Record) → RefusesCapture b i e w → IsBeside b w
refused_beside b i e w r = elim (refused_by b i e w r) [
  | inl is ↦ beside_at b (missing b i) w (beside_missed b i) is
  | inr k ↦ (
      let x = k.looked in
      let at : Record = looking (taking b i x.part x.outbox x.last x.taken) x.looked in
      beside_at b (giving Nothing at) w (beside_given b at (Gave i) (giving Nothing at) refl refl (append-nil b.taken) refl refl refl refl (beside_looked b i x.part x.outbox x.last x.taken x.looked)) (back_is b i w k)
      )
]

-- no stripe is held at its end
pub captured_free : (n : ℕ) (b : Record) (i mark : ℕ) (es : List (List ℕ × Value)) (w : Record) → CapturesStripe n b i mark es w → w.holding ≡ None
captured_free n b i mark es w k = ap (λ (r : Record). r.holding) k.is

pub refused_free : (b : Record) (i : ℕ) (e : Refusal) (w : Record) → b.holding ≡ None → RefusesCapture b i e w → w.holding ≡ None
refused_free b i e w free r = elim (refused_by b i e w r) [ inl is ↦ ap (λ (z : Record). z.holding) is ∙ free | inr k ↦ ap (λ (z : Record). z.holding) k.is ]

-- ---- what was copied is given to the checkpoint
some_same : (x y : Captured) → Some x ≡ Some y → x ≡ y
some_same x y e = cc

not_both : (s : Stage) (z : Captured) (e : Refusal) → captured_of_stage s ≡ Some z → refusal_of_stage s ≡ Some e → ⊥
not_both (stage.Change s) z e c r = cc
not_both (stage.Read s) z e c r = cc
not_both (stage.Release s) z e c r = cc
not_both (stage.Sweep s) z e c r = cc
not_both (stage.Capture s) z e c r = cc
not_both (stage.GivingBack t f) z e c r = cc

staged_with : (old new : CheckpointState) (walk : Walk) (z : Captured) → captured_of_walk walk ≡ Some z → new ≡ with_section z.mark (entries_captured z) old → StandsWith old z.mark (entries_captured z) → IsStaged old new walk walk
staged_with old new walk z copied is stands = record {
  looked = λ n b i p k. k;
  given = λ y e. subst (λ (x : Captured). (new ≡ with_section x.mark (entries_captured x) old) × StandsWith old x.mark (entries_captured x)) (some_same z y (sym copied ∙ e)) (is, stands);
  same = λ e r. absurd (not_both walk.stage z e copied r);
  cause = λ e r. inr r;
}

-- the section is given by these entries, which stand for others
given_as : (old new : CheckpointState) (mark : ℕ) (es xs : List (List ℕ × Value)) → es ≡ xs → new ≡ with_section mark es old
    → ((map : Map) (content : List ℕ) (sections : List Section) (file : File) → es ≡ finite.entries map → AreKeysOf old.stripes old.count es → old.low ≤ mark → Stands old content sections file
    → Stands new content (sections ++ record { mark = mark; map = map } ∷ []) file) → (new ≡ with_section mark xs old) × StandsWith old mark xs
given_as old new mark es xs same is stands =
    let to : new ≡ with_section mark xs old = is ∙ ap (λ (l : List (List ℕ × Value)). with_section mark l old) same in (
      to,
      λ map content sections file e keys low k.
          subst (λ (v : CheckpointState). Stands v content (sections ++ record { mark = mark; map = map } ∷ []) file) to
          (stands map content sections file (same ∙ e) (subst (λ (l : List (List ℕ × Value)). AreKeysOf old.stripes old.count l) (sym same) keys) low k),
    )

-- the same, if the section was given
pub given_if : {A E : Type 0} (r : Result A E) (old new : CheckpointState) (mark : ℕ) (es xs : List (List ℕ × Value)) → es ≡ xs → OnOk r (new ≡ with_section mark es old)
    → OnOk r ((map : Map) (content : List ℕ) (sections : List Section) (file : File) → es ≡ finite.entries map → AreKeysOf old.stripes old.count es → old.low ≤ mark → Stands old content sections file
    → Stands new content (sections ++ record { mark = mark; map = map } ∷ []) file) → OnOk r ((new ≡ with_section mark xs old) × StandsWith old mark xs)
given_if (Ok a) old new mark es xs same is stands = given_as old new mark es xs same is stands
given_if (Err e) old new mark es xs same is stands = tt

some_part : (x y : PartState) → Some x ≡ Some y → x ≡ y
some_part x y e = cc

held_at : (n : ℕ) (b : Record) (i : ℕ) (s : Stage) (p : Record) (z : Captured) (part : PartState) → FitsStage n b (ToCapture i) s p → captured_of_stage s ≡ Some z → part_of_stage s ≡ Some part → z.part.value ≡ part
held_at n b i (stage.Change s) p z part k captured held = absurd (by_change n b i s p k)
held_at n b i (stage.Read s) p z part k captured held = absurd (by_read n b i s p k)
held_at n b i (stage.Release s) p z part k captured held = absurd (by_release n b i s p k)
held_at n b i (stage.Sweep s) p z part k captured held = absurd (by_sweep n b i s p k)
held_at n b i (stage.Capture (capture.Begins j)) p z part k captured held = cc
held_at n b i (stage.Capture (capture.HasTaken t)) p z part k captured held = cc
held_at n b i (stage.Capture (capture.HasLooked t y)) p z part k captured held =
    ap (λ (x : Captured). x.part.value) (sym (some_same y z captured)) ∙ k.1.part_is ∙ some_part t.content.part part held
held_at n b i (stage.GivingBack t e) p z part k captured held = cc

-- the part that a walk holds, which has looked, is the one that it captured
pub held_part : (n : ℕ) (b : Record) (i : ℕ) (walk : Walk) (p : Record) (z : Captured) (part : PartState) → HasLooked n b i walk p → captured_of_walk walk ≡ Some z → part_of_walk walk ≡ Some part → z.part.value ≡ part
held_part n b i walk p z part k captured held = held_at n b i walk.stage p z part k.fits captured held

pub staged_ok : (old new : CheckpointState) (walk : Walk) (z : Captured) (part : PartState) → captured_of_walk walk ≡ Some z → z.part.value ≡ part
    → (new ≡ with_section z.mark (finite.entries part.map) old) × StandsWith old z.mark (finite.entries part.map) → IsStaged old new walk walk
staged_ok old new walk z part captured held given =
    let same : finite.entries part.map ≡ entries_captured z = ap (λ (q : PartState). finite.entries q.map) (sym held) in
    staged_with old new walk z captured (given.0 ∙ ap (λ (l : List (List ℕ × Value)). with_section z.mark l old) same) (subst (λ (l : List (List ℕ × Value)). StandsWith old z.mark l) same given.1)

-- ---- which step comes next

copied_at : (n : ℕ) (s : Stage) (z : Captured) → next_of_stage n s ≡ Look → captured_of_stage s ≡ Some z → ⊥
copied_at n (stage.Change s) z look copied = cc
copied_at n (stage.Read s) z look copied = cc
copied_at n (stage.Release s) z look copied = cc
copied_at n (stage.Sweep s) z look copied = cc
copied_at n (stage.Capture (capture.Begins i)) z look copied = cc
copied_at n (stage.Capture (capture.HasTaken t)) z look copied = cc
copied_at n (stage.Capture (capture.HasLooked t y)) z look copied = cc
copied_at n (stage.GivingBack t e) z look copied = cc

-- a walk that has copied its stripe has looked
pub looked_of : (n : ℕ) (b : Record) (i : ℕ) (walk : Walk) (p : Record) (z : Captured) → captured_of_walk walk ≡ Some z → HasTaken n b i walk p ⊎ HasLooked n b i walk p → HasLooked n b i walk p
looked_of n b i walk p z copied (inl t) = absurd (copied_at n walk.stage z t.next copied)
looked_of n b i walk p z copied (inr l) = l

pub under_way : (n : ℕ) (b : Record) (i : ℕ) (walk : Walk) (p : Record) → HasTaken n b i walk p ⊎ HasLooked n b i walk p → IsUnderWay n walk p
under_way n b i walk p (inl t) = (b, ToCapture i, t.fits)
under_way n b i walk p (inr l) = (b, ToCapture i, l.fits)

-- a walk that goes on has only taken its stripe
pub taken_of : (n : ℕ) (b : Record) (i : ℕ) (walk next : Walk) (p : Record) → steps_left next < steps_left walk → HasTaken n b i walk p ⊎ HasLooked n b i walk p → HasTaken n b i walk p
taken_of n b i walk next p fewer (inl t) = t
taken_of n b i walk next p fewer (inr l) = absurd (ends n b i walk p next l fewer)

pub some_there : {A : Type 0} (o : Option A) (b : Bool) → b ≡ is_some o → b ≡ true → (x : A) × (o ≡ Some x)
some_there None b is on = absurd (off_on (sym is ∙ on))
  where
    off_on : false ≡ true → ⊥
    off_on e = cc
some_there (Some x) b is on = (x, refl)

pub looked_after : (n : ℕ) (b : Record) (i : ℕ) (walk next : Walk) (p w : Record) (made : StepMade) → HasTaken n b i walk p → w.steps ≡ p.steps ++ made ∷ [] → Fits n b (ToCapture i) next w → HasLooked n b i next w
looked_after n b i walk next p w made t steps fits = looked_next n b i next w fits (let one = t.one_made in omega (arith, ap (λ (xs : List StepMade). length xs) steps, length_push p.steps made, one))
