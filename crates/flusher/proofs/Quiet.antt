-- The steps of a sweep neither publish nor fail.
use Rattle.std.proofs.Common.{◌≡◌, ℕ, List, [], ◌++◌, Option, Some, None, Result, Ok, Err, append-nil, refl, sym, ◌∙◌, ap, subst}
use Rattle.map_types.specs.declared.commands.Command.{Command}
use Rattle.map_types.specs.declared.commands.Read as read_type
use Rattle.map_types.specs.declared.commands.Reply.{Reply}
use Rattle.map_types.specs.declared.refusals.Refusal.{Refusal}
use Rattle.map_types.specs.declared.refusals.Refusal.TheVariants as refusal
use Rattle.ticket_order.specs.declared.change_walk.ChangeStage.{ChangeStage}
use Rattle.ticket_order.specs.declared.change_walk.ChangeStage.TheVariants as change
use Rattle.ticket_order.specs.declared.read_walk.ReadStage.{ReadStage}
use Rattle.ticket_order.specs.declared.read_walk.ReadStage.TheVariants as read
use Rattle.ticket_order.specs.declared.release_walk.ReleaseStage.{ReleaseStage}
use Rattle.ticket_order.specs.declared.release_walk.ReleaseStage.TheVariants as release
use Rattle.ticket_order.specs.declared.sweep_walk.SweepStage.{SweepStage}
use Rattle.ticket_order.specs.declared.sweep_walk.SweepStage.TheVariants as sweep_stage
use Rattle.ticket_order.specs.declared.capture_walk.CaptureStage.{CaptureStage}
use Rattle.ticket_order.specs.declared.capture_walk.CaptureStage.TheVariants as capture
use Rattle.ticket_order.specs.declared.walk.Stage.{Stage}
use Rattle.ticket_order.specs.declared.walk.Stage.TheVariants as stage
use Rattle.ticket_order.specs.declared.walk.Walk.{Walk}
use Rattle.ticket_order.specs.declared.stripe.Entry.{Entry}
use Rattle.ticket_order.specs.declared.record.Purpose.TheVariants.{Nothing}
use Rattle.ticket_order.specs.declared.record.Record.{Record}
use Rattle.ticket_order.specs.Records.{missing, giving, taking}
use Rattle.ticket_order.specs.Calls.{SweepsStripe, RefusesSweep}
use Rattle.ticket_order.specs.Walks.{ToChange, ToRead, ToRelease, ToSweep, ToCapture, FitsStage}
use Rattle.flusher.specs.declared.sweeper.Sweep.{Sweep}
use Rattle.flusher.specs.declared.sweeper.Walking.{Walking}
use Rattle.flusher.specs.declared.sweeper.Walking.TheVariants.{Rests, SweepTakes, SweepGives}
use Rattle.flusher.specs.declared.sweeper.Swept.{Swept}
use Rattle.flusher.specs.declared.sweeper.Swept.TheVariants.{More, Held, Done}
use Rattle.flusher.specs.declared.sweeper.Sweeper.{Sweeper}
use Rattle.store_layout.specs.Hands.{Hand}
use Rattle.flusher.specs.Gathering.{Gathers}
use Rattle.flusher.specs.Sweeping.{IsSwept, IsBetween, IsHolding, Stands, StandsBy, StepsOn, AfterTake, AfterGive}
use Rattle.flusher.specs.Fitting.{IsQuiet}

quiet_at : (b v w : Record) → IsQuiet b v → w ≡ v → IsQuiet b w
quiet_at b v w k is = subst (IsQuiet b) (sym is) k

quiet_same : (b : Record) → IsQuiet b b
quiet_same b = record { opening = refl; calls = refl; published = refl; failed = refl }

quiet_after : (b p w : Record) → IsQuiet b p → IsQuiet b w → IsQuiet p w
quiet_after b p w k j = record { opening = j.opening ∙ sym k.opening; calls = j.calls ∙ sym k.calls; published = j.published ∙ sym k.published; failed = j.failed ∙ sym k.failed }

pub quiet_then : (a b d : Record) → IsQuiet a b → IsQuiet b d → IsQuiet a d
quiet_then a b d k j = record { opening = j.opening ∙ k.opening; calls = j.calls ∙ k.calls; published = j.published ∙ k.published; failed = j.failed ∙ k.failed }

not_change : (i : ℕ) (c : Command) → ToSweep i ≡ ToChange c → ⊥
not_change i c e = cc

not_read : (i : ℕ) (r : read_type.Read) → ToSweep i ≡ ToRead r → ⊥
not_read i r e = cc

not_release : (i q : ℕ) (y : Reply) → ToSweep i ≡ ToRelease q y → ⊥
not_release i q y e = cc

not_capture : (i j : ℕ) → ToSweep i ≡ ToCapture j → ⊥
not_capture i j e = cc

refused_quiet : (b : Record) (i : ℕ) (e : Refusal) (w : Record) → RefusesSweep b i e w → IsQuiet b w
refused_quiet b i (refusal.Busy j) w r = quiet_at b (missing b i) w (record { opening = refl; calls = refl; published = refl; failed = refl }) r.1
refused_quiet b i refusal.NoMemory w r =
    let x = r.before in
    quiet_at b (giving Nothing (taking b i x.part x.outbox x.last x.taken)) w (record { opening = refl; calls = refl; published = refl; failed = refl }) (r.is ∙ ap (giving Nothing) x.is)
refused_quiet b i refusal.NullValue w r = absurd r
refused_quiet b i refusal.KeyTooLong w r = absurd r
refused_quiet b i refusal.ValueTooLong w r = absurd r
refused_quiet b i refusal.UnknownMethod w r = absurd r
refused_quiet b i refusal.UnknownFunction w r = absurd r
refused_quiet b i refusal.BadFrame w r = absurd r
refused_quiet b i refusal.Failed w r = absurd r
refused_quiet b i refusal.TicketsSpent w r = absurd r
refused_quiet b i refusal.NotFormatted w r = absurd r
refused_quiet b i (refusal.Damaged file offset) w r = absurd r
refused_quiet b i refusal.WrongVersion w r = absurd r
refused_quiet b i refusal.LogFull w r = absurd r
refused_quiet b i refusal.AlreadyFormatted w r = absurd r
refused_quiet b i refusal.WrongPhase w r = absurd r
refused_quiet b i refusal.TooEarly w r = absurd r
refused_quiet b i refusal.NotText w r = absurd r
refused_quiet b i refusal.SeatsSpent w r = absurd r

pub by_change : (n : ℕ) (b : Record) (i : ℕ) (s : ChangeStage) (p : Record) → FitsStage n b (ToSweep i) (stage.Change s) p → ⊥
by_change n b i (change.Begins new) p k = not_change i new.command k.0.task_is
by_change n b i (change.HasTaken new t) p k = not_change i new.command k.0.task_is
by_change n b i (change.IsAlive new t) p k = not_change i new.command k.0.task_is
by_change n b i (change.IsReady new t prepared) p k = not_change i new.command k.0.task_is
by_change n b i (change.HasDrawn t h) p k = not_change i k.command k.task_is

pub by_read : (n : ℕ) (b : Record) (i : ℕ) (s : ReadStage) (p : Record) → FitsStage n b (ToSweep i) (stage.Read s) p → ⊥
by_read n b i (read.Begins r) p k = not_read i r k.task_is
by_read n b i (read.HasTaken r t) p k = not_read i r k.0.task_is
by_read n b i (read.HasRead r t h) p k = not_read i r k.0.task_is

pub by_release : (n : ℕ) (b : Record) (i : ℕ) (s : ReleaseStage) (p : Record) → FitsStage n b (ToSweep i) (stage.Release s) p → ⊥
by_release n b i (release.Begins h) p k = not_release i h.position h.reply k.0
by_release n b i (release.HasMissed h) p k = not_release i h.position h.reply k.0
by_release n b i (release.FoundFailure h) p k = not_release i h.position h.reply k.0

pub by_capture : (n : ℕ) (b : Record) (i : ℕ) (s : CaptureStage) (p : Record) → FitsStage n b (ToSweep i) (stage.Capture s) p → ⊥
by_capture n b i (capture.Begins j) p k = not_capture i j k.0.task_is
by_capture n b i (capture.HasTaken t) p k = not_capture i t.stripe k.0
by_capture n b i (capture.HasLooked t z) p k = not_capture i t.stripe k.0

by_sweep : (n : ℕ) (b : Record) (i : ℕ) (s : SweepStage) (p : Record) → FitsStage n b (ToSweep i) (stage.Sweep s) p → IsQuiet b p
by_sweep n b i (sweep_stage.Begins alloc j) p k = quiet_at b b p (quiet_same b) k.0.is
by_sweep n b i (sweep_stage.HasTaken alloc t) p k =
    let x = k.took in
    quiet_at b (taking b t.stripe t.content.part.map t.content.outbox.items t.content.last x.between) p (record { opening = refl; calls = refl; published = refl; failed = refl }) x.is

by_stage : (n : ℕ) (b : Record) (i : ℕ) (s : Stage) (p : Record) → FitsStage n b (ToSweep i) s p → IsQuiet b p
by_stage n b i (stage.Change s) p k = absurd (by_change n b i s p k)
by_stage n b i (stage.Read s) p k = absurd (by_read n b i s p k)
by_stage n b i (stage.Release s) p k = absurd (by_release n b i s p k)
by_stage n b i (stage.Sweep s) p k = by_sweep n b i s p k
by_stage n b i (stage.Capture s) p k = absurd (by_capture n b i s p k)
by_stage n b i (stage.GivingBack t e) p k = (
    let q : IsQuiet b (giving Nothing p) = refused_quiet b i e (giving Nothing p) k.refused in
    record { opening = q.opening; calls = q.calls; published = q.published; failed = q.failed }
    )

-- a sweep of a stripe that has made its TAKE
pub swept_quiet : (n : ℕ) (b : Record) (i : ℕ) (walk : Walk) (p : Record) → IsSwept n b i walk p → IsQuiet b p
swept_quiet n b i walk p k = by_stage n b i walk.stage p k.fits

pub sweeps_quiet : (n : ℕ) (b : Record) (i : ℕ) (es : List Entry) (w : Record) → SweepsStripe n b i es w → IsQuiet b w
sweeps_quiet n b i es w s = quiet_at b _ w (record { opening = refl; calls = refl; published = refl; failed = refl }) s.is

pub refuses_quiet : (b : Record) (i : ℕ) (e : Refusal) (w : Record) → RefusesSweep b i e w → IsQuiet b w
refuses_quiet b i e w r = refused_quiet b i e w r

-- The pass has seen more, and its sweeps took nothing more.
pub record IsGrown (b p : Record) : Type 0 where
  pub opening : p.opening ≡ b.opening
  pub taken : p.taken ≡ b.taken
  pub more : List Command
  pub seen : p.seen ≡ b.seen ++ more

grown_at : (b v w : Record) → IsGrown b v → w ≡ v → IsGrown b w
grown_at b v w k is = subst (IsGrown b) (sym is) k

pub refused_grown : (b : Record) (i : ℕ) (e : Refusal) (w : Record) → RefusesSweep b i e w → IsGrown b w
refused_grown b i (refusal.Busy j) w r = grown_at b (missing b i) w (record { opening = refl; taken = refl; more = []; seen = sym (append-nil b.seen) }) r.1
refused_grown b i refusal.NoMemory w r =
    let x = r.before in
    grown_at b (giving Nothing (taking b i x.part x.outbox x.last x.taken)) w (record { opening = refl; taken = append-nil b.taken; more = x.taken; seen = refl }) (r.is ∙ ap (giving Nothing) x.is)
refused_grown b i refusal.NullValue w r = absurd r
refused_grown b i refusal.KeyTooLong w r = absurd r
refused_grown b i refusal.ValueTooLong w r = absurd r
refused_grown b i refusal.UnknownMethod w r = absurd r
refused_grown b i refusal.UnknownFunction w r = absurd r
refused_grown b i refusal.BadFrame w r = absurd r
refused_grown b i refusal.Failed w r = absurd r
refused_grown b i refusal.TicketsSpent w r = absurd r
refused_grown b i refusal.NotFormatted w r = absurd r
refused_grown b i (refusal.Damaged file offset) w r = absurd r
refused_grown b i refusal.WrongVersion w r = absurd r
refused_grown b i refusal.LogFull w r = absurd r
refused_grown b i refusal.AlreadyFormatted w r = absurd r
refused_grown b i refusal.WrongPhase w r = absurd r
refused_grown b i refusal.TooEarly w r = absurd r
refused_grown b i refusal.NotText w r = absurd r
refused_grown b i refusal.SeatsSpent w r = absurd r

grown_sweep : (n : ℕ) (b : Record) (i : ℕ) (s : SweepStage) (p : Record) → FitsStage n b (ToSweep i) (stage.Sweep s) p → IsGrown b p
grown_sweep n b i (sweep_stage.Begins alloc j) p k = grown_at b b p (record { opening = refl; taken = refl; more = []; seen = sym (append-nil b.seen) }) k.0.is
grown_sweep n b i (sweep_stage.HasTaken alloc t) p k =
    let x = k.took in
    grown_at b (taking b t.stripe t.content.part.map t.content.outbox.items t.content.last x.between) p (record { opening = refl; taken = refl; more = x.between; seen = refl }) x.is

grown_stage : (n : ℕ) (b : Record) (i : ℕ) (s : Stage) (p : Record) → FitsStage n b (ToSweep i) s p → IsGrown b p
grown_stage n b i (stage.Change s) p k = absurd (by_change n b i s p k)
grown_stage n b i (stage.Read s) p k = absurd (by_read n b i s p k)
grown_stage n b i (stage.Release s) p k = absurd (by_release n b i s p k)
grown_stage n b i (stage.Sweep s) p k = grown_sweep n b i s p k
grown_stage n b i (stage.Capture s) p k = absurd (by_capture n b i s p k)
grown_stage n b i (stage.GivingBack t e) p k = (
    let q : IsGrown b (giving Nothing p) = refused_grown b i e (giving Nothing p) k.refused in
    record { opening = q.opening; taken = sym (append-nil p.taken) ∙ q.taken; more = q.more; seen = q.seen }
    )

pub swept_grown : (n : ℕ) (b : Record) (i : ℕ) (walk : Walk) (p : Record) → IsSwept n b i walk p → IsGrown b p
swept_grown n b i walk p k = grown_stage n b i walk.stage p k.fits

-- One step of the sweep: neither DURABLE nor FAIL, and the hand stays at its first ticket.
pub record IsCalm (old new : Hand) (p w : Record) : Type 0 where
  pub quiet : IsQuiet p w
  pub next : new.next ≡ old.next

after_take : (n : ℕ) (sweep : Sweep) (old : Hand) (new : Sweeper) (p w : Record) (result : Result Swept Refusal) → AfterTake n sweep old new p w result → IsCalm old new.in_hand p w
after_take n sweep old new p w (Ok More) k = record { quiet = swept_quiet n p sweep.stripe k.walk w k.taken; next = ap (λ (h : Hand). h.next) k.hand }
after_take n sweep old new p w (Ok (Held i)) k = record {
  quiet = quiet_at p (missing p sweep.stripe) w (record { opening = refl; calls = refl; published = refl; failed = refl }) k.is;
  next = ap (λ (h : Hand). h.next) k.hand;
}
after_take n sweep old new p w (Ok (Done count)) k = absurd k
after_take n sweep old new p w (Err e) k = absurd k

after_give : (n : ℕ) (sweep : Sweep) (walk : Walk) (gone : List Command) (old : Hand) (new : Sweeper) (p w : Record) (result : Result Swept Refusal) → IsHolding n sweep walk old gone p
    → AfterGive n sweep walk old new p w result → IsCalm old new.in_hand p w
after_give n sweep walk gone old new p w (Ok More) h k = record {
  quiet = quiet_after h.begun p w (swept_quiet n h.begun sweep.stripe walk p h.taken) (sweeps_quiet n h.begun sweep.stripe _ w (k.drains.swept h.begun h.taken));
  next = k.drains.collects.next;
}
after_give n sweep walk gone old new p w (Ok (Held i)) h k = absurd k
after_give n sweep walk gone old new p w (Ok (Done count)) h k = record {
  quiet = quiet_after h.begun p w (swept_quiet n h.begun sweep.stripe walk p h.taken) (sweeps_quiet n h.begun sweep.stripe _ w (k.drains.swept h.begun h.taken));
  next = k.drains.collects.next;
}
after_give n sweep walk gone old new p w (Err e) h k = record {
  quiet = quiet_after h.begun p w (swept_quiet n h.begun sweep.stripe walk p h.taken) (refused_quiet h.begun sweep.stripe refusal.NoMemory w (k.swept h.begun h.taken));
  next = k.collects.next;
}

calm_by : (n : ℕ) (o : Option Sweep) (v : Walking) (gone : List Command) (old : Hand) (new : Sweeper) (p w : Record) (result : Result Swept Refusal) → StandsBy n o v old gone p
    → StepsOn n o v old new p w result → IsCalm old new.in_hand p w
calm_by n None v gone old new p w result h k = record {
  quiet = quiet_at p _ w (record { opening = refl; calls = refl; published = refl; failed = refl }) k.looks.is;
  next = ap (λ (x : Hand). x.next) k.hand;
}
calm_by n (Some sweep) Rests gone old new p w result h k = after_take n sweep old new p w result k
calm_by n (Some sweep) SweepTakes gone old new p w result h k = after_take n sweep old new p w result k
calm_by n (Some sweep) (SweepGives walk) gone old new p w result h k = after_give n sweep walk gone old new p w result h k

pub calm_step : (n : ℕ) (s : Sweeper) (gone : List Command) (new : Sweeper) (p w : Record) (result : Result Swept Refusal) → Stands n s gone p
    → StepsOn n s.sweep s.walking s.in_hand new p w result → IsCalm s.in_hand new.in_hand p w
calm_step n s gone new p w result h k = calm_by n s.sweep s.walking gone s.in_hand new p w result h k

-- ---- the sweeper with another hand, or other commands gone

moved_by : (n : ℕ) (o : Option Sweep) (v : Walking) (old new : Hand) (gone gone' : List Command) (p : Record) → ((q : Record) → q.opening ≡ p.opening → Gathers old gone q → Gathers new gone' q)
    → StandsBy n o v old gone p → StandsBy n o v new gone' p
moved_by n None Rests old new gone gone' p f h = record { free = h.free; gathers = f p refl h.gathers }
moved_by n None SweepTakes old new gone gone' p f h = absurd h
moved_by n None (SweepGives walk) old new gone gone' p f h = absurd h
moved_by n (Some sweep) Rests old new gone gone' p f h = record { free = h.free; within = h.within; below = h.below; gathers = f p refl h.gathers }
moved_by n (Some sweep) SweepTakes old new gone gone' p f h = record { free = h.free; within = h.within; below = h.below; gathers = f p refl h.gathers }
moved_by n (Some sweep) (SweepGives walk) old new gone gone' p f h =
    let b : IsBetween n sweep old gone h.begun = h.between in
    let q : IsQuiet h.begun p = swept_quiet n h.begun sweep.stripe walk p h.taken in
    record {
      begun = h.begun;
      between = record { free = b.free; within = b.within; below = b.below; gathers = f h.begun (sym q.opening) b.gathers };
      taken = h.taken;
    }

pub stands_moved : (n : ℕ) (old new : Sweeper) (gone gone' : List Command) (p : Record) → new.sweep ≡ old.sweep → new.walking ≡ old.walking
    → ((q : Record) → q.opening ≡ p.opening → Gathers old.in_hand gone q → Gathers new.in_hand gone' q) → Stands n old gone p → Stands n new gone' p
stands_moved n old new gone gone' p s w f h =
    subst (λ o. StandsBy n o new.walking new.in_hand gone' p) (sym s) (subst (λ v. StandsBy n old.sweep v new.in_hand gone' p) (sym w) (moved_by n old.sweep old.walking old.in_hand new.in_hand gone gone' p f h))
