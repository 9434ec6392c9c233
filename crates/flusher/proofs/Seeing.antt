-- What a pass has seen only grows while its keeper sweeps.
use Rattle.std.proofs.Common.{◌≡◌, inl, inr, ℕ, ◌≤◌, List, [], ◌++◌, length, Option, Some, None, Result, Ok, Err, append-nil, refl, sym, ◌∙◌, ap, subst, arith}
use Rattle.std.proofs.lemmas.List.{append_assoc}
use Rattle.map_types.specs.declared.commands.Command.{Command}
use Rattle.map_types.specs.declared.refusals.Refusal.{Refusal}
use Rattle.map_types.specs.declared.refusals.Refusal.TheVariants as refusal
use Rattle.map_model.specs.Maps.{Map}
use Rattle.ticket_order.specs.declared.sweep_walk.SweepStage.TheVariants as sweep_stage
use Rattle.ticket_order.specs.declared.walk.Stage.{Stage}
use Rattle.ticket_order.specs.declared.walk.Stage.TheVariants as stage
use Rattle.ticket_order.specs.declared.walk.Walk.{Walk}
use Rattle.ticket_order.specs.declared.stripe.Entry.{Entry}
use Rattle.ticket_order.specs.declared.record.Purpose.TheVariants.{Nothing}
use Rattle.ticket_order.specs.declared.record.Opening.{Opening}
use Rattle.ticket_order.specs.declared.record.Record.{Record}
use Rattle.ticket_order.specs.Records.{giving, missing, past, taking}
use Rattle.ticket_order.specs.StepRules.{Rises}
use Rattle.ticket_order.specs.Calls.{SweepsStripe, RefusesSweep}
use Rattle.ticket_order.specs.Walks.{ToSweep, FitsStage, left_of_stage}
use Rattle.flusher.specs.declared.sweeper.Sweep.{Sweep}
use Rattle.flusher.specs.declared.sweeper.Walking.{Walking}
use Rattle.flusher.specs.declared.sweeper.Walking.TheVariants.{Rests, SweepTakes, SweepGives}
use Rattle.flusher.specs.declared.sweeper.Swept.{Swept}
use Rattle.flusher.specs.declared.sweeper.Swept.TheVariants.{More, Held, Done}
use Rattle.flusher.specs.declared.sweeper.Sweeper.{Sweeper}
use Rattle.store_layout.specs.Hands.{Hand}
use Rattle.flusher.specs.Sweeping.{IsSwept, IsHolding, Stands, StandsBy, StepsOn, AfterTake, AfterGive}
use Rattle.flusher.specs.Fitting.{HasSeenMore}
use Rattle.flusher.proofs.Quiet.{IsGrown, by_capture, by_change, by_read, by_release, refused_grown, swept_grown}

pub sees_none : (a : Record) → HasSeenMore a a
sees_none a = record { more = []; is = sym (append-nil a.seen) }

pub sees_then : (a b d : Record) → HasSeenMore a b → HasSeenMore b d → HasSeenMore a d
sees_then a b d k j = record { more = k.more ++ j.more; is = j.is ∙ ap (λ z. z ++ j.more) k.is ∙ append_assoc a.seen k.more j.more }

sees_grown : (b p : Record) → IsGrown b p → HasSeenMore b p
sees_grown b p k = record { more = k.more; is = k.seen }

-- the pass as it would have been, had it seen all of this before
abbrev knowing : Record → List Command → Record
knowing b seen = record b { seen = seen }

-- what a TAKE leaves of it is the same
taking_known : (b p : Record) (t : Record) → p ≡ t → p ≡ record t { seen = p.seen ++ [] }
taking_known b p t is = is ∙ ap (λ (xs : List Command). record t { seen = xs }) (sym (ap (λ (r : Record). r.seen) is) ∙ sym (append-nil p.seen))

rises_known : (b p : Record) (count : ℕ) → p.opening ≡ b.opening → Rises b count p → Rises (knowing b p.seen) count p
rises_known b p count same (inl low) =
    let first : p.opening.first ≡ b.opening.first = ap (λ (o : Opening). o.first) same in inl (omega (arith, low.0, low.1, first), omega (arith, first))
rises_known b p count same (inr high) =
    let first : p.opening.first ≡ b.opening.first = ap (λ (o : Opening). o.first) same in inl (omega (arith, high.0, high.1, first), omega (arith, first))

-- what a TAKE shows is seen already, if all is that it was followed by
taken_known : (b at : Record) (xs : List Command) (count i : ℕ) (m : Map) (es : List Entry) (last : ℕ) → at.opening ≡ b.opening → at.seen ≡ xs → Rises b count at → Rises (knowing b xs) count (taking (knowing b xs) i m es last [])
taken_known b at xs count i m es last opening seen rises =
    let first : at.opening.first ≡ b.opening.first = ap (λ (o : Opening). o.first) opening in
    let all : length at.seen ≡ length xs = ap length seen in
    let same : length (xs ++ []) ≡ length xs = ap length (append-nil xs) in
    elim rises [ inl low ↦ inl (omega (arith, low.0, low.1, first, all), omega (arith, same)) | inr high ↦ inl (omega (arith, high.1, first, all), omega (arith, same)) ]

refused_known : (b p : Record) (i : ℕ) (e : Refusal) (w : Record) → w.seen ≡ p.seen → RefusesSweep b i e w → RefusesSweep (knowing b p.seen) i e w
refused_known b p i (refusal.Busy j) w same r = (r.0, r.1 ∙ ap (λ (xs : List Command). record (missing b i) { seen = xs }) (sym (ap (λ (v : Record). v.seen) r.1) ∙ same))
refused_known b p i refusal.NoMemory w same r =
    let x = r.before in
    let first : Record = taking b i x.part x.outbox x.last x.taken in
    let is : w ≡ giving Nothing first = r.is ∙ ap (giving Nothing) x.is in
    record {
      holder = taking (knowing b p.seen) i x.part x.outbox x.last [];
      before = record { part = x.part; outbox = x.outbox; last = x.last; taken = []; rises = taken_known b first p.seen (past x.outbox) i x.part x.outbox x.last refl (sym (ap (λ (v : Record). v.seen) is) ∙ same) x.rises; is = refl };
      is = is ∙ ap (λ (xs : List Command). record (giving Nothing first) { seen = xs }) (sym (ap (λ (v : Record). v.seen) is) ∙ same ∙ sym (append-nil p.seen));
      same_calls = r.same_calls;
    }
refused_known b p i refusal.NullValue w same r = absurd r
refused_known b p i refusal.KeyTooLong w same r = absurd r
refused_known b p i refusal.ValueTooLong w same r = absurd r
refused_known b p i refusal.UnknownMethod w same r = absurd r
refused_known b p i refusal.UnknownFunction w same r = absurd r
refused_known b p i refusal.BadFrame w same r = absurd r
refused_known b p i refusal.Failed w same r = absurd r
refused_known b p i refusal.TicketsSpent w same r = absurd r
refused_known b p i refusal.NotFormatted w same r = absurd r
refused_known b p i (refusal.Damaged file offset) w same r = absurd r
refused_known b p i refusal.WrongVersion w same r = absurd r
refused_known b p i refusal.LogFull w same r = absurd r
refused_known b p i refusal.AlreadyFormatted w same r = absurd r
refused_known b p i refusal.WrongPhase w same r = absurd r
refused_known b p i refusal.TooEarly w same r = absurd r
refused_known b p i refusal.NotText w same r = absurd r
refused_known b p i refusal.SeatsSpent w same r = absurd r

stage_known : (n : ℕ) (b : Record) (i : ℕ) (s : Stage) (p : Record) → left_of_stage s ≤ 1 → FitsStage n b (ToSweep i) s p → FitsStage n (knowing b p.seen) (ToSweep i) s p
stage_known n b i (stage.Change s) p one k = absurd (by_change n b i s p k)
stage_known n b i (stage.Read s) p one k = absurd (by_read n b i s p k)
stage_known n b i (stage.Release s) p one k = absurd (by_release n b i s p k)
stage_known n b i (stage.Sweep (sweep_stage.Begins alloc j)) p one k = absurd (omega (arith, one))
stage_known n b i (stage.Sweep (sweep_stage.HasTaken alloc t)) p one k =
    let x = k.took in
    record {
      task_is = k.task_is;
      keeper = k.keeper;
      took = record {
        between = [];
        is = taking_known b p (taking b t.stripe t.content.part.map t.content.outbox.items t.content.last x.between) x.is;
        rises = rises_known b p (past t.content.outbox.items) (ap (λ (r : Record). r.opening) x.is) x.rises;
        last = x.last;
        ends = x.ends;
        collects = λ keeps. record { more = (x.collects keeps).more; is = (x.collects keeps).is; within = (x.collects keeps).within };
      };
    }
stage_known n b i (stage.Capture s) p one k = absurd (by_capture n b i s p k)
stage_known n b i (stage.GivingBack t e) p one k = record {
  content = k.content;
  refused = refused_known b p i e (giving Nothing p) refl k.refused;
  -- no sweep is refused so
  too_many = λ full. absurd (subst (λ z. RefusesSweep b i z (giving Nothing p)) full k.refused);
}

known : (n : ℕ) (b : Record) (i : ℕ) (walk : Walk) (p : Record) → IsSwept n b i walk p → IsSwept n (knowing b p.seen) i walk p
known n b i walk p k = record { fits = stage_known n b i walk.stage p k.one_left k.fits; one_left = k.one_left; one_made = k.one_made }

sweeps_seen : (n : ℕ) (b : Record) (i : ℕ) (es : List Entry) (p w : Record) → SweepsStripe n (knowing b p.seen) i es w → HasSeenMore p w
sweeps_seen n b i es p w s = record { more = s.between; is = ap (λ (r : Record). r.seen) s.is }

refuses_seen : (b p : Record) (i : ℕ) (e : Refusal) (w : Record) → RefusesSweep (knowing b p.seen) i e w → HasSeenMore p w
refuses_seen b p i e w r = (let k = refused_grown (knowing b p.seen) i e w r in record { more = k.more; is = k.seen })

after_take : (n : ℕ) (sweep : Sweep) (old : Hand) (new : Sweeper) (p w : Record) (result : Result Swept Refusal) → AfterTake n sweep old new p w result → HasSeenMore p w
after_take n sweep old new p w (Ok More) k = sees_grown p w (swept_grown n p sweep.stripe k.walk w k.taken)
after_take n sweep old new p w (Ok (Held i)) k = record { more = []; is = ap (λ (r : Record). r.seen) k.is ∙ sym (append-nil p.seen) }
after_take n sweep old new p w (Ok (Done count)) k = absurd k
after_take n sweep old new p w (Err e) k = absurd k

after_give : (n : ℕ) (sweep : Sweep) (walk : Walk) (gone : List Command) (old : Hand) (new : Sweeper) (p w : Record) (result : Result Swept Refusal) → IsHolding n sweep walk old gone p
    → AfterGive n sweep walk old new p w result → HasSeenMore p w
after_give n sweep walk gone old new p w (Ok More) h k = sweeps_seen n h.begun sweep.stripe _ p w (k.drains.swept _ (known n h.begun sweep.stripe walk p h.taken))
after_give n sweep walk gone old new p w (Ok (Held i)) h k = absurd k
after_give n sweep walk gone old new p w (Ok (Done count)) h k = sweeps_seen n h.begun sweep.stripe _ p w (k.drains.swept _ (known n h.begun sweep.stripe walk p h.taken))
after_give n sweep walk gone old new p w (Err e) h k = refuses_seen h.begun p sweep.stripe refusal.NoMemory w (k.swept _ (known n h.begun sweep.stripe walk p h.taken))

sees_by : (n : ℕ) (o : Option Sweep) (v : Walking) (gone : List Command) (old : Hand) (new : Sweeper) (p w : Record) (result : Result Swept Refusal) → StandsBy n o v old gone p → StepsOn n o v old new p w result → HasSeenMore p w
sees_by n None v gone old new p w result h k = record { more = k.looks.between; is = ap (λ (r : Record). r.seen) k.looks.is }
sees_by n (Some sweep) Rests gone old new p w result h k = after_take n sweep old new p w result k
sees_by n (Some sweep) SweepTakes gone old new p w result h k = after_take n sweep old new p w result k
sees_by n (Some sweep) (SweepGives walk) gone old new p w result h k = after_give n sweep walk gone old new p w result h k

pub sees_more : (n : ℕ) (s : Sweeper) (gone : List Command) (new : Sweeper) (p w : Record) (result : Result Swept Refusal) → Stands n s gone p → StepsOn n s.sweep s.walking s.in_hand new p w result → HasSeenMore p w
sees_more n s gone new p w result h k = sees_by n s.sweep s.walking gone s.in_hand new p w result h k
