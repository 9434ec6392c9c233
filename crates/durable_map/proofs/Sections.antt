-- The sections that the keeper's pass has captured.
use Rattle.std.proofs.Common.{◌≡◌, ℕ, List, [], ◌∷◌, ◌++◌, append-nil, append_assoc, refl, sym, subst, ◌∙◌}
use Rattle.map_model.specs.Maps.{Map}
use Rattle.map_types.specs.declared.commands.Command.{Command}
use Rattle.map_types.specs.declared.refusals.Refusal.{Refusal}
use Rattle.map_types.specs.declared.refusals.Refusal.TheVariants as refusal
use Rattle.map_types.specs.declared.texts.Value.{Value}
use Rattle.ticket_order.specs.declared.record.Record.{Record}
use Rattle.ticket_order.specs.declared.record.Section.{Section}
use Rattle.ticket_order.specs.declared.record.Purpose.TheVariants.{Capture, Nothing}
use Rattle.ticket_order.specs.declared.stripe.Entry.{Entry}
use Rattle.ticket_order.specs.Calls.{CapturesStripe, HasLookedAt, RefusesCapture, RefusesSweep, SweepsStripe}
use Rattle.ticket_order.specs.Legality.{IsLegalSection, history_of}
use Rattle.ticket_order.specs.Records.{failing, giving, looking, missing, publishing, reach, taking}
use Rattle.ticket_order.specs.StepRules.{AllLegalSections}
use Rattle.ticket_order.proofs.Longer.{sections_both, sections_longer}
use Rattle.std.specs.Arc.{arc_value}
use Rattle.stripe_locks.specs.Passes.{recorded, stripe_count}
use Rattle.journal.specs.declared.own_steps.OwnSteps.{OwnSteps}
use Rattle.flusher.specs.Fitting.{HasSeenMore}
use Rattle.durable_map.specs.LockedKeepers.{OnlyCaptures}

-- The pass made no call and captured nothing more, and may have seen more.
pub record CapturesNone (p w : Record) : Type 0 where
  pub calls : w.calls ≡ p.calls
  pub opening : w.opening ≡ p.opening
  pub sections : w.sections ≡ p.sections
  pub seen : HasSeenMore p w

pub stay_legal : (n : ℕ) (p w : Record) → CapturesNone p w → OnlyCaptures n p → OnlyCaptures n w
stay_legal n p w k only = record {
  idle = k.calls ∙ only.idle;
  legal = subst (λ (xs : List Section). AllLegalSections n w xs) (sym k.sections) (sections_longer n p w k.seen.more k.opening k.seen.is p.sections only.legal);
}

pub none_by : (p w : Record) → w.calls ≡ p.calls → w.opening ≡ p.opening → w.sections ≡ p.sections → w.seen ≡ p.seen → CapturesNone p w
none_by p w calls opening sections seen = record { calls = calls; opening = opening; sections = sections; seen = record { more = []; is = seen ∙ sym (append-nil p.seen) } }

same : (p : Record) → CapturesNone p p
same p = none_by p p refl refl refl refl

pub missed : (p : Record) (i : ℕ) → CapturesNone p (missing p i)
missed p i = none_by p (missing p i) refl refl refl refl

pub published : (p : Record) (count : ℕ) → CapturesNone p (publishing p count)
published p count = none_by p (publishing p count) refl refl refl refl

pub failed : (p : Record) → CapturesNone p (failing p)
failed p = none_by p (failing p) refl refl refl refl

-- a stripe was taken, and given back
took : (p : Record) (i : ℕ) (part : Map) (outbox : List Entry) (last : ℕ) (between : List Command) → CapturesNone p (giving Nothing (taking p i part outbox last between))
took p i part outbox last between = record { calls = refl; opening = refl; sections = append-nil p.sections; seen = record { more = between; is = refl } }

looked : (p : Record) (i : ℕ) (part : Map) (outbox : List Entry) (last : ℕ) (taken after : List Command) → CapturesNone p (giving Nothing (looking (taking p i part outbox last taken) after))
looked p i part outbox last taken after = record { calls = refl; opening = refl; sections = append-nil p.sections; seen = record { more = taken ++ after; is = append_assoc p.seen taken after } }

back_from : (p holder w : Record) → w ≡ giving Nothing holder → CapturesNone p (giving Nothing holder) → CapturesNone p w
back_from p holder w is k = subst (λ (x : Record). CapturesNone p x) (sym is) k

put_back : (p holder w : Record) (i : ℕ) → HasLookedAt p i holder → w ≡ giving Nothing holder → CapturesNone p w
put_back p holder w i h is = back_from p holder w is (subst (λ (x : Record). CapturesNone p (giving Nothing x)) (sym h.is) (looked p i h.part h.outbox h.last h.taken h.looked))

-- the journal's pass made no step
pub of_same_steps : (old new : OwnSteps) → new ≡ old → OnlyCaptures (stripe_count (arc_value old.stripes)) (recorded old.pass) → OnlyCaptures (stripe_count (arc_value new.stripes)) (recorded new.pass)
of_same_steps old new same only = subst (λ (s : OwnSteps). OnlyCaptures (stripe_count (arc_value s.stripes)) (recorded s.pass)) (sym same) only

-- ---- a sweep of one stripe

pub swept : (n i : ℕ) (p w : Record) (entries : List Entry) → SweepsStripe n p i entries w → CapturesNone p w
swept n i p w entries s = subst (λ (x : Record). CapturesNone p x) (sym s.is) (record { calls = refl; opening = refl; sections = append-nil p.sections; seen = record { more = s.between; is = refl } })

pub not_swept : (i : ℕ) (p w : Record) (e : Refusal) → RefusesSweep p i e w → CapturesNone p w
not_swept i p w refusal.NullValue r = absurd r
not_swept i p w refusal.KeyTooLong r = absurd r
not_swept i p w refusal.ValueTooLong r = absurd r
not_swept i p w refusal.UnknownMethod r = absurd r
not_swept i p w refusal.UnknownFunction r = absurd r
not_swept i p w refusal.BadFrame r = absurd r
not_swept i p w refusal.NoMemory r = back_from p r.holder w r.is (subst (λ (x : Record). CapturesNone p (giving Nothing x)) (sym r.before.is) (took p i r.before.part r.before.outbox r.before.last r.before.taken))
not_swept i p w (refusal.Busy j) r = subst (λ (x : Record). CapturesNone p x) (sym r.1) (missed p i)
not_swept i p w refusal.Failed r = absurd r
not_swept i p w refusal.TicketsSpent r = absurd r
not_swept i p w refusal.NotFormatted r = absurd r
not_swept i p w (refusal.Damaged x0 x1) r = absurd r
not_swept i p w refusal.WrongVersion r = absurd r
not_swept i p w refusal.LogFull r = absurd r
not_swept i p w refusal.AlreadyFormatted r = absurd r
not_swept i p w refusal.WrongPhase r = absurd r
not_swept i p w refusal.TooEarly r = absurd r
not_swept i p w refusal.NotText r = absurd r
not_swept i p w refusal.SeatsSpent r = absurd r

-- ---- a capture of one stripe

pub not_captured : (i : ℕ) (p w : Record) (e : Refusal) → RefusesCapture p i e w → CapturesNone p w
not_captured i p w refusal.NullValue r = absurd r
not_captured i p w refusal.KeyTooLong r = absurd r
not_captured i p w refusal.ValueTooLong r = absurd r
not_captured i p w refusal.UnknownMethod r = absurd r
not_captured i p w refusal.UnknownFunction r = absurd r
not_captured i p w refusal.BadFrame r = absurd r
not_captured i p w refusal.NoMemory r = put_back p r.holder w i r.before r.is
not_captured i p w (refusal.Busy j) r = subst (λ (x : Record). CapturesNone p x) (sym r.1) (missed p i)
not_captured i p w refusal.Failed r = absurd r
not_captured i p w refusal.TicketsSpent r = absurd r
not_captured i p w refusal.NotFormatted r = absurd r
not_captured i p w (refusal.Damaged x0 x1) r = absurd r
not_captured i p w refusal.WrongVersion r = absurd r
not_captured i p w refusal.LogFull r = put_back p r.holder w i r.before.at r.is
not_captured i p w refusal.AlreadyFormatted r = absurd r
not_captured i p w refusal.WrongPhase r = absurd r
not_captured i p w refusal.TooEarly r = absurd r
not_captured i p w refusal.NotText r = absurd r
not_captured i p w refusal.SeatsSpent r = absurd r

-- what it has captured is legal, and so is what it captures now
pub captured : (n i mark : ℕ) (p w : Record) (entries : List (List ℕ × Value)) → CapturesStripe n p i mark entries w → OnlyCaptures n p → OnlyCaptures n w
captured n i mark p w entries c only =
    let at = giving Capture (looking (taking p i c.part c.outbox c.last c.taken) c.looked) in
    let seen : at.seen ≡ p.seen ++ (c.taken ++ c.looked) = append_assoc p.seen c.taken c.looked in
    let old : AllLegalSections n at p.sections = sections_longer n p at (c.taken ++ c.looked) refl seen p.sections only.legal in
    let here : IsLegalSection n (history_of at) (record { stripe = i; mark = reach at; part = c.part }) =
    subst (λ (x : Record). IsLegalSection n (history_of x) (record { stripe = i; mark = reach x; part = c.part })) c.is
    (subst (λ (m : ℕ). IsLegalSection n (history_of w) (record { stripe = i; mark = m; part = c.part })) c.mark_is c.legal) in
    let legal : AllLegalSections n at at.sections = sections_both n at p.sections (record { stripe = i; mark = reach at; part = c.part } ∷ []) old (here, tt) in
    let calls : at.calls ≡ p.calls = refl in
    subst (λ (x : Record). OnlyCaptures n x) (sym c.is) (record { idle = calls ∙ only.idle; legal = legal })
