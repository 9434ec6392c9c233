-- What the two steps of a sweep of one stripe leave.
use Rattle.std.proofs.Common.{◌≡◌, ℕ, ◌+◌, ◌≤◌, List, [], ◌∷◌, ◌++◌, length, get_or, Option, Some, None, refl, sym, ◌∙◌, ap, arith}
use Rattle.std.proofs.lemmas.List.{length_push, get_or_push}
use Rattle.map_types.specs.declared.refusals.Refusal.{Refusal}
use Rattle.map_types.specs.declared.refusals.Refusal.TheVariants as refusal
use Rattle.ticket_order.specs.declared.stripe.Entry.{Entry}
use Rattle.ticket_order.specs.declared.walk.Walk.{Walk}
use Rattle.ticket_order.specs.declared.walk.Stepped.{Stepped}
use Rattle.ticket_order.specs.declared.walk.Stepped.TheVariants as stepped
use Rattle.ticket_order.specs.declared.record.StepMade.{StepMade}
use Rattle.ticket_order.specs.declared.record.StepMade.TheVariants.{Gave, Took, FoundHeld}
use Rattle.ticket_order.specs.declared.record.Purpose.TheVariants.{Nothing}
use Rattle.ticket_order.specs.declared.record.Record.{Record}
use Rattle.ticket_order.specs.Records.{missing, giving}
use Rattle.ticket_order.specs.Calls.{SweepsStripe, RefusesSweep}
use Rattle.ticket_order.specs.Walks.{ToSweep, Next, HasFewerLeft, Kind, Give, kind_of, MakesOne, KeepsRefusal}
use Rattle.ticket_order.proofs.Left.{some_left}

swept_steps : (n : ℕ) (b : Record) (i : ℕ) (es : List Entry) (w : Record) (s : SweepsStripe n b i es w) → w.steps ≡ (b.steps ++ Took i es s.last ∷ []) ++ Gave i ∷ []
swept_steps n b i es w s = ap (λ (z : Record). z.steps) s.is

back_steps : (b : Record) (i : ℕ) (w : Record) (r : RefusesSweep b i refusal.NoMemory w) → w.steps ≡ (b.steps ++ Took i r.before.outbox r.before.last ∷ []) ++ Gave i ∷ []
back_steps b i w r = ap (λ (z : Record). z.steps) (r.is ∙ ap (giving Nothing) r.before.is)

one_or_two : (xs : List StepMade) (a x y : StepMade) → xs ++ a ∷ [] ≡ (xs ++ x ∷ []) ++ y ∷ [] → ⊥
one_or_two xs a x y e = omega (arith, ap length e, length_push xs a, length_push (xs ++ x ∷ []) y, length_push xs x)

pub last_same : (xs ys : List StepMade) (a b : StepMade) → xs ++ a ∷ [] ≡ ys ++ b ∷ [] → a ≡ b
last_same xs ys a b e =
    let long : length xs ≡ length ys = omega (arith, ap length e, length_push xs a, length_push ys b) in
    sym (get_or_push xs a a (length ys) long) ∙ ap (λ z. get_or z (length ys) a) e ∙ get_or_push ys b a (length ys) refl

missed_by : (b : Record) (i : ℕ) (w : Record) (e : Refusal) (made : StepMade) → RefusesSweep b i e w → w.steps ≡ b.steps ++ made ∷ [] → w ≡ missing b i
missed_by b i w (refusal.Busy j) made r s = r.1
missed_by b i w refusal.NoMemory made r s = absurd (one_or_two b.steps made _ _ (sym s ∙ back_steps b i w r))
missed_by b i w refusal.NullValue made r s = absurd r
missed_by b i w refusal.KeyTooLong made r s = absurd r
missed_by b i w refusal.ValueTooLong made r s = absurd r
missed_by b i w refusal.UnknownMethod made r s = absurd r
missed_by b i w refusal.UnknownFunction made r s = absurd r
missed_by b i w refusal.BadFrame made r s = absurd r
missed_by b i w refusal.Failed made r s = absurd r
missed_by b i w refusal.TicketsSpent made r s = absurd r
missed_by b i w refusal.NotFormatted made r s = absurd r
missed_by b i w (refusal.Damaged file offset) made r s = absurd r
missed_by b i w refusal.WrongVersion made r s = absurd r
missed_by b i w refusal.LogFull made r s = absurd r
missed_by b i w refusal.AlreadyFormatted made r s = absurd r
missed_by b i w refusal.WrongPhase made r s = absurd r
missed_by b i w refusal.TooEarly made r s = absurd r
missed_by b i w refusal.NotText made r s = absurd r
missed_by b i w refusal.SeatsSpent made r s = absurd r

-- a TAKE that leaves nothing to go on with found the stripe held
pub missed : (n : ℕ) (b : Record) (i : ℕ) (w : Record) (r : Stepped) (made : StepMade) → Next n b (ToSweep i) r w → ((x : Walk) → r ≡ stepped.More x → ⊥) → w.steps ≡ b.steps ++ made ∷ [] → w ≡ missing b i
missed n b i w (stepped.More x) made next not_more s = absurd (not_more x refl)
missed n b i w (stepped.Held h) made next not_more s = absurd next
missed n b i w (stepped.Released z) made next not_more s = absurd next
missed n b i w (stepped.Swept es) made next not_more s = absurd (one_or_two b.steps made _ _ (sym s ∙ swept_steps n b i es.items w next))
missed n b i w (stepped.Captured z) made next not_more s = absurd next
missed n b i w (stepped.Refused e) made next not_more s = missed_by b i w e made next s

back_by : (b : Record) (i : ℕ) (w : Record) (e : Refusal) → RefusesSweep b i e w → length w.steps ≡ length b.steps + 2 → RefusesSweep b i refusal.NoMemory w
back_by b i w (refusal.Busy j) r s = absurd (omega (arith, s, ap (λ (z : Record). length z.steps) r.1, length_push b.steps (FoundHeld i)))
back_by b i w refusal.NoMemory r s = r
back_by b i w refusal.NullValue r s = absurd r
back_by b i w refusal.KeyTooLong r s = absurd r
back_by b i w refusal.ValueTooLong r s = absurd r
back_by b i w refusal.UnknownMethod r s = absurd r
back_by b i w refusal.UnknownFunction r s = absurd r
back_by b i w refusal.BadFrame r s = absurd r
back_by b i w refusal.Failed r s = absurd r
back_by b i w refusal.TicketsSpent r s = absurd r
back_by b i w refusal.NotFormatted r s = absurd r
back_by b i w (refusal.Damaged file offset) r s = absurd r
back_by b i w refusal.WrongVersion r s = absurd r
back_by b i w refusal.LogFull r s = absurd r
back_by b i w refusal.AlreadyFormatted r s = absurd r
back_by b i w refusal.WrongPhase r s = absurd r
back_by b i w refusal.TooEarly r s = absurd r
back_by b i w refusal.NotText r s = absurd r
back_by b i w refusal.SeatsSpent r s = absurd r

-- a GIVE that hands nothing out put the stripe back
pub put_back_by : (n : ℕ) (b : Record) (i : ℕ) (w : Record) (r : Stepped) (left : ℕ) → Next n b (ToSweep i) r w → ((es : _) → r ≡ stepped.Swept es → ⊥) → HasFewerLeft left r → left ≤ 1 → length w.steps ≡ length b.steps + 2 → RefusesSweep b i refusal.NoMemory w
put_back_by n b i w (stepped.More x) left next not_swept fewer one s = absurd (omega (arith, fewer, some_left x, one))
put_back_by n b i w (stepped.Held h) left next not_swept fewer one s = absurd next
put_back_by n b i w (stepped.Released z) left next not_swept fewer one s = absurd next
put_back_by n b i w (stepped.Swept es) left next not_swept fewer one s = absurd (not_swept es refl)
put_back_by n b i w (stepped.Captured z) left next not_swept fewer one s = absurd next
put_back_by n b i w (stepped.Refused e) left next not_swept fewer one s = back_by b i w e next s

-- the step of a GIVE
pub gave : {T : Type 0} (recorded : T → Record) (moves : T → StepMade → T → Type 0) (kind : Kind) (old new : T) (i : ℕ) (front : List StepMade) → MakesOne recorded moves kind old new
    → (recorded new).steps ≡ front ++ Gave i ∷ [] → MakesOne recorded moves (Give i) old new
gave recorded moves kind old new i front m is = record {
  made = m.made;
  steps = m.steps;
  kind_is = ap kind_of (last_same (recorded old).steps front m.made (Gave i) (sym m.steps ∙ is));
  moved = m.moved;
}

pub gave_swept : {T : Type 0} (recorded : T → Record) (moves : T → StepMade → T → Type 0) (kind : Kind) (old new : T) (n i : ℕ) (b : Record) (es : List Entry) → MakesOne recorded moves kind old new
    → SweepsStripe n b i es (recorded new) → MakesOne recorded moves (Give i) old new
gave_swept recorded moves kind old new n i b es m s = gave recorded moves kind old new i (b.steps ++ Took i es s.last ∷ []) m (swept_steps n b i es (recorded new) s)

pub gave_back : {T : Type 0} (recorded : T → Record) (moves : T → StepMade → T → Type 0) (kind : Kind) (old new : T) (i : ℕ) (b : Record) → MakesOne recorded moves kind old new
    → RefusesSweep b i refusal.NoMemory (recorded new) → MakesOne recorded moves (Give i) old new
gave_back recorded moves kind old new i b m r = gave recorded moves kind old new i (b.steps ++ Took i r.before.outbox r.before.last ∷ []) m (back_steps b i (recorded new) r)

-- a walk that hands entries out was not to refuse
pub no_refusal : (r : Option Refusal) (es : _) → KeepsRefusal r (stepped.Swept es) → r ≡ None
no_refusal None es k = refl
no_refusal (Some e) es k = cc
