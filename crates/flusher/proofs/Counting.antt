-- What the LOOKs of a sweep found.
use Rattle.std.proofs.Common.{◌≡◌, ℕ, ◌+◌, List, [], ◌∷◌, ◌++◌, Option, Some, None, IfSome, Result, Ok, Err, append-nil, refl, sym, ◌∙◌, ap, subst}
use Rattle.std.proofs.lemmas.List.{append_assoc}
use Rattle.map_types.specs.declared.refusals.Refusal.{Refusal}
use Rattle.ticket_order.specs.declared.record.StepMade.{StepMade}
use Rattle.ticket_order.specs.declared.record.StepMade.TheVariants as step
use Rattle.ticket_order.specs.declared.record.Record.{Record}
use Rattle.ticket_order.specs.Records.{looking, reach}
use Rattle.ticket_order.specs.Walks.{Give, Take, kind_of}
use Rattle.store_layout.specs.Hands.{Hand}
use Rattle.flusher.specs.declared.sweeper.Sweep.{Sweep}
use Rattle.flusher.specs.declared.sweeper.Sweeper.{Sweeper}
use Rattle.flusher.specs.declared.sweeper.Swept.{Swept}
use Rattle.flusher.specs.declared.sweeper.Swept.TheVariants.{More, Held, Done}
use Rattle.flusher.specs.declared.sweeper.Walking.{Walking}
use Rattle.flusher.specs.declared.sweeper.Walking.TheVariants.{Rests, SweepTakes, SweepGives}
use Rattle.flusher.specs.Sweeping.{BeginsSweep, StepsOn, next_kind}
use Rattle.flusher.specs.KeeperSteps.{AreOfSweep, HasGivenBack, MakesSweep, looks_of}

looks_more : (xs ys : List StepMade) → looks_of (xs ++ ys) ≡ looks_of xs ++ looks_of ys
looks_more [] ys = refl
looks_more (step.Took i es last ∷ xs) ys = looks_more xs ys
looks_more (step.FoundHeld i ∷ xs) ys = looks_more xs ys
looks_more (step.Gave i ∷ xs) ys = looks_more xs ys
looks_more (step.Drew t ∷ xs) ys = looks_more xs ys
looks_more (step.Looked q ∷ xs) ys = ap (λ z. q ∷ z) (looks_more xs ys)
looks_more (step.Published n ∷ xs) ys = looks_more xs ys
looks_more (step.Saw d ∷ xs) ys = looks_more xs ys
looks_more (step.Failed ∷ xs) ys = looks_more xs ys
looks_more (step.FoundAlive b ∷ xs) ys = looks_more xs ys

-- a step that is no LOOK adds no count
more_by : (xs : List StepMade) (made : StepMade) → looks_of (made ∷ []) ≡ [] → looks_of (xs ++ made ∷ []) ≡ looks_of xs
more_by xs made none = looks_more xs (made ∷ []) ∙ (ap (λ z. looks_of xs ++ z) none ∙ append-nil (looks_of xs))

none_taken : (made : StepMade) (i : ℕ) → kind_of made ≡ Take i → looks_of (made ∷ []) ≡ []
none_taken (step.Took j es last) i is = refl
none_taken (step.FoundHeld j) i is = refl
none_taken (step.Gave j) i is = refl
none_taken (step.Drew t) i is = refl
none_taken (step.Looked q) i is = cc
none_taken (step.Published n) i is = refl
none_taken (step.Saw d) i is = refl
none_taken step.Failed i is = refl
none_taken (step.FoundAlive b) i is = refl

none_given : (made : StepMade) (i : ℕ) → kind_of made ≡ Give i → looks_of (made ∷ []) ≡ []
none_given (step.Took j es last) i is = refl
none_given (step.FoundHeld j) i is = refl
none_given (step.Gave j) i is = refl
none_given (step.Drew t) i is = refl
none_given (step.Looked q) i is = cc
none_given (step.Published n) i is = refl
none_given (step.Saw d) i is = refl
none_given step.Failed i is = refl
none_given (step.FoundAlive b) i is = refl

adds : (begun : Option Sweep) (count : ℕ) (xs : List StepMade) (made : StepMade) → looks_of (made ∷ []) ≡ [] → AreOfSweep begun count xs → AreOfSweep begun count (xs ++ made ∷ [])
adds (Some b) count xs made none so_far = (so_far.0, more_by xs made none ∙ so_far.1)
adds None count xs made none so_far = more_by xs made none ∙ so_far

-- the steps so far of a call that goes on with the sweep that was begun, or makes a whole one
abbrev pub SoFar : Option Sweep → Option Sweep → List StepMade → Type 0
SoFar begun None made = (begun ≡ None) × (looks_of made ≡ [])
SoFar begun (Some sweep) made = AreOfSweep begun sweep.count made

pub record IsUnderWay (begun now : Option Sweep) (p w : Record) : Type 0 where
  pub made : List StepMade
  pub steps : w.steps ≡ p.steps ++ made
  pub so_far : SoFar begun now made

none_so_far : (begun : Option Sweep) → SoFar begun begun []
none_so_far None = (refl, refl)
none_so_far (Some sweep) = (refl, refl)

pub begins : (begun : Option Sweep) (p : Record) → IsUnderWay begun begun p p
begins begun p = record { made = []; steps = sym (append-nil p.steps); so_far = none_so_far begun }

-- what one more step leaves, by its answer
abbrev pub After : Option Sweep → Option Sweep → Record → Record → Result Swept Refusal → Type 0
After begun now p w (Ok More) = IsUnderWay begun now p w
After begun now p w (Ok (Held i)) = IsUnderWay begun now p w
After begun now p w (Ok (Done count)) = MakesSweep begun count p w
After begun now p w (Err refusal) = IsUnderWay begun now p w

one_more : (p v w : Record) (xs : List StepMade) (made : StepMade) → v.steps ≡ p.steps ++ xs → w.steps ≡ v.steps ++ made ∷ [] → w.steps ≡ p.steps ++ (xs ++ made ∷ [])
one_more p v w xs made before is = is ∙ (ap (λ z. z ++ made ∷ []) before ∙ append_assoc p.steps xs (made ∷ []))

module _ (begun : Option Sweep) (p v w : Record) (made : StepMade) (steps : w.steps ≡ v.steps ++ made ∷ []) where
  stays : (sweep next : Sweep) (now : Option Sweep) → looks_of (made ∷ []) ≡ [] → next.count ≡ sweep.count → now ≡ Some next → IsUnderWay begun (Some sweep) p v → IsUnderWay begun now p w
  stays sweep next now none same is u = record {
    made = u.made ++ made ∷ [];
    steps = one_more p v w u.made made u.steps steps;
    so_far = subst (λ o. SoFar begun o (u.made ++ made ∷ [])) (sym is) (subst (λ c. AreOfSweep begun c (u.made ++ made ∷ [])) (sym same) (adds begun sweep.count u.made made none u.so_far));
  }

  ends : (sweep : Sweep) (count : ℕ) → looks_of (made ∷ []) ≡ [] → count ≡ sweep.count → IsUnderWay begun (Some sweep) p v → MakesSweep begun count p w
  ends sweep count none same u = record {
    made = u.made ++ made ∷ [];
    steps = one_more p v w u.made made u.steps steps;
    sweep = subst (λ c. AreOfSweep begun c (u.made ++ made ∷ [])) (sym same) (adds begun sweep.count u.made made none u.so_far);
  }

begins_at : (begun : Option Sweep) (old : Hand) (new : Sweeper) (p v w : Record) (result : Result Swept Refusal) → BeginsSweep old new v w result → IsUnderWay begun None p v → After begun new.sweep p w result
begins_at begun old new p v w result k u =
    let q : ℕ = reach (looking v k.looks.between) in
    let made : List StepMade = u.made ++ step.Looked q ∷ [] in
    let count_is : looks_of made ≡ k.count ∷ [] = looks_more u.made (step.Looked q ∷ []) ∙ (ap (λ z. z ++ q ∷ []) u.so_far.1 ∙ ap (λ z. z ∷ []) (sym (k.looks.count_is ∙ ap reach k.looks.is))) in
    subst (After begun new.sweep p w) (sym k.answer) (record {
      made = made;
      steps = one_more p v w u.made (step.Looked q) u.steps (ap (λ (r : Record). r.steps) k.looks.is);
      so_far = subst (λ o. SoFar begun o made) (sym k.sweep_is) (subst (λ b. AreOfSweep b k.count made) (sym u.so_far.0) count_is);
    })

pub goes_on : (n : ℕ) (begun now : Option Sweep) (walking : Walking) (old : Hand) (new : Sweeper) (p v w : Record) (result : Result Swept Refusal) (made : StepMade) → w.steps ≡ v.steps ++ made ∷ [] → kind_of made ≡ next_kind now walking
    → StepsOn n now walking old new v w result → IsUnderWay begun now p v → After begun new.sweep p w result
goes_on n begun None walking old new p v w result made steps kind k u = begins_at begun old new p v w result k u
goes_on n begun (Some sweep) Rests old new p v w (Ok More) made steps kind k u = stays begun p v w made steps sweep sweep new.sweep (none_taken made sweep.stripe kind) refl k.sweep_is u
goes_on n begun (Some sweep) Rests old new p v w (Ok (Held i)) made steps kind k u = stays begun p v w made steps sweep sweep new.sweep (none_taken made sweep.stripe kind) refl k.sweep_is u
goes_on n begun (Some sweep) Rests old new p v w (Ok (Done count)) made steps kind k u = absurd k
goes_on n begun (Some sweep) Rests old new p v w (Err e) made steps kind k u = absurd k
goes_on n begun (Some sweep) SweepTakes old new p v w (Ok More) made steps kind k u = stays begun p v w made steps sweep sweep new.sweep (none_taken made sweep.stripe kind) refl k.sweep_is u
goes_on n begun (Some sweep) SweepTakes old new p v w (Ok (Held i)) made steps kind k u = stays begun p v w made steps sweep sweep new.sweep (none_taken made sweep.stripe kind) refl k.sweep_is u
goes_on n begun (Some sweep) SweepTakes old new p v w (Ok (Done count)) made steps kind k u = absurd k
goes_on n begun (Some sweep) SweepTakes old new p v w (Err e) made steps kind k u = absurd k
goes_on n begun (Some sweep) (SweepGives walk) old new p v w (Ok More) made steps kind k u = stays begun p v w made steps sweep (record sweep { stripe = sweep.stripe + 1 }) new.sweep (none_given made sweep.stripe kind) refl k.sweep_is u
goes_on n begun (Some sweep) (SweepGives walk) old new p v w (Ok (Held i)) made steps kind k u = absurd k
goes_on n begun (Some sweep) (SweepGives walk) old new p v w (Ok (Done count)) made steps kind k u = ends begun p v w made steps sweep count (none_given made sweep.stripe kind) k.count_is u
goes_on n begun (Some sweep) (SweepGives walk) old new p v w (Err e) made steps kind k u = stays begun p v w made steps sweep sweep new.sweep (none_given made sweep.stripe kind) refl k.sweep_is u

-- a step that does not end the sweep leaves it under way
pub not_over : (begun now : Option Sweep) (p w : Record) (swept : Swept) → ((count : ℕ) → swept ≡ Done count → ⊥) → After begun now p w (Ok swept) → IsUnderWay begun now p w
not_over begun now p w More going k = k
not_over begun now p w (Held i) going k = k
not_over begun now p w (Done count) going k = absurd (going count refl)

-- the sweep that it stays in is the one that was begun, or has the LOOK's count
pub stays_in : (begun now : Option Sweep) (p w : Record) → IsUnderWay begun now p w → IfSome now (λ sweep. MakesSweep begun sweep.count p w)
stays_in begun None p w u = tt
stays_in begun (Some sweep) p w u = record { made = u.made; steps = u.steps; sweep = u.so_far }

-- ---- a step that was refused

is_given : (made : StepMade) (i : ℕ) → kind_of made ≡ Give i → made ≡ step.Gave i
is_given (step.Took j es last) i is = cc
is_given (step.FoundHeld j) i is = cc
is_given (step.Gave j) i is = cc
is_given (step.Drew t) i is = cc
is_given (step.Looked q) i is = cc
is_given (step.Published n) i is = cc
is_given (step.Saw d) i is = cc
is_given step.Failed i is = cc
is_given (step.FoundAlive b) i is = cc

pub gave_back : (n : ℕ) (begun now : Option Sweep) (walking : Walking) (old : Hand) (new : Sweeper) (p v w : Record) (e : Refusal) (made : StepMade) → w.steps ≡ v.steps ++ made ∷ [] → kind_of made ≡ next_kind now walking
    → StepsOn n now walking old new v w (Err e) → IsUnderWay begun now p v → HasGivenBack new p w
gave_back n begun None walking old new p v w e made steps kind k u = absurd (never e k.answer)
  where
    never : (x : Refusal) → (let y : Result Swept Refusal = Err x in let z : Result Swept Refusal = Ok More in y ≡ z) → ⊥
    never x h = cc
gave_back n begun (Some sweep) Rests old new p v w e made steps kind k u = absurd k
gave_back n begun (Some sweep) SweepTakes old new p v w e made steps kind k u = absurd k
gave_back n begun (Some sweep) (SweepGives walk) old new p v w e made steps kind k u = record {
  sweep = sweep;
  sweep_is = k.sweep_is;
  before = u.made;
  steps = one_more p v w u.made made u.steps steps ∙ ap (λ (x : StepMade). p.steps ++ (u.made ++ x ∷ [])) (is_given made sweep.stripe kind);
}
