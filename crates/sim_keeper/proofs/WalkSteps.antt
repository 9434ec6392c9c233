-- Which steps the walks of the keeper have made.
use Rattle.std.proofs.Common.{◌≡◌, ◌⊎◌, inl, inr, ℕ, ◌+◌, List, [], ◌∷◌, ◌++◌, length, Some, refl, sym, ◌∙◌, ap, subst, arith}
use Rattle.std.proofs.lemmas.List.{length_push, same_from_push}
use Rattle.map_types.specs.declared.commands.Command.{Command}
use Rattle.map_types.specs.declared.refusals.Refusal.{Refusal}
use Rattle.map_types.specs.declared.refusals.Refusal.TheVariants as refusal
use Rattle.ticket_order.specs.declared.capture_walk.CaptureStage.TheVariants as capture
use Rattle.ticket_order.specs.declared.sweep_walk.SweepStage.TheVariants as sweep
use Rattle.ticket_order.specs.declared.walk.Stage.{Stage}
use Rattle.ticket_order.specs.declared.walk.Stage.TheVariants as stage
use Rattle.ticket_order.specs.declared.walk.Walk.{Walk}
use Rattle.ticket_order.specs.declared.stripe.Entry.{Entry}
use Rattle.ticket_order.specs.declared.record.Purpose.TheVariants.{Nothing}
use Rattle.ticket_order.specs.declared.record.StepMade.{StepMade}
use Rattle.ticket_order.specs.declared.record.StepMade.TheVariants.{Took, FoundHeld, Gave, Drew, Looked, Published, Saw, Failed, FoundAlive}
use Rattle.ticket_order.specs.declared.record.Record.{Record}
use Rattle.ticket_order.specs.Records.{giving, looking, reach, stripe_held, taking}
use Rattle.ticket_order.specs.Calls.{RefusesSweep}
use Rattle.ticket_order.specs.Walks.{FitsStage, Take, Give, Look, ToCapture, ToSweep, kind_of, next_of_stage}
use Rattle.flusher.specs.Sweeping.{IsSwept}
use Rattle.flusher.proofs.Quiet as swept
use Rattle.checkpoint_walk.specs.Capturing.{HasLooked, HasTaken}
use Rattle.checkpoint_walk.proofs.Walked.{third_put_back}
use Rattle.checkpoint_walk.proofs.CaptureWalks.{same_stripe, by_change, by_read, by_release, by_sweep}
use Rattle.sim_rules.specs.declared.outcome.Made.{Made}
use Rattle.sim_rules.specs.declared.outcome.Made.TheVariants as told
use Rattle.sim_rules.specs.Told.{told_of}

-- ---- how steps are told

pub look_told : (step : StepMade) (m : Made) → kind_of step ≡ Look → told_of step ≡ Some m → (q : ℕ) × (step ≡ Looked q) × (m ≡ told.Looked q)
look_told (Took i es last) m kind is = absurd cc
look_told (FoundHeld i) m kind is = absurd cc
look_told (Gave i) m kind is = absurd cc
look_told (Drew t) m kind is = absurd cc
look_told (Looked q) m kind is = (q, refl, cc)
look_told (Published x) m kind is = absurd cc
look_told (Saw d) m kind is = absurd cc
look_told Failed m kind is = absurd cc
look_told (FoundAlive is_alive) m kind is = absurd cc

pub record ToldTook (step : StepMade) (i : ℕ) (m : Made) : Type 0 where
  pub outbox : List Entry
  pub last : ℕ
  pub step_is : step ≡ Took i outbox last
  pub is : m ≡ told.Took i

pub record ToldHeld (step : StepMade) (i : ℕ) (m : Made) : Type 0 where
  pub step_is : step ≡ FoundHeld i
  pub is : m ≡ told.FoundHeld i

pub take_told : (step : StepMade) (i : ℕ) (m : Made) → kind_of step ≡ Take i → told_of step ≡ Some m → ToldTook step i m ⊎ ToldHeld step i m
take_told (Took j es last) i m kind is = let same : j ≡ i = cc in inl (record { outbox = es; last = last; step_is = ap (λ k. Took k es last) same; is = (let e : m ≡ told.Took j = cc in e) ∙ ap told.Took same })
take_told (FoundHeld j) i m kind is = let same : j ≡ i = cc in inr (record { step_is = ap FoundHeld same; is = (let e : m ≡ told.FoundHeld j = cc in e) ∙ ap told.FoundHeld same })
take_told (Gave j) i m kind is = absurd cc
take_told (Drew t) i m kind is = absurd cc
take_told (Looked q) i m kind is = absurd cc
take_told (Published x) i m kind is = absurd cc
take_told (Saw d) i m kind is = absurd cc
take_told Failed i m kind is = absurd cc
take_told (FoundAlive is_alive) i m kind is = absurd cc

pub give_told : (step : StepMade) (i : ℕ) (m : Made) → kind_of step ≡ Give i → told_of step ≡ Some m → m ≡ told.Gave i
give_told (Took j es last) i m kind is = absurd cc
give_told (FoundHeld j) i m kind is = absurd cc
give_told (Gave j) i m kind is = let same : j ≡ i = cc in (let e : m ≡ told.Gave j = cc in e) ∙ ap told.Gave same
give_told (Drew t) i m kind is = absurd cc
give_told (Looked q) i m kind is = absurd cc
give_told (Published x) i m kind is = absurd cc
give_told (Saw d) i m kind is = absurd cc
give_told Failed i m kind is = absurd cc
give_told (FoundAlive is_alive) i m kind is = absurd cc

took_not_held : (i j : ℕ) (es : List Entry) (last : ℕ) → Took i es last ≡ FoundHeld j → ⊥
took_not_held i j es last e = cc

gave_not_held : (i j : ℕ) → Gave i ≡ FoundHeld j → ⊥
gave_not_held i j e = cc

-- a TAKE that found the stripe free, or held
pub took : (p : Record) (now : List StepMade) (step : StepMade) (i : ℕ) (m : Made) → ToldTook step i m ⊎ ToldHeld step i m → now ≡ p.steps ++ step ∷ [] → (es : List Entry) (last : ℕ) → now ≡ p.steps ++ Took i es last ∷ [] → m ≡ told.Took i
took p now step i m (inl t) steps es last is = t.is
took p now step i m (inr t) steps es last is = absurd (took_not_held i i es last ((same_from_push p.steps p.steps (Took i es last) step (sym is ∙ steps)).1 ∙ t.step_is))

pub missed : (p : Record) (now : List StepMade) (step : StepMade) (i : ℕ) (m : Made) → ToldTook step i m ⊎ ToldHeld step i m → now ≡ p.steps ++ step ∷ [] → now ≡ p.steps ++ FoundHeld i ∷ [] → m ≡ told.FoundHeld i
missed p now step i m (inl t) steps is = absurd (took_not_held i i t.outbox t.last (sym t.step_is ∙ (same_from_push p.steps p.steps step (FoundHeld i) (sym steps ∙ is)).1))
missed p now step i m (inr t) steps is = t.is

-- ---- the walk of a sweep

back_swept : (b : Record) (i : ℕ) (e : Refusal) (p : Record) → RefusesSweep b i e (giving Nothing p) → (es : List Entry) × (last : ℕ) × (p.steps ≡ b.steps ++ Took i es last ∷ [])
back_swept b i (refusal.Busy j) p r = absurd (gave_not_held (stripe_held p.holding) i (same_from_push p.steps b.steps (Gave (stripe_held p.holding)) (FoundHeld i) (ap (λ (x : Record). x.steps) r.1)).1)
back_swept b i refusal.NoMemory p r =
    let x = r.before in
    let is : giving Nothing p ≡ giving Nothing (taking b i x.part x.outbox x.last x.taken) = r.is ∙ ap (giving Nothing) x.is in
    (x.outbox, x.last, (same_from_push p.steps (b.steps ++ Took i x.outbox x.last ∷ []) (Gave (stripe_held p.holding)) (Gave i) (ap (λ (y : Record). y.steps) is)).0)
back_swept b i e p r = absurd r

swept_stage : (n : ℕ) (b : Record) (i : ℕ) (s : Stage) (p : Record) → FitsStage n b (ToSweep i) s p → length p.steps ≡ length b.steps + 1 → (es : List Entry) × (last : ℕ) × (p.steps ≡ b.steps ++ Took i es last ∷ [])
swept_stage n b i (stage.Change s) p k one = absurd (swept.by_change n b i s p k)
swept_stage n b i (stage.Read s) p k one = absurd (swept.by_read n b i s p k)
swept_stage n b i (stage.Release s) p k one = absurd (swept.by_release n b i s p k)
swept_stage n b i (stage.Sweep (sweep.Begins alloc j)) p k one = absurd (omega (arith, one, ap (λ (x : Record). length x.steps) k.0.is))
swept_stage n b i (stage.Sweep (sweep.HasTaken alloc t)) p k one =
    let same : i ≡ t.stripe = same_task i t.stripe k.task_is in
    (t.content.outbox.items, t.content.last, ap (λ (x : Record). x.steps) k.took.is ∙ ap (λ j. b.steps ++ Took j t.content.outbox.items t.content.last ∷ []) (sym same))
  where
    same_task : (i j : ℕ) → ToSweep i ≡ ToSweep j → i ≡ j
    same_task i j e = cc
swept_stage n b i (stage.Capture s) p k one = absurd (swept.by_capture n b i s p k)
swept_stage n b i (stage.GivingBack t e) p k one = back_swept b i e p k.refused

pub swept_took : (n : ℕ) (b : Record) (i : ℕ) (walk : Walk) (p : Record) → IsSwept n b i walk p → (es : List Entry) × (last : ℕ) × (p.steps ≡ b.steps ++ Took i es last ∷ [])
swept_took n b i walk p k = swept_stage n b i walk.stage p k.fits k.one_made

-- ---- the walk of a capture

taken_stage : (n : ℕ) (b : Record) (i : ℕ) (s : Stage) (p : Record) → FitsStage n b (ToCapture i) s p → next_of_stage n s ≡ Look → (es : List Entry) × (last : ℕ) × (p.steps ≡ b.steps ++ Took i es last ∷ [])
taken_stage n b i (stage.Change s) p k look = absurd (by_change n b i s p k)
taken_stage n b i (stage.Read s) p k look = absurd (by_read n b i s p k)
taken_stage n b i (stage.Release s) p k look = absurd (by_release n b i s p k)
taken_stage n b i (stage.Sweep s) p k look = absurd (by_sweep n b i s p k)
taken_stage n b i (stage.Capture (capture.Begins j)) p k look = absurd cc
taken_stage n b i (stage.Capture (capture.HasTaken t)) p k look =
    (t.content.outbox.items, t.content.last, ap (λ (x : Record). x.steps) k.1.is ∙ ap (λ j. b.steps ++ Took j t.content.outbox.items t.content.last ∷ []) (sym (same_stripe i t.stripe k.0)))
taken_stage n b i (stage.Capture (capture.HasLooked t z)) p k look = absurd cc
taken_stage n b i (stage.GivingBack t e) p k look = absurd cc

pub capture_took : (n : ℕ) (b : Record) (i : ℕ) (walk : Walk) (p : Record) → HasTaken n b i walk p → (es : List Entry) × (last : ℕ) × (p.steps ≡ b.steps ++ Took i es last ∷ [])
capture_took n b i walk p k = taken_stage n b i walk.stage p k.fits k.next

-- its last step was a LOOK, which found the count that the pass has seen
pub record LooksLast (p : Record) : Type 0 where
  pub front : List StepMade
  pub is : p.steps ≡ front ++ Looked (reach p) ∷ []

looks_at : (v : Record) (between : List Command) (p : Record) → p ≡ looking v between → LooksLast p
looks_at v between p is = subst LooksLast (sym is) (record { front = v.steps; is = refl })

put_back_last : (p at : Record) → giving Nothing p ≡ giving Nothing at → LooksLast at → LooksLast p
put_back_last p at is last =
    let same : reach at ≡ reach p = ap (λ (r : Record). reach r) (sym is) in
    record {
      front = last.front;
      is = (same_from_push p.steps at.steps (Gave (stripe_held p.holding)) (Gave (stripe_held at.holding)) (ap (λ (r : Record). r.steps) is)).0 ∙ last.is ∙ ap (λ q. last.front ++ Looked q ∷ []) same;
    }

looked_stage : (n : ℕ) (b : Record) (i : ℕ) (s : Stage) (p : Record) → FitsStage n b (ToCapture i) s p → (j : ℕ) → next_of_stage n s ≡ Give j → length p.steps ≡ length b.steps + 2 → LooksLast p
looked_stage n b i (stage.Change s) p k j give two = absurd (by_change n b i s p k)
looked_stage n b i (stage.Read s) p k j give two = absurd (by_read n b i s p k)
looked_stage n b i (stage.Release s) p k j give two = absurd (by_release n b i s p k)
looked_stage n b i (stage.Sweep s) p k j give two = absurd (by_sweep n b i s p k)
looked_stage n b i (stage.Capture (capture.Begins x)) p k j give two = absurd cc
looked_stage n b i (stage.Capture (capture.HasTaken t)) p k j give two = absurd cc
looked_stage n b i (stage.Capture (capture.HasLooked t z)) p k j give two = looks_at (taking b t.stripe t.content.part.map t.content.outbox.items t.content.last k.1.taken) k.1.looked p k.1.is
looked_stage n b i (stage.GivingBack t e) p k j give two =
    let back = third_put_back b i e (giving Nothing p) k.refused (omega (arith, two, length_push p.steps (Gave (stripe_held p.holding)))) in
    put_back_last p back.at back.is (looks_at (taking b i back.looked.part back.looked.outbox back.looked.last back.looked.taken) back.looked.looked back.at back.looked.is)

pub looks_last : (n : ℕ) (b : Record) (i : ℕ) (walk : Walk) (p : Record) → HasLooked n b i walk p → LooksLast p
looks_last n b i walk p k = looked_stage n b i walk.stage p k.fits i k.next k.two_made
