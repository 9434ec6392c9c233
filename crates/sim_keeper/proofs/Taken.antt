-- Which entries a step of the keeper took, and what its pass has published.
use Rattle.std.proofs.Common.{◌≡◌, ◌⊎◌, inl, inr, ℕ, List, ◌++◌, Option, Some, None, Result, Ok, Err, sym, ◌∙◌, ap, subst}
use Rattle.map_types.specs.declared.commands.Command.{Command}
use Rattle.map_types.specs.declared.refusals.Refusal.{Refusal}
use Rattle.map_types.specs.declared.refusals.Refusal.TheVariants as refusal
use Rattle.ticket_order.specs.declared.walk.Walk.{Walk}
use Rattle.ticket_order.specs.declared.record.Record.{Record}
use Rattle.ticket_order.specs.Calls.{SweepsStripe}
use Rattle.ticket_order.specs.Walks.{entries_of_walk}
use Rattle.disk_model.specs.Files.{Files}
use Rattle.flusher.specs.declared.keeper.Keeper.{Keeper}
use Rattle.flusher.specs.declared.sweeper.Sweep.{Sweep}
use Rattle.flusher.specs.declared.sweeper.Sweeper.{Sweeper}
use Rattle.flusher.specs.declared.sweeper.Swept.{Swept}
use Rattle.flusher.specs.declared.sweeper.Swept.TheVariants.{More, Held, Done}
use Rattle.flusher.specs.declared.sweeper.Walking.{Walking}
use Rattle.flusher.specs.declared.sweeper.Walking.TheVariants as walking
use Rattle.store_layout.specs.Hands.{Hand}
use Rattle.flusher.specs.Sweeping.{AfterGive, AfterTake, IsHolding, IsSwept, StandsBy, StepsOn}
use Rattle.flusher.proofs.Quiet as swept
use Rattle.gate_log.specs.States.{commands_of}
use Rattle.checkpoint_walk.specs.Capturing.{HasLooked, HasTaken}
use Rattle.checkpoint_walk.specs.Walking.{AfterStep, AfterTake as AfterFirst, AfterWalk, FitsBy, IsCapturing}
use Rattle.checkpoint_walk.proofs.Walked.{captured_beside, looked_beside, refused_beside, taken_beside}
use Rattle.sim_keeper.specs.Laws.{CaptureTakesNone, CountsAreTold, NoneTaken, PassHolds, SweepTakesNone, SweepTakesOutbox}
use Rattle.ticket_order.specs.Records.{outbox_held}
use Rattle.sim_keeper.proofs.Held.{swept_holds}
use Rattle.sim_keeper.proofs.CaptureSteps.{looked_at, taken_at}

-- ---- a sweep

taken_of_take : (n : ℕ) (sweep : Sweep) (hand : Hand) (new : Sweeper) (p q : Record) (result : Result Swept Refusal) → AfterTake n sweep hand new p q result → q.taken ≡ p.taken
taken_of_take n sweep hand new p q (Ok More) a = (swept.swept_grown n p sweep.stripe a.walk q a.taken).taken
taken_of_take n sweep hand new p q (Ok (Held i)) a = ap (λ (x : Record). x.taken) a.is
taken_of_take n sweep hand new p q (Ok (Done count)) a = absurd a
taken_of_take n sweep hand new p q (Err e) a = absurd a

none_by : (n : ℕ) (o : Option Sweep) (v : Walking) (hand : Hand) (new : Sweeper) (gone : List Command) (p q : Record) (result : Result Swept Refusal) → StandsBy n o v hand gone p → StepsOn n o v hand new p q result → NoneTaken v result → q.taken ≡ p.taken
none_by n None v hand new gone p q result h on none_ = ap (λ (x : Record). x.taken) on.looks.is
none_by n (Some sweep) walking.Rests hand new gone p q result h on none_ = taken_of_take n sweep hand new p q result on
none_by n (Some sweep) walking.SweepTakes hand new gone p q result h on none_ = taken_of_take n sweep hand new p q result on
none_by n (Some sweep) (walking.SweepGives walk) hand new gone p q (Ok r) h on none_ = absurd none_
none_by n (Some sweep) (walking.SweepGives walk) hand new gone p q (Err e) h on none_ =
    (swept.refused_grown h.begun sweep.stripe refusal.NoMemory q (on.swept h.begun h.taken)).taken ∙ sym (swept.swept_grown n h.begun sweep.stripe walk p h.taken).taken

pub sweep_takes_none : {D : Type 0} (states : D → List Files) (honest : D → Type 0) → SweepTakesNone states honest
sweep_takes_none {D} states honest n done old new p q result f on none_ =
    none_by n old.sweeper.sweep old.sweeper.walking old.sweeper.in_hand new.sweeper (done ++ commands_of old.staged.items) p q result f.stands on.steps_on none_

swept_of : (n : ℕ) (sweep : Sweep) (walk : Walk) (hand : Hand) (new : Sweeper) (p q b : Record) (r : Swept) → AfterGive n sweep walk hand new p q (Ok r) → IsSwept n b sweep.stripe walk p → SweepsStripe n b sweep.stripe (entries_of_walk walk) q
swept_of n sweep walk hand new p q b More a k = a.drains.swept b k
swept_of n sweep walk hand new p q b (Held i) a k = absurd a
swept_of n sweep walk hand new p q b (Done count) a k = a.drains.swept b k

outbox_by : (n : ℕ) (o : Option Sweep) (v : Walking) (hand : Hand) (new : Sweeper) (gone : List Command) (p q : Record) (r : Swept) (sweep : Sweep) (walk : Walk) → StandsBy n o v hand gone p → StepsOn n o v hand new p q (Ok r)
    → o ≡ Some sweep → v ≡ walking.SweepGives walk → entries_of_walk walk ≡ outbox_held p.holding → (holds : PassHolds p sweep.stripe) × (q.taken ≡ p.taken ++ holds.held.outbox)
outbox_by n o v hand new gone p q r sweep walk h on is gives outbox =
    let at : IsHolding n sweep walk hand gone p = subst (λ v. StandsBy n (Some sweep) v hand gone p) gives (subst (λ o. StandsBy n o v hand gone p) is h) in
    let give : AfterGive n sweep walk hand new p q (Ok r) = subst (λ v. StepsOn n (Some sweep) v hand new p q (Ok r)) gives (subst (λ o. StepsOn n o v hand new p q (Ok r)) is on) in
    let k = swept_holds n at.begun sweep.stripe walk p at.taken in
    let s = swept_of n sweep walk hand new p q at.begun r give at.taken in
    (k, ap (λ (x : Record). x.taken) s.is ∙ ap (λ xs. xs ++ entries_of_walk walk) (sym (swept.swept_grown n at.begun sweep.stripe walk p at.taken).taken) ∙ ap (λ xs. p.taken ++ xs) (outbox ∙ ap outbox_held k.holding))

pub sweep_takes_outbox : {D : Type 0} (states : D → List Files) (honest : D → Type 0) → SweepTakesOutbox states honest
sweep_takes_outbox {D} states honest n done old new p q sweep walk r f on is gives outbox =
    outbox_by n old.sweeper.sweep old.sweeper.walking old.sweeper.in_hand new.sweeper (done ++ commands_of old.staged.items) p q r sweep walk f.stands on.steps_on is gives outbox

-- ---- a capture

first_none : {D : Type 0} (n stripe : ℕ) (old new : Keeper D) (p q : Record) (result : Result (Option ℕ) Refusal) → AfterFirst n stripe old new p q result → q.taken ≡ p.taken
first_none {D} n stripe old new p q (Ok None) a = (taken_beside n p stripe a.walk q a.taken).taken
first_none {D} n stripe old new p q (Ok (Some mark)) a = absurd a
first_none {D} n stripe old new p q (Err (refusal.Busy i)) a = ap (λ (x : Record). x.taken) a.missed
first_none {D} n stripe old new p q (Err refusal.Failed) a = ap (λ (x : Record). x.taken) a.record_is
first_none {D} n stripe old new p q (Err refusal.WrongPhase) a = ap (λ (x : Record). x.taken) a.record_is
first_none {D} n stripe old new p q (Err e) a = absurd a

walk_none : {D : Type 0} (states : D → List Files) (honest : D → Type 0) (n : ℕ) (done : List Command) (walk : Walk) (old new : Keeper D) (p q : Record) (result : Result (Option ℕ) Refusal) → IsCapturing states honest n done old walk p
    → AfterWalk n walk old new p q result → q.taken ≡ p.taken
walk_none {D} states honest n done walk old new p q (Ok None) f a =
    let k = taken_at n f.begun f.stripe walk p a.kind f.walked in
    (looked_beside n f.begun f.stripe a.next q (a.looked f.begun f.stripe k)).taken ∙ sym (taken_beside n f.begun f.stripe walk p k).taken
walk_none {D} states honest n done walk old new p q (Ok (Some mark)) f a =
    let k = looked_at n f.begun f.stripe a.0 walk p a.1 f.walked in
    let g = a.2 f.begun (subst (λ i. HasLooked n f.begun i walk p) k.1 k.0) in
    (captured_beside n f.begun a.0 mark g.entries q g.captures).taken ∙ sym (looked_beside n f.begun f.stripe walk p k.0).taken
walk_none {D} states honest n done walk old new p q (Err e) f a =
    let k = looked_at n f.begun f.stripe a.0 walk p a.1 f.walked in
    let g = a.2 f.begun (subst (λ i. HasLooked n f.begun i walk p) k.1 k.0) in
    (refused_beside f.begun a.0 e q g.back).taken ∙ sym (looked_beside n f.begun f.stripe walk p k.0).taken

step_none : {D : Type 0} (states : D → List Files) (honest : D → Type 0) (n : ℕ) (done : List Command) (stripe : ℕ) (o : Option Walk) (old new : Keeper D) (p q : Record) (result : Result (Option ℕ) Refusal) → FitsBy o states honest n done old p
    → AfterStep n stripe o old new p q result → q.taken ≡ p.taken
step_none {D} states honest n done stripe None old new p q result f a = first_none n stripe old new p q result a
step_none {D} states honest n done stripe (Some walk) old new p q result f a = walk_none states honest n done walk old new p q result f a

pub capture_takes_none : {D : Type 0} (states : D → List Files) (honest : D → Type 0) → CaptureTakesNone states honest
capture_takes_none {D} states honest n done stripe old new p q result f on = step_none states honest n done stripe old.capture old new p q result f on.after

-- ---- the counts

record SameCounts (b p : Record) : Type 0 where
  published : p.published ≡ b.published
  failed : p.failed ≡ b.failed

counts_of : (n : ℕ) (b : Record) (i : ℕ) (walk : Walk) (p : Record) → HasTaken n b i walk p ⊎ HasLooked n b i walk p → SameCounts b p
counts_of n b i walk p (inl k) = let s = taken_beside n b i walk p k in record { published = s.published; failed = s.failed }
counts_of n b i walk p (inr k) = let s = looked_beside n b i walk p k in record { published = s.published; failed = s.failed }

counts_by : {D : Type 0} (states : D → List Files) (honest : D → Type 0) (n : ℕ) (done : List Command) (keeper : Keeper D) (p : Record) (o : Option Walk) → FitsBy o states honest n done keeper p → (keeper.published ≡ p.published) × (keeper.has_failed ≡ p.failed)
counts_by {D} states honest n done keeper p None f = (f.tells.published, f.tells.failed)
counts_by {D} states honest n done keeper p (Some walk) f =
    let k = counts_of n f.begun f.stripe walk p f.walked in (f.fits.tells.published ∙ sym k.published, f.fits.tells.failed ∙ sym k.failed)

pub counts_are_told : {D : Type 0} (states : D → List Files) (honest : D → Type 0) → CountsAreTold states honest
counts_are_told {D} states honest n done keeper p w l f s = let k = counts_by states honest n done keeper p keeper.capture f in (s.durable ∙ k.0, s.has_failed ∙ k.1)
