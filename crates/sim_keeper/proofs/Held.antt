-- Which stripe the keeper's pass holds.
use Rattle.std.proofs.Common.{◌≡◌, ◌⊎◌, ◌↔◌, inl, inr, ℕ, ◌+◌, List, ◌++◌, length, Option, Some, None, true, false, ◌==◌, refl, sym, ◌∙◌, ap, subst, arith}
use Rattle.std.proofs.lemmas.List.{same_from_push}
use Rattle.map_types.specs.declared.commands.Command.{Command}
use Rattle.map_types.specs.declared.refusals.Refusal.{Refusal}
use Rattle.map_types.specs.declared.refusals.Refusal.TheVariants as refusal
use Rattle.ticket_order.specs.declared.capture_walk.CaptureStage.TheVariants as capture
use Rattle.ticket_order.specs.declared.sweep_walk.SweepStage.TheVariants as sweep
use Rattle.ticket_order.specs.declared.walk.Stage.{Stage}
use Rattle.ticket_order.specs.declared.walk.Stage.TheVariants as stage
use Rattle.ticket_order.specs.declared.walk.Walk.{Walk}
use Rattle.ticket_order.specs.declared.record.Holding.{Holding}
use Rattle.ticket_order.specs.declared.record.Purpose.TheVariants.{Nothing}
use Rattle.ticket_order.specs.declared.record.StepMade.TheVariants.{FoundHeld, Gave}
use Rattle.ticket_order.specs.declared.record.Record.{Record}
use Rattle.ticket_order.specs.Records.{giving, reach, stripe_held, taking}
use Rattle.ticket_order.specs.Calls.{RefusesSweep}
use Rattle.ticket_order.specs.Walks.{FitsStage, Kind, Take, Give, Ticket, Look, Durable, See, Fail, Alive, ToCapture, ToSweep, next_kind, next_of_stage}
use Rattle.disk_model.specs.Files.{Files}
use Rattle.flusher.specs.declared.keeper.Keeper.{Keeper}
use Rattle.flusher.specs.declared.sweeper.Sweep as sweeper
use Rattle.flusher.specs.declared.sweeper.Walking.{Walking}
use Rattle.flusher.specs.declared.sweeper.Walking.TheVariants as walking
use Rattle.store_layout.specs.Hands.{Hand}
use Rattle.flusher.specs.Sweeping.{IsSwept, StandsBy}
use Rattle.flusher.proofs.Quiet as swept
use Rattle.gate_log.specs.States.{commands_of}
use Rattle.checkpoint_walk.specs.Capturing.{HasLooked, HasTaken}
use Rattle.checkpoint_walk.specs.Walking.{FitsBy}
use Rattle.checkpoint_walk.proofs.CaptureWalks.{same_stripe, by_change, by_read, by_release, by_sweep}
use Rattle.sim_rules.specs.World.{World, Life, keeper_holds, next_section, sweep_or}
use Rattle.sim_keeper.specs.Laws.{PassHolds, StripeIsTold}
use Rattle.sim_keeper.specs.Showing.{capture_shown, sweep_shown, walk_by, walking_shown}
use Rattle.sim_keeper.specs.KeeperInWorld.{KeeperStands}
use Rattle.sim_keeper.proofs.CaptureSteps.{next_is}
use Rattle.sim_keeper.proofs.Deciding.{is_same, same_is}

content_held : (p : Record) (held : Holding) (i : ℕ) → p.holding ≡ Some held → held.stripe ≡ i → PassHolds p i
content_held p held i is same = record { held = held; holding = is; stripe_is = same }

-- ---- a sweep

back_holds : (b : Record) (i : ℕ) (e : Refusal) (p : Record) → RefusesSweep b i e (giving Nothing p) → stripe_held p.holding ≡ i
back_holds b i (refusal.Busy j) p r = absurd (not_held (stripe_held p.holding) i (same_from_push p.steps b.steps (Gave (stripe_held p.holding)) (FoundHeld i) (ap (λ (x : Record). x.steps) r.1)).1)
  where
    not_held : (a b : ℕ) → Gave a ≡ FoundHeld b → ⊥
    not_held a b e = cc
back_holds b i refusal.NoMemory p r =
    let is : giving Nothing p ≡ giving Nothing (taking b i r.before.part r.before.outbox r.before.last r.before.taken) = r.is ∙ ap (giving Nothing) r.before.is in
    same_give (same_from_push p.steps _ (Gave (stripe_held p.holding)) (Gave i) (ap (λ (y : Record). y.steps) is)).1
  where
    same_give : {a b : ℕ} → Gave a ≡ Gave b → a ≡ b
    same_give e = cc
back_holds b i e p r = absurd r

swept_stage : (n : ℕ) (b : Record) (i : ℕ) (s : Stage) (p : Record) → FitsStage n b (ToSweep i) s p → length p.steps ≡ length b.steps + 1 → PassHolds p i
swept_stage n b i (stage.Change s) p k one = absurd (swept.by_change n b i s p k)
swept_stage n b i (stage.Read s) p k one = absurd (swept.by_read n b i s p k)
swept_stage n b i (stage.Release s) p k one = absurd (swept.by_release n b i s p k)
swept_stage n b i (stage.Sweep (sweep.Begins alloc j)) p k one = absurd (omega (arith, one, ap (λ (x : Record). length x.steps) k.0.is))
swept_stage n b i (stage.Sweep (sweep.HasTaken alloc t)) p k one = subst (λ (x : Record). PassHolds x i) (sym k.took.is) (record { held = _; holding = refl; stripe_is = sym (same_task i t.stripe k.task_is) })
  where
    same_task : (i j : ℕ) → ToSweep i ≡ ToSweep j → i ≡ j
    same_task i j e = cc
swept_stage n b i (stage.Capture s) p k one = absurd (swept.by_capture n b i s p k)
swept_stage n b i (stage.GivingBack t e) p k one = content_held p k.content.held i k.content.holding (sym (ap stripe_held k.content.holding) ∙ back_holds b i e p k.refused)

pub swept_holds : (n : ℕ) (b : Record) (i : ℕ) (walk : Walk) (p : Record) → IsSwept n b i walk p → PassHolds p i
swept_holds n b i walk p k = swept_stage n b i walk.stage p k.fits k.one_made

-- ---- a capture

captured_stage : (n : ℕ) (b : Record) (i : ℕ) (s : Stage) (p : Record) → FitsStage n b (ToCapture i) s p → (next_of_stage n s ≡ Look) ⊎ (next_of_stage n s ≡ Give i) → PassHolds p i
captured_stage n b i (stage.Change s) p k next = absurd (by_change n b i s p k)
captured_stage n b i (stage.Read s) p k next = absurd (by_read n b i s p k)
captured_stage n b i (stage.Release s) p k next = absurd (by_release n b i s p k)
captured_stage n b i (stage.Sweep s) p k next = absurd (by_sweep n b i s p k)
captured_stage n b i (stage.Capture (capture.Begins j)) p k (inl next) = absurd cc
captured_stage n b i (stage.Capture (capture.Begins j)) p k (inr next) = absurd cc
captured_stage n b i (stage.Capture (capture.HasTaken t)) p k next =
    subst (λ (x : Record). PassHolds x i) (sym k.1.is) (record { held = _; holding = refl; stripe_is = sym (same_stripe i t.stripe k.0) })
captured_stage n b i (stage.Capture (capture.HasLooked t z)) p k next =
    subst (λ (x : Record). PassHolds x i) (sym k.1.is) (record { held = _; holding = refl; stripe_is = sym (same_stripe i t.stripe k.0) })
captured_stage n b i (stage.GivingBack t e) p k (inl next) = absurd cc
captured_stage n b i (stage.GivingBack t e) p k (inr next) = content_held p k.content.held i k.content.holding (k.content.stripe_is ∙ same_give next)
  where
    same_give : {a b : ℕ} → Give a ≡ Give b → a ≡ b
    same_give e = cc

pub captured_holds : (n : ℕ) (b : Record) (i : ℕ) (walk : Walk) (p : Record) → HasTaken n b i walk p ⊎ HasLooked n b i walk p → PassHolds p i
captured_holds n b i walk p (inl k) = captured_stage n b i walk.stage p k.fits (inl k.next)
captured_holds n b i walk p (inr k) = captured_stage n b i walk.stage p k.fits (inr k.next)

-- ---- in the world

pub same_held : (p : Record) (i j : ℕ) → PassHolds p i → PassHolds p j → i ≡ j
same_held p i j a b = sym a.stripe_is ∙ ap (λ (h : Holding). h.stripe) (some_same (sym a.holding ∙ b.holding)) ∙ b.stripe_is
  where
    some_same : {A : Type 0} {x y : A} → Some x ≡ Some y → x ≡ y
    some_same e = cc

none_held : (p : Record) (i : ℕ) → p.holding ≡ None → PassHolds p i → ⊥
none_held p i free k = none_some (sym free ∙ k.holding)
  where
    none_some : {A : Type 0} {x : A} → None ≡ Some x → ⊥
    none_some e = cc

-- of the stripe that is held
told_by : (p : Record) (stripe i : ℕ) → PassHolds p stripe → ((stripe == i) ≡ true) ↔ PassHolds p i
told_by p stripe i k = (λ e. subst (PassHolds p) (is_same stripe i e) k, λ h. same_is stripe i (same_held p stripe i k h))

-- of none
told_free : (p : Record) (i : ℕ) → p.holding ≡ None → (false ≡ true) ↔ PassHolds p i
told_free p i free = (λ e. absurd cc, λ h. absurd (none_held p i free h))

by_sweeper : (n : ℕ) (o : Option sweeper.Sweep) (v : Walking) (hand : Hand) (gone : List Command) (p : Record) (l : Life) (i : ℕ) → StandsBy n o v hand gone p → l.sweep ≡ sweep_shown o → (keeper_holds l i (walking_shown v) ≡ true) ↔ PassHolds p i
by_sweeper n None walking.Rests hand gone p l i h is = told_free p i h.free
by_sweeper n None walking.SweepTakes hand gone p l i h is = absurd h
by_sweeper n None (walking.SweepGives walk) hand gone p l i h is = absurd h
by_sweeper n (Some sweep) walking.Rests hand gone p l i h is = told_free p i h.free
by_sweeper n (Some sweep) walking.SweepTakes hand gone p l i h is = told_free p i h.free
by_sweeper n (Some sweep) (walking.SweepGives walk) hand gone p l i h is =
    told_by p (sweep_or l.sweep).stripe i (subst (PassHolds p) (sym (ap (λ o. (sweep_or o).stripe) is)) (swept_holds n h.begun sweep.stripe walk p h.taken))

capture_told : (l : Life) (i : ℕ) (p : Record) (kind : Kind) (mark : ℕ) → PassHolds p (next_section l.checkpoint) → (keeper_holds l i (capture_shown kind mark) ≡ true) ↔ PassHolds p i
capture_told l i p (Take j) mark k = told_by p (next_section l.checkpoint) i k
capture_told l i p (Give j) mark k = told_by p (next_section l.checkpoint) i k
capture_told l i p Ticket mark k = told_by p (next_section l.checkpoint) i k
capture_told l i p Look mark k = told_by p (next_section l.checkpoint) i k
capture_told l i p Durable mark k = told_by p (next_section l.checkpoint) i k
capture_told l i p See mark k = told_by p (next_section l.checkpoint) i k
capture_told l i p Fail mark k = told_by p (next_section l.checkpoint) i k
capture_told l i p Alive mark k = told_by p (next_section l.checkpoint) i k

by_walk : {D : Type 0} (states : D → List Files) (honest : D → Type 0) (n : ℕ) (done : List Command) (keeper : Keeper D) (p : Record) (w : World) (l : Life) (i : ℕ) (o : Option Walk) → FitsBy o states honest n done keeper p → KeeperStands states keeper p w l
    → (keeper_holds l i (walk_by keeper.stripes.count keeper.sweeper.walking o p) ≡ true) ↔ PassHolds p i
by_walk {D} states honest n done keeper p w l i None f s = by_sweeper n keeper.sweeper.sweep keeper.sweeper.walking keeper.sweeper.in_hand (done ++ commands_of keeper.staged.items) p l i f.stands s.sweep
by_walk {D} states honest n done keeper p w l i (Some walk) f s =
    capture_told l i p (next_kind keeper.stripes.count walk) (reach p)
    (subst (PassHolds p) (next_is keeper.checkpoint l.checkpoint keeper.next _ f.stripe (s.store f.works).checkpoint f.next) (captured_holds n f.begun f.stripe walk p f.walked))

pub stripe_is_told : {D : Type 0} (states : D → List Files) (honest : D → Type 0) → StripeIsTold states honest
stripe_is_told {D} states honest n done keeper p w l i f s =
    subst (λ v. (keeper_holds l i v ≡ true) ↔ PassHolds p i) (sym s.walk) (by_walk states honest n done keeper p w l i keeper.capture f s)
