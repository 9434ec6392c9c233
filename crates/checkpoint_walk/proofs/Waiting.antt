-- What a capture leaves that waited for its stripe.
use Rattle.std.proofs.Common.{◌≡◌, ◌⊎◌, inl, inr, ℕ, ◌+◌, List, [], ◌∷◌, ◌++◌, replicate, Bool, true, false, Result, Err, refl, sym, ◌∙◌, ap}
use Rattle.std.proofs.lemmas.List.{append_assoc, replicate-append-replicate}
use Rattle.map_types.specs.declared.refusals.Refusal.{Refusal}
use Rattle.map_types.specs.declared.refusals.Refusal.TheVariants as refusal
use Rattle.ticket_order.specs.declared.record.Record.{Record}
use Rattle.ticket_order.specs.declared.record.StepMade.{StepMade}
use Rattle.ticket_order.specs.declared.record.StepMade.TheVariants.{FoundHeld}
use Rattle.ticket_order.specs.Records.{missing}
use Rattle.flusher.specs.declared.keeper.Keeper.{Keeper}
use Rattle.checkpoint_walk.specs.Checkpointing.{IsNextStripe}
use Rattle.checkpoint_walk.specs.Walking.{AfterRefusal, AfterWaiting, HasWaited, MayCapture}

again : (tries : ℕ) (x : StepMade) → replicate tries x ++ x ∷ [] ≡ replicate (tries + 1) x
again tries x = replicate-append-replicate tries 1 x

-- one try more
pub waited_again : (stripe : ℕ) (p b w : Record) → HasWaited stripe p b → w ≡ missing b stripe → HasWaited stripe p w
waited_again stripe p b w k is = record {
  tries = k.tries + 1;
  is = is ∙ ap (λ (v : Record). missing v stripe) k.is
      ∙ ap (λ (xs : List StepMade). record p { steps = xs }) (append_assoc p.steps (replicate k.tries (FoundHeld stripe)) (FoundHeld stripe ∷ []) ∙ ap (λ z. p.steps ++ z) (again k.tries (FoundHeld stripe)));
}

-- A refusal of the last try, which isn't for a stripe that is held.
pub record Refuses {D : Type 0} (stripe : ℕ) (old : Keeper D) (p b : Record) (e : Refusal) : Type 0 where
  pub waited : HasWaited stripe p b
  pub first : (b ≡ p) ⊎ MayCapture stripe old
  pub failed : e ≡ refusal.Failed → old.is_broken ≡ true
  pub wrong_phase : e ≡ refusal.WrongPhase → IsNextStripe stripe old.next old.checkpoint → ⊥
  pub not_held : (i : ℕ) → e ≡ refusal.Busy i → ⊥

pub refused_last : {D : Type 0} (stripe : ℕ) (old new : Keeper D) (p b w : Record) (e : Refusal) → Refuses stripe old p b e → AfterRefusal stripe old new b w e → AfterWaiting stripe old new p w e
refused_last {D} stripe old new p b w (refusal.Busy i) k r = absurd (k.not_held i refl)
refused_last {D} stripe old new p b w refusal.Failed k r = elim k.first [ inl same ↦ record { keeper = r.keeper; record_is = r.record_is ∙ same } | inr may ↦ absurd (may.works (k.failed refl)) ]
refused_last {D} stripe old new p b w refusal.WrongPhase k r = elim k.first [ inl same ↦ record { keeper = r.keeper; record_is = r.record_is ∙ same } | inr may ↦ absurd (may.next (k.wrong_phase refl)) ]
refused_last {D} stripe old new p b w refusal.NoMemory k r = record { begun = b; waited = k.waited; back = r }
refused_last {D} stripe old new p b w refusal.LogFull k r = record { begun = b; waited = k.waited; back = r }
refused_last {D} stripe old new p b w refusal.NullValue k r = record { begun = b; waited = k.waited; back = r }
refused_last {D} stripe old new p b w refusal.KeyTooLong k r = record { begun = b; waited = k.waited; back = r }
refused_last {D} stripe old new p b w refusal.ValueTooLong k r = record { begun = b; waited = k.waited; back = r }
refused_last {D} stripe old new p b w refusal.UnknownMethod k r = record { begun = b; waited = k.waited; back = r }
refused_last {D} stripe old new p b w refusal.UnknownFunction k r = record { begun = b; waited = k.waited; back = r }
refused_last {D} stripe old new p b w refusal.BadFrame k r = record { begun = b; waited = k.waited; back = r }
refused_last {D} stripe old new p b w refusal.TicketsSpent k r = record { begun = b; waited = k.waited; back = r }
refused_last {D} stripe old new p b w refusal.NotFormatted k r = record { begun = b; waited = k.waited; back = r }
refused_last {D} stripe old new p b w (refusal.Damaged file offset) k r = record { begun = b; waited = k.waited; back = r }
refused_last {D} stripe old new p b w refusal.WrongVersion k r = record { begun = b; waited = k.waited; back = r }
refused_last {D} stripe old new p b w refusal.AlreadyFormatted k r = record { begun = b; waited = k.waited; back = r }
refused_last {D} stripe old new p b w refusal.TooEarly k r = record { begun = b; waited = k.waited; back = r }
refused_last {D} stripe old new p b w refusal.NotText k r = record { begun = b; waited = k.waited; back = r }
refused_last {D} stripe old new p b w refusal.SeatsSpent k r = record { begun = b; waited = k.waited; back = r }

-- a try that found the stripe held was not refused before it
pub may_capture : {D : Type 0} (stripe : ℕ) (old : Keeper D) (e : Refusal) (i : ℕ) → e ≡ refusal.Busy i → (old.is_broken ≡ true → e ≡ refusal.Failed) → ((old.is_broken ≡ false) × (IsNextStripe stripe old.next old.checkpoint → ⊥) → e ≡ refusal.WrongPhase) → MayCapture stripe old
may_capture {D} stripe old e i is failed wrong = record {
  works = λ broken. no_failure i (sym is ∙ failed broken);
  next = λ no_. by_works old.is_broken (λ broken. no_failure i (sym is ∙ failed broken)) (λ works. no_phase i (sym is ∙ wrong (works, no_)));
}
  where
    no_failure : (i : ℕ) → refusal.Busy i ≡ refusal.Failed → ⊥
    no_failure i e = cc

    no_phase : (i : ℕ) → refusal.Busy i ≡ refusal.WrongPhase → ⊥
    no_phase i e = cc

    by_works : (x : Bool) → (x ≡ true → ⊥) → (x ≡ false → ⊥) → ⊥
    by_works true a b = a refl
    by_works false a b = b refl

abbrev pub refused_with : Refusal → Result ℕ Refusal
refused_with e = Err e

pub same_refusal : (a b : Refusal) → refused_with a ≡ refused_with b → a ≡ b
same_refusal a b e = cc
