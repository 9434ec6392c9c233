-- What a step behind an opening is refused for.
use Rattle.std.proofs.Common.{◌≡◌, ◌≢◌, ◌⊎◌, inl, inr, ℕ, ◌+◌, ◌<◌, ◌^◌, Bool, true, false, Result, Err, refl, sym, ap, subst, ◌∙◌, arith}
use Rattle.map_types.specs.declared.refusals.Refusal.{Refusal}
use Rattle.map_types.specs.declared.refusals.Refusal.TheVariants.{Failed, LogFull, NoMemory, TooEarly, WrongPhase}
use Rattle.map_model.specs.Maps.{Map}
use Rattle.store_layout.specs.Failures.{failed_in}
use Rattle.recovery.specs.Upgrading.{IsCheckpointRefused, IsLastGeneration, IsListedBehind, IsRefusedBehind, IsSectionRefused}

pub not_broken : (b : Bool) → b ≡ false → b ≡ true → ⊥
not_broken b works broken = let x : true ≡ false = sym broken ∙ works in absurd cc

-- ---- a call that can be refused with two refusals, or with three

pub not_sealed : {A : Type 0} (r : Result A Refusal) (e : Refusal) → r ≡ Err e → (e ≡ Failed) ⊎ ((e ≡ WrongPhase) ⊎ (e ≡ TooEarly)) → (r ≡ Err Failed → ⊥) → (r ≡ Err WrongPhase → ⊥) → (r ≡ Err TooEarly → ⊥) → ⊥
not_sealed r e was (inl failed) works due late = works (was ∙ ap Err failed)
not_sealed r e was (inr (inl wrong)) works due late = due (was ∙ ap Err wrong)
not_sealed r e was (inr (inr early)) works due late = late (was ∙ ap Err early)

pub not_rotated : {A : Type 0} (Failing May : Type 0) (r : Result A Refusal) (e : Refusal) → r ≡ Err e → (e ≡ Failed) ⊎ (e ≡ WrongPhase) → (r ≡ Err Failed → ⊥) → (r ≡ Err WrongPhase → May → ⊥)
    → ((e ≡ Failed) × Failing) ⊎ ((e ≡ WrongPhase) × (May → ⊥))
not_rotated Failing May r e was (inl failed) works wrong = absurd (works (was ∙ ap Err failed))
not_rotated Failing May r e was (inr late) works wrong = inr (late, wrong (was ∙ ap Err late))

-- ---- of the same map, with another call that failed

pub checkpoint_refused : (F G : Type 0) (n k : ℕ) (m : Map) (e : Refusal) → (F → G) → n ≡ k → IsCheckpointRefused F n m e → IsCheckpointRefused G k m e
checkpoint_refused F G n k m e so same (inl failed) = inl (failed.0, so failed.1)
checkpoint_refused F G n k m e so same (inr section) = inr (subst (λ (x : ℕ). IsSectionRefused x m e) same section)

-- a checkpoint that may not begin has no generation
pub begin_refused : (F May : Type 0) (n : ℕ) (m : Map) (sealed : ℕ) (e : Refusal) → (sealed + 1 < 2 ^ 64 → May) → ((e ≡ Failed) × F) ⊎ ((e ≡ WrongPhase) × (May → ⊥))
    → IsCheckpointRefused F n m e ⊎ ((e ≡ WrongPhase) × IsLastGeneration sealed)
begin_refused F May n m sealed e may (inl failed) = inl (inl failed)
begin_refused F May n m sealed e may (inr wrong) = inr (wrong.0, λ below. wrong.1 (may below))

pub behind_seal : (F Last : Type 0) (n : ℕ) (m : Map) (generation sealed : ℕ) (e : Refusal) → generation ≢ sealed → (IsLastGeneration sealed → Last)
    → IsCheckpointRefused F n m e ⊎ ((e ≡ WrongPhase) × IsLastGeneration sealed) → IsRefusedBehind F Last n m generation sealed e
behind_seal F Last n m generation sealed e other last (inl (inl failed)) = inl failed
behind_seal F Last n m generation sealed e other last (inl (inr (inl wanting))) = inr (inl wanting)
behind_seal F Last n m generation sealed e other last (inl (inr (inr full))) = inr (inr (inl (full.0, other, full.1)))
behind_seal F Last n m generation sealed e other last (inr wrong) = inr (inr (inr (wrong.0, last wrong.1)))

pub behind_rotation : (F G May Last : Type 0) (n : ℕ) (m : Map) (generation sealed : ℕ) (e : Refusal) → (F → G) → ((May → ⊥) → Last) → ((e ≡ Failed) × F) ⊎ ((e ≡ WrongPhase) × (May → ⊥))
    → IsRefusedBehind G Last n m generation sealed e
behind_rotation F G May Last n m generation sealed e so last (inl failed) = inl (failed.0, so failed.1)
behind_rotation F G May Last n m generation sealed e so last (inr wrong) = inr (inr (inr (wrong.0, last wrong.1)))

pub behind : (F G Last Then : Type 0) (n : ℕ) (m : Map) (generation sealed : ℕ) (e : Refusal) → (F → G) → (Last → Then) → IsRefusedBehind F Last n m generation sealed e → IsRefusedBehind G Then n m generation sealed e
behind F G Last Then n m generation sealed e so last (inl failed) = inl (failed.0, so failed.1)
behind F G Last Then n m generation sealed e so last (inr (inl wanting)) = inr (inl wanting)
behind F G Last Then n m generation sealed e so last (inr (inr (inl full))) = inr (inr (inl full))
behind F G Last Then n m generation sealed e so last (inr (inr (inr wrong))) = inr (inr (inr (wrong.0, last wrong.1)))

pub listed_behind : (F Last : Type 0) (n : ℕ) (m : Map) (generation sealed : ℕ) (e : Refusal) → IsRefusedBehind F Last n m generation sealed e → IsListedBehind e
listed_behind F Last n m generation sealed e (inl failed) = inl failed.0
listed_behind F Last n m generation sealed e (inr (inl wanting)) = inr (inl wanting)
listed_behind F Last n m generation sealed e (inr (inr (inl full))) = inr (inr (inl full.0))
listed_behind F Last n m generation sealed e (inr (inr (inr wrong))) = inr (inr (inr wrong.0))

-- ---- how many calls failed

counted_none : (e : Refusal) (old new : ℕ) → failed_in {X = ℕ} (Err e) ≡ 0 → new ≡ old → new ≡ old + failed_in {X = ℕ} (Err e)
counted_none e old new none same = let sum : old ≡ old + 0 = omega arith in same ∙ sum ∙ ap (λ (n : ℕ). old + n) (sym none)

counted_other : (e other : Refusal) (old new : ℕ) → e ≡ other → (other ≡ Failed → ⊥) → failed_in {X = ℕ} (Err other) ≡ 0 → (e ≢ Failed → new ≡ old) → new ≡ old + failed_in {X = ℕ} (Err e)
counted_other e other old new is differs none same =
    counted_none e old new (subst (λ (r : Refusal). failed_in {X = ℕ} (Err r) ≡ 0) (sym is) none) (same (λ failed. differs (sym is ∙ failed)))

pub counted_behind : (F Last : Type 0) (n : ℕ) (m : Map) (generation sealed : ℕ) (e : Refusal) (old new : ℕ) → (F → new ≡ old + 1) → (e ≢ Failed → new ≡ old) → IsRefusedBehind F Last n m generation sealed e
    → new ≡ old + failed_in {X = ℕ} (Err e)
counted_behind F Last n m generation sealed e old new so same (inl failed) = subst (λ (r : Refusal). new ≡ old + failed_in {X = ℕ} (Err r)) (sym failed.0) (so failed.1)
counted_behind F Last n m generation sealed e old new so same (inr (inl wanting)) = counted_other e NoMemory old new wanting (λ is. absurd cc) refl same
counted_behind F Last n m generation sealed e old new so same (inr (inr (inl full))) = counted_other e LogFull old new full.0 (λ is. absurd cc) refl same
counted_behind F Last n m generation sealed e old new so same (inr (inr (inr wrong))) = counted_other e WrongPhase old new wrong.0 (λ is. absurd cc) refl same
