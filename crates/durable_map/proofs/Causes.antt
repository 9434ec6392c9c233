-- A FAIL that was made keeps its cause.
use Rattle.std.proofs.Common.{◌≡◌, ◌⊎◌, inl, inr, ℕ, Result, Ok, Err, IfOk, IfErr, OnOk, OnErr, Bool, true, false, sym, ap, subst, ◌∙◌}
use Rattle.map_types.specs.declared.refusals.Refusal.{Refusal}
use Rattle.map_types.specs.declared.refusals.Refusal.TheVariants as refusal
use Rattle.ticket_order.specs.declared.record.Record.{Record}
use Rattle.flusher.specs.declared.keeper.Keeper.{Keeper}
use Rattle.checkpoint_walk.specs.Checkpointing.{sealing}
use Rattle.checkpoint_walk.specs.Walking.{AfterRefusal, GivesSection, PutsBack}
use Rattle.durable_map.specs.LockedKeepers.{HasCause}

module _ {D : Type 0} (old new : Keeper D) (is_full : Bool) where
  known : (old.is_broken ≡ true → new.is_broken ≡ true) → (old.is_broken ≡ true) ⊎ (is_full ≡ true) → (new.is_broken ≡ true) ⊎ (is_full ≡ true)
  known stays (inl broken) = inl (stays broken)
  known stays (inr full) = inr full

  -- no FAIL was made, and a device failure stays known
  pub kept : new.has_failed ≡ old.has_failed → (old.is_broken ≡ true → new.is_broken ≡ true) → HasCause is_full old → HasCause is_full new
  kept failed stays k = record { cause = λ now. known stays (k.cause (sym failed ∙ now)) }

  pub same : new ≡ old → HasCause is_full old → HasCause is_full new
  same is k = subst (λ (x : Keeper D). HasCause is_full x) (sym is) k

  pub published : (has_failed : Bool) → old.has_failed ≡ has_failed → (old.has_failed ≡ false → new ≡ record old { published = old.log.committed }) → (old.has_failed ≡ true → new ≡ old) → HasCause is_full old
      → HasCause is_full new
  published false is publishes stops k = subst (λ (x : Keeper D). HasCause is_full x) (sym (publishes is)) (record { cause = k.cause })
  published true is publishes stops k = same (stops is) k

  pub sealed : {A : Type 0} (result : Result A Refusal) → OnOk result (new ≡ record old { checkpoint = sealing old.checkpoint }) → OnErr result (new ≡ old) → HasCause is_full old → HasCause is_full new
  sealed (Ok x) ok err k = subst (λ (x : Keeper D). HasCause is_full x) (sym ok) (record { cause = k.cause })
  sealed (Err e) ok err k = same err k

  -- a FAIL is made
  pub fails : new ≡ record old { has_failed = true } → (old.is_broken ≡ true) ⊎ (is_full ≡ true) → HasCause is_full new
  fails is cause = record { cause = λ now. known (λ broken. ap (λ (x : Keeper D). x.is_broken) is ∙ broken) cause }

module _ {D : Type 0} (n stripe : ℕ) (old new : Keeper D) (p w : Record) (is_full : Bool) (k : HasCause is_full old) where
  puts_back : (e : Refusal) → PutsBack p stripe e old new w → HasCause is_full new
  puts_back e back = subst (λ (x : Keeper D). HasCause is_full x) (sym back.is) (record { cause = k.cause })

  refused : (e : Refusal) → AfterRefusal stripe old new p w e → HasCause is_full new
  refused refusal.NullValue r = puts_back refusal.NullValue r
  refused refusal.KeyTooLong r = puts_back refusal.KeyTooLong r
  refused refusal.ValueTooLong r = puts_back refusal.ValueTooLong r
  refused refusal.UnknownMethod r = puts_back refusal.UnknownMethod r
  refused refusal.UnknownFunction r = puts_back refusal.UnknownFunction r
  refused refusal.BadFrame r = puts_back refusal.BadFrame r
  refused refusal.NoMemory r = puts_back refusal.NoMemory r
  refused (refusal.Busy j) r = same old new is_full r.is k
  refused refusal.Failed r = same old new is_full r.keeper k
  refused refusal.TicketsSpent r = puts_back refusal.TicketsSpent r
  refused refusal.NotFormatted r = puts_back refusal.NotFormatted r
  refused (refusal.Damaged x0 x1) r = puts_back (refusal.Damaged x0 x1) r
  refused refusal.WrongVersion r = puts_back refusal.WrongVersion r
  refused refusal.LogFull r = puts_back refusal.LogFull r
  refused refusal.AlreadyFormatted r = puts_back refusal.AlreadyFormatted r
  refused refusal.WrongPhase r = same old new is_full r.keeper k
  refused refusal.TooEarly r = puts_back refusal.TooEarly r
  refused refusal.NotText r = puts_back refusal.NotText r
  refused refusal.SeatsSpent r = puts_back refusal.SeatsSpent r

  pub captured : (result : Result ℕ Refusal) → IfOk result (λ mark. GivesSection n p stripe mark old new w) → IfErr result (AfterRefusal stripe old new p w) → HasCause is_full new
  captured (Ok mark) ok err = subst (λ (x : Keeper D). HasCause is_full x) (sym ok.is) (record { cause = k.cause })
  captured (Err e) ok err = refused e err
