-- What a call leaves of a keeper that was between its walks.
use Rattle.std.proofs.Common.{◌≡◌, ℕ, List, Option, None, Some, Result, Ok, Err, IfOk, IfErr, OnOk, OnErr, Bool, true, false, refl, sym, ap, subst, ◌∙◌}
use Rattle.disk_model.specs.Files.{Files}
use Rattle.map_types.specs.declared.refusals.Refusal.{Refusal}
use Rattle.map_types.specs.declared.refusals.Refusal.TheVariants as refusal
use Rattle.ticket_order.specs.declared.record.Record.{Record}
use Rattle.ticket_order.specs.declared.stripe.Entry.{Entry}
use Rattle.store_layout.specs.declared.log_phase.Phase.{Phase}
use Rattle.store_layout.specs.declared.log_phase.Phase.TheVariants.{Header, HeaderWritten, Idle, Opened, Staged, Synced, Written}
use Rattle.gate_log.specs.States.{LogState}
use Rattle.flusher.specs.declared.keeper.Keeper.{Keeper}
use Rattle.flusher.specs.declared.sweeper.Sweeper.{Sweeper}
use Rattle.flusher.specs.Fitting.{IsKept}
use Rattle.flusher.specs.KeeperSteps.{IsPast, is_walking}
use Rattle.checkpoint_walk.specs.Checkpointing.{sealing}
use Rattle.checkpoint_walk.specs.Walking.{AfterRefusal, AfterWaiting, GivesSection, GivesWaiting, PutsBack}
use Rattle.journal.specs.Journals.{Rests}

-- neither a sweep nor a capture walks
pub record IsStill {D : Type 0} (keeper : Keeper D) : Type 0 where
  pub still : is_walking keeper.sweeper.walking ≡ false
  pub over : keeper.capture ≡ None

pub of_rests : {D S : Type 0} (states : D → List Files) (honest : D → Type 0) (stripe_count : S → ℕ) (recorded : S → Record) (keeper : Keeper D) (steps : S) → Rests states honest stripe_count recorded keeper steps → IsStill keeper
of_rests states honest stripe_count recorded keeper steps k = record { still = k.still; over = k.over }

-- the invariant goes on
pub rests : {D S : Type 0} (states : D → List Files) (honest : D → Type 0) (stripe_count : S → ℕ) (recorded : S → Record) (keeper : Keeper D) (steps : S) → IsKept states honest (stripe_count steps) keeper (recorded steps) → IsStill keeper
    → Rests states honest stripe_count recorded keeper steps
rests states honest stripe_count recorded keeper steps kept k = record { kept = kept; still = k.still; over = k.over }

module _ {D : Type 0} (old new : Keeper D) (k : IsStill old) where
  -- the keeper, but for what no walk has a part in
  pub unmoved : new.sweeper.walking ≡ old.sweeper.walking → new.capture ≡ old.capture → IsStill new
  unmoved walking capture = record { still = ap is_walking walking ∙ k.still; over = capture ∙ k.over }

  pub published : (has_failed : Bool) → old.has_failed ≡ has_failed → {A B : Type 0} → (old.has_failed ≡ false → A × (new ≡ record old { published = old.log.committed })) → (old.has_failed ≡ true → B × (new ≡ old)) → IsStill new
  published false is publishes stops = subst (λ (x : Keeper D). IsStill x) (sym (publishes is).1) (record { still = k.still; over = k.over })
  published true is publishes stops = subst (λ (x : Keeper D). IsStill x) (sym (stops is).1) k

  pub sealed : {A : Type 0} (result : Result A Refusal) → OnOk result (new ≡ record old { checkpoint = sealing old.checkpoint }) → OnErr result (new ≡ old) → IsStill new
  sealed (Ok x) ok err = subst (λ (x : Keeper D). IsStill x) (sym ok) (record { still = k.still; over = k.over })
  sealed (Err e) ok err = subst (λ (x : Keeper D). IsStill x) (sym err) k

  pub set_ahead : {A : Type 0} (count : ℕ) (result : Result A Refusal) → OnOk result (new ≡ record old { zeros = count }) → OnErr result (new ≡ old) → IsStill new
  set_ahead count (Ok x) ok err = subst (λ (x : Keeper D). IsStill x) (sym ok) (record { still = k.still; over = k.over })
  set_ahead count (Err e) ok err = subst (λ (x : Keeper D). IsStill x) (sym err) k

  module _ (n stripe : ℕ) (p w : Record) where
    gives : (b : Record) (mark : ℕ) → GivesSection n b stripe mark old new w → IsStill new
    gives b mark g = subst (λ (x : Keeper D). IsStill x) (sym g.is) (record { still = k.still; over = refl })

    puts_back : (b : Record) (e : Refusal) → PutsBack b stripe e old new w → IsStill new
    puts_back b e back = subst (λ (x : Keeper D). IsStill x) (sym back.is) (record { still = k.still; over = refl })

    refused : (e : Refusal) → AfterRefusal stripe old new p w e → IsStill new
    refused refusal.NullValue r = puts_back p refusal.NullValue r
    refused refusal.KeyTooLong r = puts_back p refusal.KeyTooLong r
    refused refusal.ValueTooLong r = puts_back p refusal.ValueTooLong r
    refused refusal.UnknownMethod r = puts_back p refusal.UnknownMethod r
    refused refusal.UnknownFunction r = puts_back p refusal.UnknownFunction r
    refused refusal.BadFrame r = puts_back p refusal.BadFrame r
    refused refusal.NoMemory r = puts_back p refusal.NoMemory r
    refused (refusal.Busy j) r = subst (λ (x : Keeper D). IsStill x) (sym r.is) k
    refused refusal.Failed r = subst (λ (x : Keeper D). IsStill x) (sym r.keeper) k
    refused refusal.TicketsSpent r = puts_back p refusal.TicketsSpent r
    refused refusal.NotFormatted r = puts_back p refusal.NotFormatted r
    refused (refusal.Damaged x0 x1) r = puts_back p (refusal.Damaged x0 x1) r
    refused refusal.WrongVersion r = puts_back p refusal.WrongVersion r
    refused refusal.LogFull r = puts_back p refusal.LogFull r
    refused refusal.AlreadyFormatted r = puts_back p refusal.AlreadyFormatted r
    refused refusal.WrongPhase r = subst (λ (x : Keeper D). IsStill x) (sym r.keeper) k
    refused refusal.TooEarly r = puts_back p refusal.TooEarly r
    refused refusal.NotText r = puts_back p refusal.NotText r
    refused refusal.SeatsSpent r = puts_back p refusal.SeatsSpent r

    pub captured : (result : Result ℕ Refusal) → IfOk result (λ mark. GivesSection n p stripe mark old new w) → IfErr result (AfterRefusal stripe old new p w) → IsStill new
    captured (Ok mark) ok err = gives p mark ok
    captured (Err e) ok err = refused e err

    waited : (e : Refusal) → AfterWaiting stripe old new p w e → IsStill new
    waited refusal.NullValue r = puts_back r.begun refusal.NullValue r.back
    waited refusal.KeyTooLong r = puts_back r.begun refusal.KeyTooLong r.back
    waited refusal.ValueTooLong r = puts_back r.begun refusal.ValueTooLong r.back
    waited refusal.UnknownMethod r = puts_back r.begun refusal.UnknownMethod r.back
    waited refusal.UnknownFunction r = puts_back r.begun refusal.UnknownFunction r.back
    waited refusal.BadFrame r = puts_back r.begun refusal.BadFrame r.back
    waited refusal.NoMemory r = puts_back r.begun refusal.NoMemory r.back
    waited (refusal.Busy j) r = puts_back r.begun (refusal.Busy j) r.back
    waited refusal.Failed r = subst (λ (x : Keeper D). IsStill x) (sym r.keeper) k
    waited refusal.TicketsSpent r = puts_back r.begun refusal.TicketsSpent r.back
    waited refusal.NotFormatted r = puts_back r.begun refusal.NotFormatted r.back
    waited (refusal.Damaged x0 x1) r = puts_back r.begun (refusal.Damaged x0 x1) r.back
    waited refusal.WrongVersion r = puts_back r.begun refusal.WrongVersion r.back
    waited refusal.LogFull r = puts_back r.begun refusal.LogFull r.back
    waited refusal.AlreadyFormatted r = puts_back r.begun refusal.AlreadyFormatted r.back
    waited refusal.WrongPhase r = subst (λ (x : Keeper D). IsStill x) (sym r.keeper) k
    waited refusal.TooEarly r = puts_back r.begun refusal.TooEarly r.back
    waited refusal.NotText r = puts_back r.begun refusal.NotText r.back
    waited refusal.SeatsSpent r = puts_back r.begun refusal.SeatsSpent r.back

    pub captured_waiting : (result : Result ℕ Refusal) → IfOk result (λ mark. GivesWaiting n p stripe mark old new w) → IfErr result (AfterWaiting stripe old new p w) → IsStill new
    captured_waiting (Ok mark) ok err = gives ok.begun mark ok.gives
    captured_waiting (Err e) ok err = waited e err

-- ---- a step of the logs leaves no sweep walking

hand_past : (next : Option LogState) (phase : Phase) (old new : Sweeper) (staged left : List Entry) → IsPast next phase old staged new left → is_walking old.walking ≡ false → is_walking new.walking ≡ false
hand_past (Some l) phase old new staged left k still = ap (λ (x : Sweeper). is_walking x.walking) k.0 ∙ still
hand_past None Idle old new staged left k still = ap (λ (x : Sweeper). is_walking x.walking) k.0 ∙ still
hand_past None Header old new staged left k still = ap (λ (x : Sweeper). is_walking x.walking) k.0 ∙ still
hand_past None HeaderWritten old new staged left k still = ap (λ (x : Sweeper). is_walking x.walking) k.0 ∙ still
hand_past None Staged old new staged left k still = ap (λ (x : Sweeper). is_walking x.walking) k.0 ∙ still
hand_past None Written old new staged left k still = ap (λ (x : Sweeper). is_walking x.walking) k.0 ∙ still
hand_past None Synced old new staged left k still = ap (λ (x : Sweeper). is_walking x.walking) k.0 ∙ still
hand_past None Opened old new staged left k still = ap (λ (x : Sweeper). is_walking x.walking) k.0 ∙ still

pub past : {D A : Type 0} (old new : Keeper D) (result : Result A Refusal) → OnOk result (IsPast old.next old.log.phase old.sweeper old.staged.items new.sweeper new.staged.items)
    → OnErr result ((new.sweeper ≡ old.sweeper) × (new.staged ≡ old.staged) × (new.is_broken ≡ true)) → is_walking old.sweeper.walking ≡ false → is_walking new.sweeper.walking ≡ false
past old new (Ok x) hand kept still = hand_past old.next old.log.phase old.sweeper new.sweeper old.staged.items new.staged.items hand still
past old new (Err e) hand kept still = ap (λ (x : Sweeper). is_walking x.walking) kept.0 ∙ still
