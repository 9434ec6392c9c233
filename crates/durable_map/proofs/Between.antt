-- What the calls that make no device call leave of what was captured and sealed.
use Rattle.std.proofs.Common.{◌≡◌, ℕ, List, Result, Ok, Err, IfOk, IfErr, OnOk, Bool, true, false, sym, subst}
use Rattle.disk_model.specs.Files.{Files}
use Rattle.map_types.specs.declared.refusals.Refusal.{Refusal}
use Rattle.map_types.specs.declared.refusals.Refusal.TheVariants as refusal
use Rattle.ticket_order.specs.declared.record.Record.{Record}
use Rattle.ticket_order.specs.Calls.{RefusesSweep}
use Rattle.ticket_order.specs.Records.{failing, missing, publishing}
use Rattle.flusher.specs.declared.keeper.Keeper.{Keeper}
use Rattle.flusher.specs.KeeperSteps.{SweepsOnce}
use Rattle.checkpoint_walk.specs.Walking.{AfterRefusal, GivesSection, MissesStripe, PutsBack, StaysAt}
use Rattle.durable_map.specs.LockedKeepers.{Keeps, KeepsSealed, OnlyCaptures}
use Rattle.durable_map.proofs.Sections.{CapturesNone, missed, not_captured, not_swept, stay_legal}
use Rattle.durable_map.proofs.Sections as sections

-- The pass made no call, what was captured are parts of the history, and the sealed checkpoint is kept.
pub record IsBetween {D : Type 0} (states : D → List Files) (honest : D → Type 0) (n : ℕ) (keeper : Keeper D) (p : Record) : Type 0 where
  pub captured : OnlyCaptures n p
  pub sealed : KeepsSealed states honest keeper

pub of_kept : {D : Type 0} (states : D → List Files) (honest : D → Type 0) (n : ℕ) (keeper : Keeper D) (p : Record) → Keeps states honest n keeper p → IsBetween states honest n keeper p
of_kept states honest n keeper p k = record { captured = k.captured; sealed = k.sealed }

module _ {D : Type 0} (states : D → List Files) (honest : D → Type 0) (n stripe : ℕ) (old new : Keeper D) (p w : Record) (b : IsBetween states honest n old p) where
  gives : (mark : ℕ) → GivesSection n p stripe mark old new w → IsBetween states honest n new w
  gives mark k = subst (λ (x : Keeper D). IsBetween states honest n x w) (sym k.is) (record { captured = sections.captured n stripe mark p w k.entries k.captures b.captured; sealed = b.sealed })

  puts_back : (e : Refusal) → PutsBack p stripe e old new w → IsBetween states honest n new w
  puts_back e k = subst (λ (x : Keeper D). IsBetween states honest n x w) (sym k.is) (record { captured = stay_legal n p w (not_captured stripe p w e k.back) b.captured; sealed = b.sealed })

  misses : (i : ℕ) → MissesStripe stripe i old new p w → IsBetween states honest n new w
  misses i k =
      let legal : OnlyCaptures n w = subst (λ (x : Record). OnlyCaptures n x) (sym k.missed) (stay_legal n p (missing p stripe) (missed p stripe) b.captured) in
      subst (λ (x : Keeper D). IsBetween states honest n x w) (sym k.is) (record { captured = legal; sealed = b.sealed })

  stays : StaysAt old new p w → IsBetween states honest n new w
  stays k = subst (λ (x : Keeper D). IsBetween states honest n x w) (sym k.keeper) (subst (λ (x : Record). IsBetween states honest n old x) (sym k.record_is) b)

  refused : (e : Refusal) → AfterRefusal stripe old new p w e → IsBetween states honest n new w
  refused refusal.NullValue k = puts_back refusal.NullValue k
  refused refusal.KeyTooLong k = puts_back refusal.KeyTooLong k
  refused refusal.ValueTooLong k = puts_back refusal.ValueTooLong k
  refused refusal.UnknownMethod k = puts_back refusal.UnknownMethod k
  refused refusal.UnknownFunction k = puts_back refusal.UnknownFunction k
  refused refusal.BadFrame k = puts_back refusal.BadFrame k
  refused refusal.NoMemory k = puts_back refusal.NoMemory k
  refused (refusal.Busy j) k = misses j k
  refused refusal.Failed k = stays k
  refused refusal.TicketsSpent k = puts_back refusal.TicketsSpent k
  refused refusal.NotFormatted k = puts_back refusal.NotFormatted k
  refused (refusal.Damaged x0 x1) k = puts_back (refusal.Damaged x0 x1) k
  refused refusal.WrongVersion k = puts_back refusal.WrongVersion k
  refused refusal.LogFull k = puts_back refusal.LogFull k
  refused refusal.AlreadyFormatted k = puts_back refusal.AlreadyFormatted k
  refused refusal.WrongPhase k = stays k
  refused refusal.TooEarly k = puts_back refusal.TooEarly k
  refused refusal.NotText k = puts_back refusal.NotText k
  refused refusal.SeatsSpent k = puts_back refusal.SeatsSpent k

  pub captured : (result : Result ℕ Refusal) → IfOk result (λ mark. GivesSection n p stripe mark old new w) → IfErr result (AfterRefusal stripe old new p w) → IsBetween states honest n new w
  captured (Ok mark) ok err = gives mark ok
  captured (Err e) ok err = refused e err

  gathers : CapturesNone p w → new ≡ record old { sweeper = record old.sweeper { in_hand = new.sweeper.in_hand } } → IsBetween states honest n new w
  gathers k same = subst (λ (x : Keeper D). IsBetween states honest n x w) (sym same) (record { captured = stay_legal n p w k b.captured; sealed = b.sealed })

  pub swept : {A : Type 0} (result : Result A Refusal) → OnOk result (SweepsOnce n stripe old.sweeper.in_hand new.sweeper.in_hand p w) → IfErr result (λ e. RefusesSweep p stripe e w)
      → new ≡ record old { sweeper = record old.sweeper { in_hand = new.sweeper.in_hand } } → IsBetween states honest n new w
  swept (Ok x) ok err same = gathers (sections.swept n stripe p w ok.entries ok.sweeps) same
  swept (Err e) ok err same = gathers (not_swept stripe p w e err) same

module _ {D : Type 0} (states : D → List Files) (honest : D → Type 0) (n : ℕ) (old new : Keeper D) (p w : Record) (b : IsBetween states honest n old p) where
  pub published : (has_failed : Bool) → old.has_failed ≡ has_failed → (old.has_failed ≡ false → (w ≡ publishing p old.log.committed) × (new ≡ record old { published = old.log.committed }))
      → (old.has_failed ≡ true → (w ≡ p) × (new ≡ old)) → IsBetween states honest n new w
  published false is publishes stops =
      let k = publishes is in
      let legal : OnlyCaptures n w = subst (λ (x : Record). OnlyCaptures n x) (sym k.0) (stay_legal n p (publishing p old.log.committed) (sections.published p old.log.committed) b.captured) in
      subst (λ (x : Keeper D). IsBetween states honest n x w) (sym k.1) (record { captured = legal; sealed = b.sealed })
  published true is publishes stops =
      let k = stops is in
      subst (λ (x : Keeper D). IsBetween states honest n x w) (sym k.1) (subst (λ (x : Record). IsBetween states honest n old x) (sym k.0) b)

  pub failed : w ≡ failing p → new ≡ record old { has_failed = true } → IsBetween states honest n new w
  failed record_is is =
      let legal : OnlyCaptures n w = subst (λ (x : Record). OnlyCaptures n x) (sym record_is) (stay_legal n p (failing p) (sections.failed p) b.captured) in
      subst (λ (x : Keeper D). IsBetween states honest n x w) (sym is) (record { captured = legal; sealed = b.sealed })
