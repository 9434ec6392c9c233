-- A capture by its three steps, TAKE, LOOK and GIVE, of each of which the contract of a step tells.
use Rattle.std.proofs.Common.{◌≡◌, ◌≢◌, ◌⊎◌, inl, inr, ℕ, ◌<◌, List, [], ◌∷◌, ◌++◌, length, Option, None, Some, Result, Ok, Err, IfErr, arith, refl, sym, ap, subst, ◌∙◌}
use Rattle.std.proofs.lemmas.List.{append_cancel_left}
use Rattle.disk_model.specs.Files.{Files}
use Rattle.map_types.specs.declared.refusals.Refusal.{Refusal}
use Rattle.map_types.specs.declared.refusals.Refusal.TheVariants as refusal
use Rattle.map_types.specs.declared.refusals.Refusal.TheVariants.{Failed, WrongPhase}
use Rattle.ticket_order.specs.declared.record.Opening.{Opening}
use Rattle.ticket_order.specs.declared.record.Record.{Record}
use Rattle.ticket_order.specs.declared.record.StepMade.{StepMade}
use Rattle.ticket_order.specs.declared.record.StepMade.TheVariants.{FoundHeld}
use Rattle.ticket_order.specs.declared.walk.Walk.{Walk}
use Rattle.ticket_order.specs.Records.{missing}
use Rattle.ticket_order.specs.StepRules.{IsOfSamePass}
use Rattle.ticket_order.specs.Walks.{Give, Look, MakesOne, Take, Ticket, next_kind}
use Rattle.one_history.specs.declared.book.Book.{Book}
use Rattle.one_history.specs.Moves.{BookMoves, WordsMove}
use Rattle.one_history.specs.OneHistory.{IsOneHistory}
use Rattle.one_history.specs.Turns.{record_of}
use Rattle.plain_words.specs.declared.at.At.{At}
use Rattle.checkpoint_file.specs.States.{with_section}
use Rattle.flusher.specs.declared.keeper.Keeper.{Keeper}
use Rattle.checkpoint_walk.specs.Capturing.{IsCauseOf}
use Rattle.checkpoint_walk.specs.Walking.{AfterStep, AfterTake, FitsBy, GivesSection, LooksAt, TakesStripe, kind_next}
use Rattle.recovery.specs.Upgrading.{IsGivenAt, IsSectionRefused, IsUnmovedWith}
use Rattle.recovery.proofs.Unmoved.{err_of}
use Rattle.recovery.proofs.OnePass.{IsSame, captures_one, captures_two, cause_of, given_at, gives, has_looked, looks, no_refusal, not_failed, puts_back, same_back, same_by, same_given, same_place, same_two, section_refused, taken, takes, unmoved_then}

abbrev book_at : At → Book
book_at at = at.words.now

abbrev pass_at : At → ℕ
pass_at at = at.pass

abbrev record_at : At → Record
record_at at = record_of at.pass at.words.now

abbrev moves_at : At → StepMade → At → Type 0
moves_at at made after = BookMoves at.pass made at.words.now after.words.now

-- what the contract of a step tells of it
pub record IsStep {D : Type 0} (stripe : ℕ) (k : Keeper D) (a : At) (k' : Keeper D) (a' : At) (r : Result (Option ℕ) Refusal) : Type 0 where
  pub pass : IsOfSamePass (λ (x : At). x.words.ghost_name ∷ x.pass ∷ []) (λ (x : At). x.words.now.stripes) a a'
  pub one : r ≢ Err Failed → r ≢ Err WrongPhase → MakesOne record_at moves_at (kind_next a.words.now.stripes stripe k.capture) a a'
  pub after : AfterStep a.words.now.stripes stripe k.capture k k' (record_at a) (record_at a') r

-- a refused TAKE wasn't made, or it found the stripe held
take_refused : {D : Type 0} (n i : ℕ) (k k1 : Keeper D) (p w : Record) (e : Refusal) → AfterTake n i k k1 p w (Err e) → (e ≡ Failed) ⊎ ((e ≡ WrongPhase) ⊎ (w ≡ missing p i))
take_refused n i k k1 p w Failed h = inl refl
take_refused n i k k1 p w WrongPhase h = inr (inl refl)
take_refused n i k k1 p w (refusal.Busy j) h = inr (inr h.missed)
take_refused n i k k1 p w e h = absurd h

same_step : (x y : StepMade) → ◌≡◌ {A = List StepMade} (x ∷ []) (y ∷ []) → x ≡ y
same_step x y e = cc

-- a TAKE by the only pass isn't refused, but before it is made
pub take_made : {D : Type 0} (stripe : ℕ) (k k1 : Keeper D) (a a1 : At) (r : Result (Option ℕ) Refusal) (free : k.capture ≡ None) (s : IsStep stripe k a k1 a1 r) (e : Refusal) → r ≡ Err e
    → (r ≡ Err Failed → ⊥) → (r ≡ Err WrongPhase → ⊥) → length a.words.now.passes ≡ 1 → a.pass < length a.words.now.passes → ⊥
take_made stripe k k1 a a1 r free s e was works due one within =
    by (take_refused a.words.now.stripes stripe k k1 (record_at a) (record_at a1) e
    (subst (λ (x : Result (Option ℕ) Refusal). AfterTake a.words.now.stripes stripe k k1 (record_at a) (record_at a1) x) was
    (subst (λ (c : Option Walk). AfterStep a.words.now.stripes stripe c k k1 (record_at a) (record_at a1) r) free s.after)))
  where
    by : (e ≡ Failed) ⊎ ((e ≡ WrongPhase) ⊎ (record_at a1 ≡ missing (record_at a) stripe)) → ⊥
    by (inl failed) = works (was ∙ ap Err failed)
    by (inr (inl wrong)) = due (was ∙ ap Err wrong)
    by (inr (inr missed)) =
        let step = s.one works due in
        let steps : (record_at a).steps ++ step.made ∷ [] ≡ (record_at a).steps ++ FoundHeld stripe ∷ [] = sym step.steps ∙ ap (λ (w : Record). w.steps) missed in
        let same : step.made ≡ FoundHeld stripe = same_step step.made (FoundHeld stripe) (append_cancel_left (record_at a).steps (step.made ∷ []) (FoundHeld stripe ∷ []) steps) in
        let held = (subst (λ (made : StepMade). WordsMove a.pass made a.words.now a1.words.now) same step.moved.words).1 in
        let there = held.holds.within in
        held.other (omega (arith, there, within, one))

module _ {D : Type 0} (states : D → List Files) (honest : D → Type 0) (stripe : ℕ) (k k1 k2 : Keeper D) (a a1 a2 : At) (r1 r2 : Result (Option ℕ) Refusal)
    (free : k.capture ≡ None) (x1 : Option ℕ) (ok1 : r1 ≡ Ok x1) (s1 : IsStep stripe k a k1 a1 r1) (s2 : IsStep stripe k1 a1 k2 a2 r2) where
  abbrev took : TakesStripe a.words.now.stripes stripe k k1 (record_at a) (record_at a1)
  took = takes book_at pass_at states honest stripe k k1 a a1 r1 free s1.after x1 ok1

  -- a LOOK isn't refused
  pub never_refused : (e : Refusal) → r2 ≡ Err e → ⊥
  never_refused e was = no_refusal book_at pass_at states honest stripe k k1 k2 a a1 a2 took s1.pass.1 r2 s2.after e was

  abbrev look : LooksAt a1.words.now.stripes took.walk k1 k2 (record_at a1) (record_at a2)
  look = looks book_at pass_at states honest stripe k k1 k2 a a1 a2 took s1.pass.1 r2 s2.after

  kind_one : kind_next a.words.now.stripes stripe k.capture ≡ Take stripe
  kind_one = ap (kind_next a.words.now.stripes stripe) free

  kind_two : kind_next a1.words.now.stripes stripe k1.capture ≡ Look
  kind_two =
      ap (kind_next a1.words.now.stripes stripe) (captures_one book_at pass_at states honest stripe k k1 k2 a a1 a2 took s1.pass.1 r2 s2.after)
      ∙ (taken book_at pass_at states honest stripe k k1 k2 a a1 a2 took s1.pass.1 r2 s2.after).next

  same_one : IsSame book_at pass_at states honest stripe a a1
  same_one =
      same_by book_at pass_at states honest stripe (kind_next a.words.now.stripes stripe k.capture) a a1 (λ x. let y : Take stripe ≡ Ticket = sym kind_one ∙ x in absurd cc) (same_place a a1 s1.pass.0)
      (s1.one (not_failed r1 x1 Failed ok1) (not_failed r1 x1 WrongPhase ok1))

  module _ (k3 : Keeper D) (a3 : At) (r3 : Result (Option ℕ) Refusal) (x2 : Option ℕ) (ok2 : r2 ≡ Ok x2) (s3 : IsStep stripe k2 a2 k3 a3 r3) where
    made_two : MakesOne record_at moves_at (kind_next a1.words.now.stripes stripe k1.capture) a1 a2
    made_two = s2.one (not_failed r2 x2 Failed ok2) (not_failed r2 x2 WrongPhase ok2)

    same_looked : IsSame book_at pass_at states honest stripe a1 a2
    same_looked =
        same_by book_at pass_at states honest stripe (kind_next a1.words.now.stripes stripe k1.capture) a1 a2 (λ x. let y : Look ≡ Ticket = sym kind_two ∙ x in absurd cc) (same_place a1 a2 s2.pass.0) made_two

    -- a refused GIVE leaves the keeper as it was
    pub left : (e : Refusal) → r3 ≡ Err e → k3 ≡ record k { capture = None }
    left e was =
        same_back book_at pass_at states honest stripe k k1 k2 a a1 a2 took s1.pass.1 r2 s2.after k3 a3 s2.pass.1 r3 s3.after e
        (puts_back book_at pass_at states honest stripe k k1 k2 a a1 a2 took s1.pass.1 r2 s2.after k3 a3 s2.pass.1 r3 s3.after e was)

    -- it is refused for its section
    pub refused : (e : Refusal) → r3 ≡ Err e → ((walk : Walk) → k2.capture ≡ Some walk → IfErr r3 (IsCauseOf walk)) → IsOneHistory a2.words.now → a2.pass < length a2.words.now.passes
        → (o : Opening) → IsUnmovedWith states honest o k a.pass a.words.now → IsSectionRefused k.stripes.count o.map e
    refused e was causes history within o is =
        let back = puts_back book_at pass_at states honest stripe k k1 k2 a a1 a2 took s1.pass.1 r2 s2.after k3 a3 s2.pass.1 r3 s3.after e was in
        let walk = captures_two book_at pass_at states honest stripe k k1 k2 a a1 a2 took s1.pass.1 r2 s2.after k3 a3 s2.pass.1 r3 s3.after in
        let cause = err_of (IsCauseOf look.next) r3 e was (causes look.next walk) in
        section_refused a2.words.now a2.pass stripe k.stripes.count o (record_at a) e history within (same_looked.history ∙ same_one.history ∙ is.none_made) is.unmoved.opening
        (s2.pass.1 ∙ s1.pass.1 ∙ sym is.unmoved.fits.stripes.count)
        (cause_of book_at pass_at states honest stripe k k1 k2 a a1 a2 took s1.pass.1 r2 s2.after k3 a3 s2.pass.1 r3 s3.after e back cause)

    module _ (x3 : Option ℕ) (ok3 : r3 ≡ Ok x3) where
      abbrev given : (mark : ℕ) × GivesSection a2.words.now.stripes (record_at a) stripe mark k2 k3 (record_at a3)
      given = gives book_at pass_at states honest stripe k k1 k2 a a1 a2 took s1.pass.1 r2 s2.after k3 a3 s2.pass.1 r3 s3.after x3 ok3

      kind_three : kind_next a2.words.now.stripes stripe k2.capture ≡ Give stripe
      kind_three =
          ap (kind_next a2.words.now.stripes stripe) (captures_two book_at pass_at states honest stripe k k1 k2 a a1 a2 took s1.pass.1 r2 s2.after k3 a3 s2.pass.1 r3 s3.after)
          ∙ (ap (λ (n : ℕ). next_kind n look.next) s2.pass.1 ∙ (has_looked book_at pass_at states honest stripe k k1 k2 a a1 a2 took s1.pass.1 r2 s2.after).next)

      made_three : MakesOne record_at moves_at (kind_next a2.words.now.stripes stripe k2.capture) a2 a3
      made_three = s3.one (not_failed r3 x3 Failed ok3) (not_failed r3 x3 WrongPhase ok3)

      same_given_back : IsSame book_at pass_at states honest stripe a2 a3
      same_given_back =
          same_by book_at pass_at states honest stripe (kind_next a2.words.now.stripes stripe k2.capture) a2 a3 (λ x. let y : Give stripe ≡ Ticket = sym kind_three ∙ x in absurd cc) (same_place a2 a3 s3.pass.0) made_three

      same_kept : k2 ≡ record k { capture = Some look.next }
      same_kept = same_two book_at pass_at states honest stripe k k1 k2 a a1 a2 took s1.pass.1 r2 s2.after k3 a3 s2.pass.1 r3 s3.after

      -- the section is given, and no other field changes
      pub given_alone : k3 ≡ record k { checkpoint = Some (with_section given.0 given.1.entries given.1.writer); capture = None }
      given_alone =
          same_given book_at pass_at states honest stripe k k1 k2 k3 a a1 a2 a3 same_one same_looked same_given_back (kind_next a1.words.now.stripes stripe k1.capture) (kind_next a2.words.now.stripes stripe k2.capture)
          kind_two kind_three made_two made_three given.0 look.next same_kept a2.words.now.stripes given.1

      pub unmoved : (o : Opening) → IsUnmovedWith states honest o k a.pass a.words.now → FitsBy k3.capture states honest a3.words.now.stripes [] k3 (record_at a3) → IsUnmovedWith states honest o k3 a3.pass a3.words.now
      unmoved o is fits =
          unmoved_then book_at pass_at states honest stripe k k1 k2 k3 a a1 a2 a3 same_one same_looked same_given_back (kind_next a1.words.now.stripes stripe k1.capture) (kind_next a2.words.now.stripes stripe k2.capture)
          kind_two kind_three made_two made_three given.0 look.next same_kept a2.words.now.stripes given.1 o is fits

      pub given_low : (o : Opening) → IsUnmovedWith states honest o k a.pass a.words.now → IsGivenAt o.first k.checkpoint k3.checkpoint
      given_low o is =
          given_at book_at pass_at states honest stripe k k1 k2 k3 a a1 a2 a3 same_one same_looked same_given_back (kind_next a1.words.now.stripes stripe k1.capture) (kind_next a2.words.now.stripes stripe k2.capture)
          kind_two kind_three made_two made_three given.0 look.next same_kept a2.words.now.stripes given.1 o is
