use Rattle.std.proofs.Common.{◌≡◌, ◌↔◌, inl, inr, ℕ, true, false, Result, Ok, Err, ap, sym, ◌∙◌, subst}
use Rattle.map_types.specs.declared.refusals.Refusal.{Refusal}
use Rattle.map_types.specs.declared.refusals.Refusal.TheVariants.{Failed, WrongPhase}
use Rattle.flusher.specs.declared.keeper.Keeper.{Keeper}
use Rattle.disk_model.specs.Files.{now}
use Rattle.ticket_order.specs.Legality.{history_of}
use Rattle.checkpoint_walk.specs.Checkpointing.{HasGiven, IsNextStripe}
use Rattle.checkpoint_walk.specs.Walking.{AfterRefusal, GivesPart, GivesSection, MayCapture}
use Rattle.checkpoint_walk.proofs.Waiting.{may_capture, refused_last, same_refusal, waited_again}
use Rattle.checkpoint_walk.proofs.captures.capture.Goals as goal

pub returns-in-Ok-clause-ok : goal.returns-in-Ok-clause-ok
returns-in-Ok-clause-ok g c =
    let i = c.loop-try.invariant in
    let b = g.S.Steps.recorded c.loop-try.steps in
    let w = g.S.Steps.recorded c.try_capture.new.steps in
    record {
      begun = b;
      waited = i.waited;
      gives = subst (λ (n : ℕ). GivesSection n b c.args.stripe c.in-Ok.mark c.args.keeper.now c.try_capture.new.keeper w) i.pass.1
          (subst (λ (k : Keeper g.row.D.Denot). GivesSection (g.S.Steps.stripe_count c.loop-try.steps) b c.args.stripe c.in-Ok.mark k c.try_capture.new.keeper w) i.keeper c.in-Ok.ensures.ok);
    }

pub loop-try-preserved : goal.loop-try-preserved
loop-try-preserved g c =
    let i = c.loop-try.invariant in
    let m = rw c.in-Busy.is at c.in-Err.ensures.err in
    record {
      next = tt;
      finite = tt;
      keeper = m.is ∙ i.keeper;
      waited = waited_again _ _ _ _ i.waited m.missed;
      first = inr (subst (λ (k : Keeper g.row.D.Denot). MayCapture c.args.stripe k) i.keeper (may_capture c.args.stripe c.loop-try.keeper c.in-Err.refusal c.in-Busy.stripe c.in-Busy.is
          (λ broken. same_refusal c.in-Err.refusal Failed (c.in-Err.ensures.failed.1 broken)) (λ wrong. same_refusal c.in-Err.refusal WrongPhase (c.in-Err.ensures.wrong_phase.1 wrong))));
      fits = λ done f. c.in-Err.ensures.fits done (i.fits done f);
      pass = (c.in-Err.ensures.pass.0 ∙ i.pass.0, c.in-Err.ensures.pass.1 ∙ i.pass.1);
    }

pub returns-in_default-clause-first : goal.returns-in_default-clause-first
returns-in_default-clause-first g c = λ h.
    let i = c.loop-try.invariant in
    elim i.first [
      | inl same ↦ (let r = c.in-Err.ensures.first h in (r.0 ∙ same, r.1 ∙ i.keeper))
      | inr may ↦ absurd (elim h [
        | inl a ↦ may.works (ap (λ (x : Keeper g.row.D.Denot). x.is_broken) (sym i.keeper) ∙ c.in-Err.ensures.failed.0 a)
        | inr b ↦ may.next (subst (λ (x : Keeper g.row.D.Denot). IsNextStripe c.args.stripe x.next x.checkpoint → ⊥) i.keeper (c.in-Err.ensures.wrong_phase.0 b).1)
      ])
    ]

pub returns-in_default-clause-err : goal.returns-in_default-clause-err
returns-in_default-clause-err g c =
    let i = c.loop-try.invariant in
    let b = g.S.Steps.recorded c.loop-try.steps in
    let w = g.S.Steps.recorded c.try_capture.new.steps in
    let k : Keeper g.row.D.Denot = c.args.keeper.now in
    let e = c.in-Err.refusal in
    refused_last c.args.stripe k c.try_capture.new.keeper (g.S.Steps.recorded c.args.steps.now) b w e (record {
      waited = i.waited;
      first = elim i.first [ inl same ↦ inl (ap g.S.Steps.recorded same) | inr may ↦ inr may ];
      failed = λ is. ap (λ (x : Keeper g.row.D.Denot). x.is_broken) (sym i.keeper) ∙ c.in-Err.ensures.failed.0 (ap Err is);
      wrong_phase = λ is. subst (λ (x : Keeper g.row.D.Denot). IsNextStripe c.args.stripe x.next x.checkpoint → ⊥) i.keeper (c.in-Err.ensures.wrong_phase.0 (ap Err is)).1;
      not_held = c.in_default.not-Busy;
    }) (subst (λ (x : Keeper g.row.D.Denot). AfterRefusal c.args.stripe x c.try_capture.new.keeper b w e) i.keeper c.in-Err.ensures.err)

pub returns-in-Ok-clause-given : goal.returns-in-Ok-clause-given
returns-in-Ok-clause-given g c = λ done sections f h given.
    let i = c.loop-try.invariant in
    let states = g.D.Disk.states in
    let w = g.S.Steps.recorded c.try_capture.new.steps in
    let there : HasGiven c.loop-try.keeper.checkpoint sections (now (states c.loop-try.keeper.disk)) = subst (λ (k : Keeper g.row.D.Denot). HasGiven k.checkpoint sections (now (states k.disk))) (sym i.keeper) given in
    let honest = subst (λ (k : Keeper g.row.D.Denot). g.D.Disk.honest k.disk) (sym i.keeper) h in
    subst (λ (n : ℕ). GivesPart states n (history_of w) c.in-Ok.mark sections c.try_capture.new.keeper) i.pass.1 (c.in-Ok.ensures.given done sections (i.fits done f) honest there)

pub returns-in-Ok-clause-failed : goal.returns-in-Ok-clause-failed
returns-in-Ok-clause-failed g c = subst (λ (x : Keeper g.row.D.Denot). ◌≡◌ {A = Result ℕ Refusal} (Ok c.in-Ok.mark) (Err Failed) ↔ (x.is_broken ≡ true)) c.loop-try.invariant.keeper c.in-Ok.ensures.failed

pub returns-in-Ok-clause-wrong_phase : goal.returns-in-Ok-clause-wrong_phase
returns-in-Ok-clause-wrong_phase g c = subst (λ (x : Keeper g.row.D.Denot). ◌≡◌ {A = Result ℕ Refusal} (Ok c.in-Ok.mark) (Err WrongPhase) ↔ ((x.is_broken ≡ false) × (IsNextStripe c.args.stripe x.next x.checkpoint → ⊥))) c.loop-try.invariant.keeper c.in-Ok.ensures.wrong_phase

pub returns-in_default-clause-failed : goal.returns-in_default-clause-failed
returns-in_default-clause-failed g c = subst (λ (x : Keeper g.row.D.Denot). ◌≡◌ {A = Result ℕ Refusal} (Err c.in-Err.refusal) (Err Failed) ↔ (x.is_broken ≡ true)) c.loop-try.invariant.keeper c.in-Err.ensures.failed

pub returns-in_default-clause-wrong_phase : goal.returns-in_default-clause-wrong_phase
returns-in_default-clause-wrong_phase g c = subst (λ (x : Keeper g.row.D.Denot). ◌≡◌ {A = Result ℕ Refusal} (Err c.in-Err.refusal) (Err WrongPhase) ↔ ((x.is_broken ≡ false) × (IsNextStripe c.args.stripe x.next x.checkpoint → ⊥))) c.loop-try.invariant.keeper c.in-Err.ensures.wrong_phase
