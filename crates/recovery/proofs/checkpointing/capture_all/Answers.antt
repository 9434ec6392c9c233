use Rattle.std.proofs.Common.{◌≡◌, ℕ, ◌+◌, inl, inr, refl, ap, subst, ◌∙◌, arith}
use Rattle.std.proofs.lemmas.Result.{err_from_is_err_and}
use Rattle.java_hash.specs.declared.stripe_count.StripeCount.{StripeCount}
use Rattle.one_history.specs.Turns.{record_of}
use Rattle.flusher.specs.declared.keeper.Keeper.{Keeper}
use Rattle.flusher.specs.Rotating.{Logs, logs_of}
use Rattle.recovery.specs.Upgrading.{IsSectionRefused}
use Rattle.recovery.proofs.Unmoved.{stays, still, through}
use Rattle.recovery.proofs.Sections.{is_next, one_more, one_sealed, unmoved_with}
use Rattle.recovery.proofs.checkpointing.capture_all.Goals as goal

pub loop-stripe-init : goal.loop-stripe-init
loop-stripe-init g c = record {
  unmoved = λ o is. is;
  stands = λ o is.
      stays g.D.Disk.states g.D.Disk.honest c.args.steps.now.words.now.stripes o c.args.keeper.now (record_of c.args.steps.now.pass c.args.steps.now.words.now) is.unmoved c.args.keeper.now.disk refl c.stops_of_a_keeper.ensures;
  given = λ o generation is has. has;
  sealed = refl;
  logs = refl;
  stripes = refl;
  counted = refl;
}

pub capture-requires-clause-unmoved : goal.capture-requires-clause-unmoved
capture-requires-clause-unmoved g c = (c.requires.begun.0, c.loop-stripe.invariant.unmoved c.requires.begun.0 c.requires.begun.2)

pub capture-requires-clause-next : goal.capture-requires-clause-next
capture-requires-clause-next g c =
    let o = c.requires.begun.0 in
    let generation = c.requires.begun.1 in
    let inv = c.loop-stripe.invariant in
    let test = c.loop-stripe-test.true in
    let value = c.get-stripe-end.ensures.value in
    let count : c.loop-stripe.keeper.stripes.count ≡ c.args.keeper.now.stripes.count = ap (λ (s : StripeCount). s.count) inv.stripes in
    is_next g.D.Disk.states g.D.Disk.honest o c.loop-stripe.keeper c.loop-stripe.steps.pass c.loop-stripe.steps.words.now (inv.unmoved o c.requires.begun.2) generation c.loop-stripe.stripe
    (inv.given o generation c.requires.begun.2 c.requires.begun.3) (ap (λ (l : Logs). l.next) inv.logs ∙ c.requires.no_rotation) (omega (arith, test, value, count))

pub advance-requires-clause-unmoved : goal.advance-requires-clause-unmoved
advance-requires-clause-unmoved g c =
    let o = c.requires.begun.0 in
    let is = c.in_ok-capture.ensures.unmoved o (c.loop-stripe.invariant.unmoved o c.requires.begun.2) in
    (c.capture.new.steps.words.now.stripes, o, record_of c.capture.new.steps.pass c.capture.new.steps.words.now, is.unmoved)

pub returns-in_err-advance-clause-stands : goal.returns-in_err-advance-clause-stands
returns-in_err-advance-clause-stands g c = λ o is.
    let states = g.D.Disk.states in
    let honest = g.D.Disk.honest in
    let inv = c.loop-stripe.invariant in
    let now = c.in_ok-capture.ensures.unmoved o (inv.unmoved o is) in
    let b = c.capture.new.steps.words.now in
    through states honest o.first o.map c.args.keeper.now.disk c.capture.new.keeper.disk c.advance.new.keeper.disk
    (still states honest o.first o.map c.args.keeper.now.disk c.loop-stripe.keeper.disk c.capture.new.keeper.disk (inv.stands o is) c.capture.ensures.disk)
    (c.advance.ensures.stands b.stripes o (record_of c.capture.new.steps.pass b) now.unmoved)

pub returns-in_err-capture-clause-err : goal.returns-in_err-capture-clause-err
returns-in_err-capture-clause-err g c =
    let inv = c.loop-stripe.invariant in
    let e = c.in_err-capture.field-0.0 in
    let q = err_from_is_err_and c.from_residual.result c.from_residual.ensures.1 in
    rw (q.1, q.2) (λ o is.
    inr (subst (λ (n : ℕ). IsSectionRefused n o.map e) (ap (λ (s : StripeCount). s.count) inv.stripes) (c.in_err-capture.ensures.err o (inv.unmoved o is))))

pub returns-in_err-advance-clause-err : goal.returns-in_err-advance-clause-err
returns-in_err-advance-clause-err g c =
    let failures = g.D.Disk.failures in
    let inv = c.loop-stripe.invariant in
    let failed = c.in_err-advance.ensures.err in
    let q = err_from_is_err_and c.from_residual-in_err-advance.result c.from_residual-in_err-advance.ensures.1 in
    rw (q.1, q.2) (λ o is. inl (failed.0, failed.1 ∙ ap (λ (n : ℕ). n + 1) (ap failures c.capture.ensures.disk ∙ inv.counted)))

pub loop-stripe-preserved : goal.loop-stripe-preserved
loop-stripe-preserved g c =
    let states = g.D.Disk.states in
    let honest = g.D.Disk.honest in
    let inv = c.loop-stripe.invariant in
    let k = c.loop-stripe.keeper in
    let k1 = c.capture.new.keeper in
    let k2 = c.advance.new.keeper in
    let b = c.capture.new.steps.words.now in
    let j = c.capture.new.steps.pass in
    let begun = c.requires.begun in
    record {
      unmoved = λ o is.
          let now = c.in_ok-capture.ensures.unmoved o (inv.unmoved o is) in
          unmoved_with states honest o k1 k2 j b now (c.in_ok-advance.ensures.unmoved b.stripes o (record_of j b) now.unmoved);
      stands = λ o is.
          let now = c.in_ok-capture.ensures.unmoved o (inv.unmoved o is) in
          through states honest o.first o.map c.args.keeper.now.disk k1.disk k2.disk
          (still states honest o.first o.map c.args.keeper.now.disk k.disk k1.disk (inv.stands o is) c.capture.ensures.disk)
          (c.advance.ensures.stands b.stripes o (record_of j b) now.unmoved);
      given = λ o generation is has.
          one_more k k1 k2 generation c.loop-stripe.stripe o.first (inv.given o generation is has) (c.in_ok-capture.ensures.given o (inv.unmoved o is)) c.in_ok-advance.ensures.checkpoints;
      sealed =
          one_sealed k k1 k2 begun.0.first (c.in_ok-capture.ensures.given begun.0 (inv.unmoved begun.0 begun.2)) c.in_ok-advance.ensures.checkpoints
          ∙ ap (λ (x : Keeper _). x.sealed) c.capture.ensures.same ∙ inv.sealed;
      logs = c.advance.ensures.logs ∙ ap logs_of c.capture.ensures.same ∙ inv.logs;
      stripes = c.advance.ensures.stripes ∙ ap (λ (x : Keeper _). x.stripes) c.capture.ensures.same ∙ inv.stripes;
      counted = c.in_ok-advance.ensures.counted ∙ ap g.D.Disk.failures c.capture.ensures.disk ∙ inv.counted;
    }

pub returns-in_err-capture-clause-unfailing : goal.returns-in_err-capture-clause-unfailing
returns-in_err-capture-clause-unfailing g c =
    let q = err_from_is_err_and c.from_residual.result c.from_residual.ensures.1 in
    rw (q.1, q.2) (λ other. ap g.D.Disk.failures c.capture.ensures.disk ∙ c.loop-stripe.invariant.counted)

pub returns-in_err-advance-clause-unfailing : goal.returns-in_err-advance-clause-unfailing
returns-in_err-advance-clause-unfailing g c =
    let q = err_from_is_err_and c.from_residual-in_err-advance.result c.from_residual-in_err-advance.ensures.1 in
    rw (q.1, q.2) (λ other. absurd (other c.in_err-advance.ensures.err.0))
