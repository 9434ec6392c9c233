use Rattle.std.proofs.Common.{◌≡◌, [], ℕ, ◌+◌, suc, refl, sym, ap, ◌∙◌, arith}
use Rattle.std.proofs.lemmas.Result.{err_from_is_err_and}
use Rattle.map_types.specs.declared.refusals.Refusal.TheVariants.{Failed}
use Rattle.flusher.specs.Rotating.{logs_of, stepped}
use Rattle.recovery.specs.Upgrading.{logs_after}
use Rattle.recovery.proofs.Unmoved.{err_of, logs_counted, logs_failed, logs_go_on, logs_keep, logs_stand, logs_unmoved, stays, through}
use Rattle.recovery.proofs.upgrading.advance.Goals as goal

pub loop-init : goal.loop-init
loop-init g c = record {
  unmoved = λ n o p is. is;
  stands = λ n o p is. stays g.D.Disk.states g.D.Disk.honest n o c.args.keeper.now p is c.args.keeper.now.disk refl c.stops_of_a_keeper.ensures;
  logs = refl;
  checkpoint = refl;
  sealed = refl;
  stripes = refl;
  counted = refl;
}

pub advance-requires : goal.advance-requires
advance-requires g c =
    let is = c.requires in
    (is.0, [], is.2, (c.loop.invariant.unmoved is.0 is.1 is.2 is.3).fits)

pub returns-in_err-_phase-clause-stands : goal.returns-in_err-_phase-clause-stands
returns-in_err-_phase-clause-stands g c = λ n o p is.
    let k = c.loop.keeper in
    let now = c.loop.invariant.unmoved n o p is in
    through g.D.Disk.states g.D.Disk.honest o.first o.map c.args.keeper.now.disk k.disk c.advance.new.self.disk (c.loop.invariant.stands n o p is)
    (logs_stand g.D.Disk.states g.D.Disk.honest n o k p now g.D.Disk.failures c.advance.new.self c.advance.result c.advance.ensures.rests c.advance.ensures.steps (c.advance.ensures.any_moment n [] p now.fits))

pub returns-in_err-_phase-clause-err : goal.returns-in_err-_phase-clause-err
returns-in_err-_phase-clause-err g c =
    let q = err_from_is_err_and c.from_residual.result c.from_residual.ensures.1 in
    let first = c.requires in
    let failures = g.D.Disk.failures in
    let k = c.loop.keeper in
    let new = c.advance.new.self in
    let so =
    err_of (λ refusal. (refusal ≡ Failed) × (failures new.disk ≡ failures k.disk + 1)) c.advance.result c.in_err-_phase.field-0.0 c.in_err-_phase.was
    (logs_failed g.D.Disk.states g.D.Disk.honest first.0 first.1 k first.2 (c.loop.invariant.unmoved first.0 first.1 first.2 first.3) failures new c.advance.result
    c.advance.ensures.rests c.advance.ensures.steps) in
    rw (q.1, q.2) (so.0, so.1 ∙ ap (λ (n : ℕ). n + 1) c.loop.invariant.counted)

pub loop-preserved : goal.loop-preserved
loop-preserved g c =
    let states = g.D.Disk.states in
    let honest = g.D.Disk.honest in
    let k = c.loop.keeper in
    let new = c.advance.new.self in
    let inv = c.loop.invariant in
    let first = c.requires in
    let one : c.loop.counter + 1 ≡ suc c.loop.counter = omega arith in
    record {
      unmoved = λ n o p is.
          logs_unmoved states honest n o k p (inv.unmoved n o p is) g.D.Disk.failures new c.advance.result c.advance.ensures.rests c.advance.ensures.steps c.in_ok-_phase._phase c.in_ok-_phase.was
          c.advance.ensures.works c.advance.ensures.hand (c.advance.ensures.fits n [] p (inv.unmoved n o p is).fits) c.advance.ensures.same;
      stands = λ n o p is.
          let now = inv.unmoved n o p is in
          through states honest o.first o.map c.args.keeper.now.disk k.disk new.disk (inv.stands n o p is)
          (logs_stand states honest n o k p now g.D.Disk.failures new c.advance.result c.advance.ensures.rests c.advance.ensures.steps (c.advance.ensures.any_moment n [] p now.fits));
      logs =
          let now = inv.unmoved first.0 first.1 first.2 first.3 in
          logs_go_on states honest first.0 first.1 k first.2 now g.D.Disk.failures new c.advance.result c.advance.ensures.rests c.advance.ensures.steps c.in_ok-_phase._phase c.in_ok-_phase.was
          ∙ ap stepped inv.logs ∙ ap (λ (m : ℕ). logs_after m (logs_of c.args.keeper.now)) (sym one);
      checkpoint = ap (λ k. k.checkpoint) c.advance.ensures.same ∙ inv.checkpoint;
      sealed = ap (λ k. k.sealed) c.advance.ensures.same ∙ inv.sealed;
      stripes =
          let now = inv.unmoved first.0 first.1 first.2 first.3 in
          logs_keep states honest first.0 first.1 k first.2 now g.D.Disk.failures new c.advance.result c.advance.ensures.rests c.advance.ensures.steps c.in_ok-_phase._phase c.in_ok-_phase.was (ap (λ k. k.sealed) c.advance.ensures.same)
          ∙ inv.stripes;
      counted =
          let now = inv.unmoved first.0 first.1 first.2 first.3 in
          logs_counted states honest first.0 first.1 k first.2 now g.D.Disk.failures new c.advance.result c.advance.ensures.rests c.advance.ensures.steps c.in_ok-_phase._phase c.in_ok-_phase.was ∙ inv.counted;
    }
