use Rattle.std.proofs.Common.{[], None, ap}
use Rattle.std.proofs.lemmas.Result.{err_from_is_err_and}
use Rattle.flusher.specs.declared.keeper.Keeper.{Keeper}
use Rattle.recovery.proofs.OnePass.{same_frame, start_fits}
use Rattle.recovery.proofs.ThreeSteps.{IsStep, given_alone, given_low, left, never_refused, refused, take_made, unmoved}
use Rattle.recovery.proofs.RefusedBehind.{not_broken}
use Rattle.recovery.proofs.checkpointing.capture.Goals as goal

pub capture_step-requires-3-clause-fits : goal.capture_step-requires-3-clause-fits
capture_step-requires-3-clause-fits g c =
    let is = c.requires.unmoved.1 in
    ([], c.capture_step-2.ensures.fits [] (c.capture_step.ensures.fits [] (start_fits g.D.Disk.states g.D.Disk.honest c.requires.unmoved.0 c.args.keeper.now c.args.steps.now.pass c.args.steps.now.words.now is)))

pub returns-in_err-_looked : goal.returns-in_err-_looked
returns-in_err-_looked g c =
    let states = g.D.Disk.states in
    let honest = g.D.Disk.honest in
    let i = c.args.stripe in
    let k = c.args.keeper.now in
    let k1 = c.capture_step.new.keeper in
    let k2 = c.capture_step-2.new.keeper in
    let a = c.args.steps.now in
    let a1 = c.capture_step.new.steps in
    let a2 = c.capture_step-2.new.steps in
    let one = c.capture_step.ensures in
    let two = c.capture_step-2.ensures in
    let s1 : IsStep i k a k1 a1 c.capture_step.result = record { pass = one.pass; one = one.one; after = one.after } in
    let s2 : IsStep i k1 a1 k2 a2 c.capture_step-2.result = record { pass = two.pass; one = two.one; after = two.after } in
    absurd (never_refused states honest i k k1 k2 a a1 a2 c.capture_step.result c.capture_step-2.result c.requires.unmoved.1.unmoved.over c.in_ok-_taken._taken c.in_ok-_taken.was s1 s2 c.in_err-_looked.field-0.0 c.in_err-_looked.was)

pub returns-in_err-_given : goal.returns-in_err-_given
returns-in_err-_given g c =
    let states = g.D.Disk.states in
    let honest = g.D.Disk.honest in
    let i = c.args.stripe in
    let k = c.args.keeper.now in
    let k1 = c.capture_step.new.keeper in
    let k2 = c.capture_step-2.new.keeper in
    let a = c.args.steps.now in
    let a1 = c.capture_step.new.steps in
    let a2 = c.capture_step-2.new.steps in
    let one = c.capture_step.ensures in
    let two = c.capture_step-2.ensures in
    let s1 : IsStep i k a k1 a1 c.capture_step.result = record { pass = one.pass; one = one.one; after = one.after } in
    let s2 : IsStep i k1 a1 k2 a2 c.capture_step-2.result = record { pass = two.pass; one = two.one; after = two.after } in
    let k3 = c.capture_step-3.new.keeper in
    let a3 = c.capture_step-3.new.steps in
    let three = c.capture_step-3.ensures in
    let s3 : IsStep i k2 a2 k3 a3 c.capture_step-3.result = record { pass = three.pass; one = three.one; after = three.after } in
    let back = left states honest i k k1 k2 a a1 a2 c.capture_step.result c.capture_step-2.result c.requires.unmoved.1.unmoved.over c.in_ok-_taken._taken c.in_ok-_taken.was s1 s2 k3 a3 c.capture_step-3.result c.in_ok-_looked._looked c.in_ok-_looked.was s3 c.in_err-_given.field-0.0 c.in_err-_given.was in
    let q = err_from_is_err_and c.from_residual-in_err-_given.result c.from_residual-in_err-_given.ensures.1 in
    record {
      disk = ap (λ (x : Keeper _). x.disk) back;
      unmoved = rw q.1 tt;
      given = rw q.1 tt;
      same = same_frame k k3 k.checkpoint None back;
      err = rw (q.1, q.2) (refused states honest i k k1 k2 a a1 a2 c.capture_step.result c.capture_step-2.result c.requires.unmoved.1.unmoved.over c.in_ok-_taken._taken c.in_ok-_taken.was s1 s2 k3 a3 c.capture_step-3.result c.in_ok-_looked._looked c.in_ok-_looked.was s3 c.in_err-_given.field-0.0 c.in_err-_given.was
          three.cause c.keeps_one_history.ensures.one c.keeps_one_history.ensures.within);
    }

pub returns : goal.returns
returns g c =
    let states = g.D.Disk.states in
    let honest = g.D.Disk.honest in
    let i = c.args.stripe in
    let k = c.args.keeper.now in
    let k1 = c.capture_step.new.keeper in
    let k2 = c.capture_step-2.new.keeper in
    let a = c.args.steps.now in
    let a1 = c.capture_step.new.steps in
    let a2 = c.capture_step-2.new.steps in
    let one = c.capture_step.ensures in
    let two = c.capture_step-2.ensures in
    let s1 : IsStep i k a k1 a1 c.capture_step.result = record { pass = one.pass; one = one.one; after = one.after } in
    let s2 : IsStep i k1 a1 k2 a2 c.capture_step-2.result = record { pass = two.pass; one = two.one; after = two.after } in
    let k3 = c.capture_step-3.new.keeper in
    let a3 = c.capture_step-3.new.steps in
    let three = c.capture_step-3.ensures in
    let s3 : IsStep i k2 a2 k3 a3 c.capture_step-3.result = record { pass = three.pass; one = three.one; after = three.after } in
    let given = given_alone states honest i k k1 k2 a a1 a2 c.capture_step.result c.capture_step-2.result c.requires.unmoved.1.unmoved.over c.in_ok-_taken._taken c.in_ok-_taken.was s1 s2 k3 a3 c.capture_step-3.result c.in_ok-_looked._looked c.in_ok-_looked.was s3 c.in_ok-_given._given c.in_ok-_given.was in
    record {
      disk = ap (λ (x : Keeper _). x.disk) given;
      unmoved = λ o is. unmoved states honest i k k1 k2 a a1 a2 c.capture_step.result c.capture_step-2.result c.requires.unmoved.1.unmoved.over c.in_ok-_taken._taken c.in_ok-_taken.was s1 s2 k3 a3 c.capture_step-3.result c.in_ok-_looked._looked c.in_ok-_looked.was s3 c.in_ok-_given._given c.in_ok-_given.was o is
          (three.fits [] (two.fits [] (one.fits [] (start_fits states honest o k a.pass a.words.now is))));
      given = given_low states honest i k k1 k2 a a1 a2 c.capture_step.result c.capture_step-2.result c.requires.unmoved.1.unmoved.over c.in_ok-_taken._taken c.in_ok-_taken.was s1 s2 k3 a3 c.capture_step-3.result c.in_ok-_looked._looked c.in_ok-_looked.was s3 c.in_ok-_given._given c.in_ok-_given.was;
      same = same_frame k k3 _ None given;
      err = tt;
    }

pub returns-in_err-_taken-clause-err : goal.returns-in_err-_taken-clause-err
returns-in_err-_taken-clause-err g c =
    let i = c.args.stripe in
    let k = c.args.keeper.now in
    let a = c.args.steps.now in
    let r = c.capture_step.result in
    let one = c.capture_step.ensures in
    let is = c.requires.unmoved.1 in
    let s : IsStep i k a c.capture_step.new.keeper c.capture_step.new.steps r = record { pass = one.pass; one = one.one; after = one.after } in
    absurd (take_made i k c.capture_step.new.keeper a c.capture_step.new.steps r is.unmoved.over s c.in_err-_taken.field-0.0 c.in_err-_taken.was (λ failed. not_broken k.is_broken is.unmoved.works (one.failed.0 failed).1)
    (λ wrong. (one.wrong_phase.0 wrong).2 c.requires.next) is.one a.within)
