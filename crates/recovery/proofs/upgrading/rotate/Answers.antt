use Rattle.std.proofs.Common.{◌≡◌, ◌+◌, inl, [], ap, ◌∙◌}
use Rattle.std.proofs.lemmas.Result.{err_from_is_err_and}
use Rattle.map_types.specs.declared.refusals.Refusal.TheVariants.{Failed}
use Rattle.flusher.specs.declared.keeper.Keeper.{Keeper}
use Rattle.checkpoint_walk.specs.Checkpointing.{MayBegin}
use Rattle.recovery.specs.Upgrading.{sealed_stripes}
use Rattle.recovery.proofs.OpeningLemmas.{if_err}
use Rattle.recovery.proofs.RefusedBehind.{not_broken, not_rotated}
use Rattle.recovery.proofs.Unmoved.{begun_unmoved, stays, through}
use Rattle.recovery.proofs.GateClosing.{on_ok}
use Rattle.recovery.proofs.Rotation.{rotated}
use Rattle.recovery.proofs.upgrading.rotate.Goals as goal

pub advance-requires : goal.advance-requires
advance-requires g c =
    let is = c.requires in
    (is.0, is.1, is.2, begun_unmoved g.D.Disk.states g.D.Disk.honest is.0 is.1 c.args.keeper.now is.2 is.3 c.begin.new.keeper c.begin.ensures.same (c.begin.ensures.fits is.0 [] is.2 is.3.fits))

pub returns-in_err-begin-clause-stands : goal.returns-in_err-begin-clause-stands
returns-in_err-begin-clause-stands g c = λ n o p is.
    stays g.D.Disk.states g.D.Disk.honest n o c.args.keeper.now p is c.begin.new.keeper.disk (ap (λ (x : Keeper _). x.disk) c.begin.ensures.same) c.stops_of_a_keeper.ensures

pub returns-clause-stands : goal.returns-clause-stands
returns-clause-stands g c = λ n o p is.
    let states = g.D.Disk.states in
    let honest = g.D.Disk.honest in
    let k = c.args.keeper.now in
    let k1 = c.begin.new.keeper in
    through states honest o.first o.map k.disk k1.disk c.advance.new.keeper.disk
    (stays states honest n o k p is k1.disk (ap (λ (x : Keeper _). x.disk) c.begin.ensures.same) c.stops_of_a_keeper.ensures)
    (c.advance.ensures.stands n o p (begun_unmoved states honest n o k p is k1 c.begin.ensures.same (c.begin.ensures.fits n [] p is.fits)))

pub returns-clause-unmoved : goal.returns-clause-unmoved
returns-clause-unmoved g c =
    on_ok _ _ c.advance.result (λ unmoved n o p is.
    unmoved n o p (begun_unmoved g.D.Disk.states g.D.Disk.honest n o c.args.keeper.now p is c.begin.new.keeper c.begin.ensures.same (c.begin.ensures.fits n [] p is.fits))) c.advance.ensures.unmoved

pub returns-clause-rotated : goal.returns-clause-rotated
returns-clause-rotated g c =
    on_ok _ _ c.advance.result (λ logs at.
    rotated c.args.keeper.now c.begin.new.keeper c.advance.new.keeper c.in_ok-begin.ensures.ok at c.begin.ensures.same logs c.advance.ensures.checkpoint c.advance.ensures.sealed) c.advance.ensures.logs

pub returns-in_err-begin-clause-err : goal.returns-in_err-begin-clause-err
returns-in_err-begin-clause-err g c =
    let k = c.args.keeper.now in
    let q = err_from_is_err_and c.from_residual.result c.from_residual.ensures.1 in
    rw (q.1, q.2)
    (not_rotated (g.D.Disk.failures c.begin.new.keeper.disk ≡ g.D.Disk.failures k.disk + 1) (MayBegin k) c.begin.result c.in_err-begin.field-0.0 c.in_err-begin.was c.in_err-begin.ensures.no_other
    (λ failed. not_broken k.is_broken c.requires.3.works (c.begin.ensures.failed.0 failed)) (λ wrong. (c.begin.ensures.wrong_phase.0 wrong).1))

pub returns-clause-err : goal.returns-clause-err
returns-clause-err g c =
    let failures = g.D.Disk.failures in
    let k1 = c.begin.new.keeper in
    let k2 = c.advance.new.keeper in
    if_err (λ e. (e ≡ Failed) × (failures k2.disk ≡ failures k1.disk + 1)) _ c.advance.result (λ e failed. inl (failed.0, failed.1 ∙ ap (λ (x : Keeper _). failures x.disk + 1) c.begin.ensures.same)) c.advance.ensures.err

pub returns-clause-counted : goal.returns-clause-counted
returns-clause-counted g c =
    on_ok _ _ c.advance.result (λ none. none ∙ ap (λ (x : Keeper _). g.D.Disk.failures x.disk) c.begin.ensures.same) c.advance.ensures.counted

pub returns-in_err-begin-clause-unfailing : goal.returns-in_err-begin-clause-unfailing
returns-in_err-begin-clause-unfailing g c =
    let q = err_from_is_err_and c.from_residual.result c.from_residual.ensures.1 in
    rw (q.1, q.2) (λ other. ap (λ (x : Keeper _). g.D.Disk.failures x.disk) c.begin.ensures.same)

pub returns-clause-unfailing : goal.returns-clause-unfailing
returns-clause-unfailing g c =
    let failures = g.D.Disk.failures in
    if_err (λ e. (e ≡ Failed) × (failures c.advance.new.keeper.disk ≡ failures c.begin.new.keeper.disk + 1)) _ c.advance.result (λ e failed other. absurd (other failed.0)) c.advance.ensures.err

pub returns-clause-stripes : goal.returns-clause-stripes
returns-clause-stripes g c =
    on_ok _ _ c.advance.result (λ same. same ∙ ap (λ (x : Keeper _). sealed_stripes g.D.Disk.states x) c.begin.ensures.same) c.advance.ensures.stripes
