use Rattle.std.proofs.Common.{[], inl, inr, refl, sym, ap, subst, ◌∙◌}
use Rattle.std.proofs.lemmas.Result.{err_from_is_err_and}
use Rattle.java_hash.proofs.StripeLaws.{some_stripe}
use Rattle.log_records.specs.Layout.{layout_of}
use Rattle.durable_map.specs.Maps.{opening_of}
use Rattle.flusher.specs.Fitting.{Fits}
use Rattle.recovery.specs.LogReading.{contents_of}
use Rattle.recovery.specs.Upgrading.{IsNewest}
use Rattle.recovery.proofs.Finding.{opens_with}
use Rattle.cmd_serve.specs.Opening.{IsEarlier, IsFound, IsOpenedNewest}
use Rattle.cmd_serve.specs.Opening.IsNotOpenedNewest.{not_opened, not_upgraded}
use Rattle.cmd_serve.proofs.Opened.{earlier, found_again, newest, upgrades}
use Rattle.cmd_serve.proofs.opening.open_map.Goals as goal

pub new-requires-clause-fits : goal.new-requires-clause-fits
new-requires-clause-fits g c p same unused =
    let has = c.requires.found.1 in
    let count = ap (λ x. x.count) has.start.stripes_are in
    subst (λ n. Fits g.D.Disk.states g.D.Disk.honest n [] c.args.found.keeper p) (sym count) (has.fits p same unused)

pub returns-in_err-map-clause-err : goal.returns-in_err-map-clause-err
returns-in_err-map-clause-err g c old has =
    let states = g.D.Disk.states in
    let failures = g.D.Disk.failures in
    let honest = g.D.Disk.honest in
    let k = c.args.found.keeper in
    let version = newest c.version.result (λ is. absurd (let same = rw is at c.if-eq.ensures in cc)) in
    let found : IsFound states failures honest IsNewest old k.disk = record {
      looks = has.looks;
      left = has.left;
      holds = λ h. let o = has.reads h in (o.0, (o.1.found, (o.1.holds, sym o.1.log.version ∙ ap layout_of (sym c.version.ensures ∙ version))));
    } in
    let opened : IsOpenedNewest states failures honest old k.disk = record { ready = old; is_ready = inl refl; is_newest = found } in
    let q = err_from_is_err_and c.from_residual.result c.from_residual.ensures.1 in
    let e = c.in_err-map.ensures in
    rw (q.1, q.2) (inl (subst (λ x. IsOpenedNewest states failures honest old x) (sym e.disk) opened, e.err))

pub returns-then-eq-clause-ok : goal.returns-then-eq-clause-ok
returns-then-eq-clause-ok g c old has =
    let states = g.D.Disk.states in
    let failures = g.D.Disk.failures in
    let honest = g.D.Disk.honest in
    let k = c.args.found.keeper in
    let version = newest c.version.result (λ is. absurd (let same = rw is at c.if-eq.ensures in cc)) in
    let found : IsFound states failures honest IsNewest old k.disk = record {
      looks = has.looks;
      left = has.left;
      holds = λ h. let o = has.reads h in (o.0, (o.1.found, (o.1.holds, sym o.1.log.version ∙ ap layout_of (sym c.version.ensures ∙ version))));
    } in
    let opened : IsOpenedNewest states failures honest old k.disk = record { ready = old; is_ready = inl refl; is_newest = found } in (
      k.disk,
      opened,
      λ h.
          opens_with c.laws_of_parts.ensures.union (contents_of states old) c.args.stripes.count (some_stripe c.args.stripes.count c.args.stripes.allowed)
          k c.args.found.parts.items c.args.found.first c.args.found.limit (opening_of c.in_ok-map.map) (has.reads h).1 c.in_ok-map.ensures.opening,
    )

pub returns-in_err-upgraded-clause-err : goal.returns-in_err-upgraded-clause-err
returns-in_err-upgraded-clause-err g c old has =
    let states = g.D.Disk.states in
    let failures = g.D.Disk.failures in
    let honest = g.D.Disk.honest in
    let k = c.args.found.keeper in
    let found : IsFound states failures honest IsEarlier old k.disk = record {
      looks = has.looks;
      left = has.left;
      holds = λ h.
          let o = has.reads h in
          (o.0, (o.1.found, (o.1.holds, earlier c.version.result (λ is. absurd (let same = rw is at c.if-eq.ensures in cc)) (contents_of states old) o.1.found (ap layout_of c.version.ensures ∙ o.1.log.version))));
    } in
    let d = c.into_disk.result in
    let is_earlier = subst (λ x. IsFound states failures honest IsEarlier old x) (sym c.into_disk.ensures) found in
    let q = err_from_is_err_and c.from_residual-in_err-upgraded.result c.from_residual-in_err-upgraded.ensures.1 in
    let e = c.in_err-upgraded.ensures in
    rw (q.1, q.2) (inr (not_upgraded (record { opened = d; is_earlier = is_earlier; refused = e.refused })))

pub returns-in_err-keeper-clause-err : goal.returns-in_err-keeper-clause-err
returns-in_err-keeper-clause-err g c old has =
    let states = g.D.Disk.states in
    let failures = g.D.Disk.failures in
    let honest = g.D.Disk.honest in
    let k = c.args.found.keeper in
    let found : IsFound states failures honest IsEarlier old k.disk = record {
      looks = has.looks;
      left = has.left;
      holds = λ h.
          let o = has.reads h in
          (o.0, (o.1.found, (o.1.holds, earlier c.version.result (λ is. absurd (let same = rw is at c.if-eq.ensures in cc)) (contents_of states old) o.1.found (ap layout_of c.version.ensures ∙ o.1.log.version))));
    } in
    let d = c.into_disk.result in
    let is_earlier = subst (λ x. IsFound states failures honest IsEarlier old x) (sym c.into_disk.ensures) found in
    let u = c.in_ok-upgraded in
    let up = upgrades states failures honest old d u.upgraded is_earlier u.ensures.ok u.ensures.unfailing u.ensures.reads in
    let q = err_from_is_err_and c.from_residual-in_err-keeper.result c.from_residual-in_err-keeper.ensures.1 in
    let e = c.in_err-keeper.ensures in
    rw (q.1, q.2) (inr (not_opened u.upgraded (inr up) (record { stopped = e.stopped; listed = e.listed; reason = e.err })))

pub returns-in_err-map-2-clause-err : goal.returns-in_err-map-2-clause-err
returns-in_err-map-2-clause-err g c old has =
    let states = g.D.Disk.states in
    let failures = g.D.Disk.failures in
    let honest = g.D.Disk.honest in
    let k = c.args.found.keeper in
    let found : IsFound states failures honest IsEarlier old k.disk = record {
      looks = has.looks;
      left = has.left;
      holds = λ h.
          let o = has.reads h in
          (o.0, (o.1.found, (o.1.holds, earlier c.version.result (λ is. absurd (let same = rw is at c.if-eq.ensures in cc)) (contents_of states old) o.1.found (ap layout_of c.version.ensures ∙ o.1.log.version))));
    } in
    let d = c.into_disk.result in
    let is_earlier = subst (λ x. IsFound states failures honest IsEarlier old x) (sym c.into_disk.ensures) found in
    let u = c.in_ok-upgraded in
    let up = upgrades states failures honest old d u.upgraded is_earlier u.ensures.ok u.ensures.unfailing u.ensures.reads in
    let l = c.in_ok-keeper in
    let again = found_again states failures honest old u.upgraded l.keeper.disk up l.ensures.calls l.ensures.stops (λ h. (l.ensures.ok h).0) in
    let opened : IsOpenedNewest states failures honest old l.keeper.disk = record { ready = u.upgraded; is_ready = inr up; is_newest = again } in
    let q = err_from_is_err_and c.from_residual-in_err-map-2.result c.from_residual-in_err-map-2.ensures.1 in
    let e = c.in_err-map-2.ensures in
    rw (q.1, q.2) (inl (subst (λ x. IsOpenedNewest states failures honest old x) (sym e.disk) opened, e.err))

pub returns-clause-ok : goal.returns-clause-ok
returns-clause-ok g c old has =
    let states = g.D.Disk.states in
    let failures = g.D.Disk.failures in
    let honest = g.D.Disk.honest in
    let k = c.args.found.keeper in
    let found : IsFound states failures honest IsEarlier old k.disk = record {
      looks = has.looks;
      left = has.left;
      holds = λ h.
          let o = has.reads h in
          (o.0, (o.1.found, (o.1.holds, earlier c.version.result (λ is. absurd (let same = rw is at c.if-eq.ensures in cc)) (contents_of states old) o.1.found (ap layout_of c.version.ensures ∙ o.1.log.version))));
    } in
    let d = c.into_disk.result in
    let is_earlier = subst (λ x. IsFound states failures honest IsEarlier old x) (sym c.into_disk.ensures) found in
    let u = c.in_ok-upgraded in
    let up = upgrades states failures honest old d u.upgraded is_earlier u.ensures.ok u.ensures.unfailing u.ensures.reads in
    let l = c.in_ok-keeper in
    let again = found_again states failures honest old u.upgraded l.keeper.disk up l.ensures.calls l.ensures.stops (λ h. (l.ensures.ok h).0) in
    let opened : IsOpenedNewest states failures honest old l.keeper.disk = record { ready = u.upgraded; is_ready = inr up; is_newest = again } in (
      l.keeper.disk,
      opened,
      λ h.
          opens_with c.laws_of_parts.ensures.union (contents_of states u.upgraded) c.args.stripes.count (some_stripe c.args.stripes.count c.args.stripes.allowed)
          l.keeper l.parts.items l.first l.limit (opening_of c.in_ok-map-2.map) (l.ensures.ok h).1 c.in_ok-map-2.ensures.opening,
    )
