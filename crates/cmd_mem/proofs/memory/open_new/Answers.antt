use Rattle.std.proofs.Common.{◌≡◌, [], subst, arith}
use Rattle.ticket_order.specs.declared.record.Record.{Record}
use Rattle.stripe_locks.specs.Passes.{begun_with}
use Rattle.flusher.specs.Fitting.{Fits, IsKept, IsUnused}
use Rattle.recovery.specs.Formatting.{IsNew}
use Rattle.recovery.specs.Opening.{OpensWith}
use Rattle.recovery.specs.LogReading.{RefusesFor, contents_of}
use Rattle.recovery.specs.Syncing.{Stopped}
use Rattle.store_layout.specs.Opening.{Refuses, StandsFor}
use Rattle.cmd_mem.specs.Maps.{CannotOpen, nothing_yet}
use Rattle.cmd_mem.proofs.NewMaps.{begins_new, both_ok, cannot_open, if_err, if_ok}
use Rattle.cmd_mem.proofs.memory.open_new.Goals as goal

pub returns-in-Ok-clause-new : goal.returns-in-Ok-clause-new
returns-in-Ok-clause-new g c =
    let mid = c.format.new.disk in
    let contents = contents_of g.D.Disk.states mid in
    both_ok (λ x. g.D.Disk.honest x.0.disk → OpensWith contents (begun_with x.1)) (λ x. g.D.Disk.honest x.0.disk → g.D.Disk.honest mid × StandsFor contents (begun_with x.1).first (begun_with x.1).map)
    (λ x. g.D.Disk.honest x.0.disk → begun_with x.1 ≡ nothing_yet) c.open.result
    (λ x begins ok honest. begins_new c.laws_of_opening.ensures.one c.laws_of_opening.ensures.one_way contents (begun_with x.1) (begins honest) (ok honest).1
    (subst (λ n. IsNew n contents) c.in-Some.ensures.value (c.in-Ok.ensures.reads (ok honest).0)) (c.in-Ok.ensures.read_in (ok honest).0))
    c.open.ensures.begins c.open.ensures.ok

pub returns-in-Ok-clause-kept : goal.returns-in-Ok-clause-kept
returns-in-Ok-clause-kept g c =
    if_ok _ (λ x. (p : Record) → p.opening ≡ begun_with x.1 → IsUnused (begun_with x.1).first (begun_with x.1).key_limit p → IsKept g.D.Disk.states g.D.Disk.honest 16 x.0 p) c.open.result
    (λ x fits p opening unused. ([], subst (λ n. Fits g.D.Disk.states g.D.Disk.honest n [] x.0 p) c.in-Some.ensures.value (fits p opening unused))) c.open.ensures.fits

pub returns-in-Ok-clause-err : goal.returns-in-Ok-clause-err
returns-in-Ok-clause-err g c =
    let states = g.D.Disk.states in
    let mid = c.format.new.disk in
    if_err (λ x. Stopped states g.D.Disk.failures g.D.Disk.honest 4 mid x.0 x.1) (λ x. g.D.Disk.honest x.0 → g.D.Disk.honest mid × RefusesFor (Refuses (contents_of states mid) x.1) x.1)
    (λ x. g.D.Disk.honest x.0 → CannotOpen states g.D.Disk.failures c.args.disk x.1 x.0) c.open.result
    (λ x stopped refused honest. cannot_open states g.D.Disk.failures g.D.Disk.honest _ c.args.disk mid x.0 c.laws_of_opening.ensures.never_both
    (let same = c.in-Ok.ensures.failures in omega (arith, same)) x.1 stopped (refused honest).1 (c.in-Ok.ensures.reads (refused honest).0))
    c.open.ensures.stopped c.open.ensures.err
