use Rattle.std.proofs.Common.{rules, ◌≡◌, ap, subst}
use Rattle.std.specs.Arc.{arc_value}
use Rattle.ticket_order.specs.declared.record.Record.{Record}
use Rattle.stripe_locks.specs.Passes.{begun_with, recorded, stripe_count}
use Rattle.stripe_locks.specs.Plays.{joining}
use Rattle.stripe_locks.specs.declared.stripes.Stripes.{Stripes}
use Rattle.journal.proofs.FirstPasses.{kept_as, unused_first}
use Rattle.journal.proofs.own_steps.Journal+D+OwnSteps.over.Goals as goal

pub new-requires-2-clause-kept : goal.new-requires-2-clause-kept
new-requires-2-clause-kept g c =
    let o = begun_with (arc_value c.args.stripes) in
    let p = recorded c.in-Ok.pass in
    let same : c.deref.result.now ≡ arc_value c.args.stripes = search rules in
    let first : p ≡ joining o 0 = subst (λ (s : Stripes). p ≡ joining (begun_with s) 0) same c.in-Ok.ensures.first in
    kept_as g.D.Disk.states g.D.Disk.honest c.args.keeper _ _ p _ (ap (λ x. stripe_count (arc_value x)) c.new.ensures.stripes) (ap recorded c.new.ensures.pass)
    (c.requires.fits p (ap (λ (r : Record). r.opening) first) (unused_first o p first))
