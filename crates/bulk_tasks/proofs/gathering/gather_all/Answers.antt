use Rattle.std.proofs.Common.{[], ◌++◌, rules}
use Rattle.std.proofs.lemmas.Result.{err_from_is_err_and}
use Rattle.stripe_locks.specs.Passes.{recorded}
use Rattle.view_walk.specs.Walking.{lent_sections}
use Rattle.view_walk.proofs.Lending.{none_lent}
use Rattle.durable_map.proofs.Viewing.{some_stripes}
use Rattle.bulk_tasks.proofs.gathering.gather_all.Goals as goal

pub loop-step-init : goal.loop-step-init
loop-step-init g c = record {
  next = search rules;
  finite = search rules;
  own = c.requires.ready.own;
  same = search rules;
  stands = (
    [],
    c.new-walk.ensures.fits _ _ (some_stripes c.args.map.now) c.requires.ready.free,
    none_lent (λ ys. g.G.Gathers.gathered c.args.gathering.now c.args.gathering.now ys) [] _ c.new-walk.ensures.lends c.requires.begins,
  );
}

pub parts_step-requires-clause-fits : goal.parts_step-requires-clause-fits
parts_step-requires-clause-fits g c = (recorded c.args.pass.now, c.loop-step.invariant.stands.0, c.loop-step.invariant.stands.1)

pub loop-step-preserved : goal.loop-step-preserved
loop-step-preserved g c =
    let k = c.loop-step.invariant.stands in record {
      next = search rules;
      finite = search rules;
      own = search rules;
      same = search rules;
      stands = (
        k.0 ++ lent_sections c.loop-step.walk,
        c.gather_lent-walk.ensures.fits _ _ _ _ (rw c.in-More.is at (c.in_ok-next.ensures.next _ k.0 k.1)),
        c.gather_lent-walk.ensures.gathers _ _ k.2,
      );
    }

pub returns-in-Done-clause-done : goal.returns-in-Done-clause-done
returns-in-Done-clause-done g c =
    let k = c.loop-step.invariant.stands in
    (k.0 ++ lent_sections c.loop-step.walk, rw c.in-Done.is at (c.in_ok-next.ensures.next _ k.0 k.1), k.2)

pub returns-in_err-next-clause-refused : goal.returns-in_err-next-clause-refused
returns-in_err-next-clause-refused g c =
    let q = err_from_is_err_and c.from_residual.result c.from_residual.ensures.1 in
    let k = c.loop-step.invariant.stands in
    rw (q.1, q.2) (k.0 ++ lent_sections c.loop-step.walk, c.in_err-next.ensures.next _ k.0 k.1)
