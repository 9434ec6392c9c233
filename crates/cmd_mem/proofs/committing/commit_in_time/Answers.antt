use Rattle.std.proofs.Common.{◌∙◌, OnErr, Result, subst, sym}
use Rattle.std.proofs.lemmas.Result.{err_from_is_err_and}
use Rattle.map_types.specs.declared.refusals.Refusal.{Refusal}
use Rattle.ticket_order.specs.StepRules.{IsOfSamePass}
use Rattle.flusher.specs.Fitting.{HasSeenMore, IsQuiet}
use Rattle.cmd_mem.specs.Served.{CannotCommit}
use Rattle.flusher.proofs.Quiet.{quiet_then}
use Rattle.flusher.proofs.Seeing.{sees_then}
use Rattle.cmd_mem.proofs.committing.commit_in_time.Goals as goal

pub loop-turn-preserved : goal.loop-turn-preserved
loop-turn-preserved g c =
    let i = c.loop-turn.invariant in
    let t = c.sweep-swept.ensures in
    let still = sym c.commit_some.ensures.pass in
    let first = c.args.journal.now.steps in
    record {
      next = tt;
      finite = tt;
      idle = c.in_ok-commit_some.ensures.ok;
      quiet = subst (λ (s : g.row.S.Denot). IsQuiet (g.S.Steps.recorded first) (g.S.Steps.recorded s)) still (quiet_then _ _ _ i.quiet t.quiet);
      seen = subst (λ (s : g.row.S.Denot). HasSeenMore (g.S.Steps.recorded first) (g.S.Steps.recorded s)) still (sees_then _ _ _ i.seen t.seen);
      pass = subst (λ (s : g.row.S.Denot). IsOfSamePass g.S.Steps.place g.S.Steps.stripe_count first s) still (t.pass.0 ∙ i.pass.0, t.pass.1 ∙ i.pass.1);
    }

pub returns-in_err-commit_some-clause-err : goal.returns-in_err-commit_some-clause-err
returns-in_err-commit_some-clause-err g c =
    let q = err_from_is_err_and c.from_residual.result c.from_residual.ensures.1 in
    subst (λ (r : Result (Unit {0}) Refusal). OnErr r (CannotCommit c.commit_some.new.journal.keeper.log (g.S.Steps.recorded c.commit_some.new.journal.steps))) (sym q.1) c.in_err-commit_some.ensures.err

pub returns-in_err-commit_some-clause-quiet : goal.returns-in_err-commit_some-clause-quiet
returns-in_err-commit_some-clause-quiet g c =
    subst (λ (s : g.row.S.Denot). IsQuiet (g.S.Steps.recorded c.args.journal.now.steps) (g.S.Steps.recorded s)) (sym c.commit_some.ensures.pass) (quiet_then _ _ _ c.loop-turn.invariant.quiet c.sweep-swept.ensures.quiet)

pub returns-in_err-commit_some-clause-seen : goal.returns-in_err-commit_some-clause-seen
returns-in_err-commit_some-clause-seen g c =
    subst (λ (s : g.row.S.Denot). HasSeenMore (g.S.Steps.recorded c.args.journal.now.steps) (g.S.Steps.recorded s)) (sym c.commit_some.ensures.pass) (sees_then _ _ _ c.loop-turn.invariant.seen c.sweep-swept.ensures.seen)
