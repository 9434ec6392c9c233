use Rattle.std.proofs.Common.{ap}
use Rattle.std.proofs.lemmas.Result.{err_from_is_err_and}
use Rattle.cmd_serve.specs.WholeMap.{reduced}
use Rattle.cmd_serve.proofs.Whole.{reduced_err, reduced_ok}
use Rattle.cmd_serve.proofs.bulk.reduce.Goals as goal

pub returns-in_err-value-clause-completes : goal.returns-in_err-value-clause-completes
returns-in_err-value-clause-completes g c =
    let q = err_from_is_err_and c.from_residual.result c.from_residual.ensures.1 in
    rw (q.1, q.2) (reduced_err _ _ _ c.args.func c.args.threshold _ c.in_err-value.ensures.answers c.in_err-value.ensures.unknown)

pub returns-in-Ok-clause-completes : goal.returns-in-Ok-clause-completes
returns-in-Ok-clause-completes g c = reduced_ok _ _ _ c.args.func c.args.threshold _ _ (ap reduced c.in-Ok.is) c.in_ok-value.ensures.answers c.in_ok-value.ensures.unknown

pub returns-in-Err-clause-completes : goal.returns-in-Err-clause-completes
returns-in-Err-clause-completes g c = reduced_ok _ _ _ c.args.func c.args.threshold _ _ (ap reduced c.in-Err.is) c.in_ok-value.ensures.answers c.in_ok-value.ensures.unknown
