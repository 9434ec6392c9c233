use Rattle.std.proofs.lemmas.Result.{err_from_is_err_and}
use Rattle.cmd_serve.proofs.opening.find.Goals as goal

pub returns-in_err-keeper-clause-err : goal.returns-in_err-keeper-clause-err
returns-in_err-keeper-clause-err g c =
    let q = err_from_is_err_and c.from_residual.result c.from_residual.ensures.1 in
    rw (q.1, q.2) (record { stopped = c.in_err-keeper.ensures.stopped; listed = c.in_err-keeper.ensures.listed; reason = c.in_err-keeper.ensures.err })
