use Rattle.std.proofs.lemmas.Result.{err_from_is_err_and}
use Rattle.durable_map.proofs.Answering.{completes, refused}
use Rattle.durable_map.proofs.map.DurableMap.change.Goals as goal

pub returns-clause-completes : goal.returns-clause-completes
returns-clause-completes g c = completes _ _ _ _ _ _ _ c.in_ok-held.ensures.begins c.finish.ensures.finishes

pub returns-in_err-held-clause-completes : goal.returns-in_err-held-clause-completes
returns-in_err-held-clause-completes g c =
    let q = err_from_is_err_and c.from_residual.result c.from_residual.ensures.1 in
    rw (q.1, q.2) (refused _ _ _ _ _ c.in_err-held.ensures.begins)
