use Rattle.std.proofs.lemmas.Int.{to_z_pos}
use Rattle.std.proofs.lemmas.Result.{err_from_is_err_and}
use mir.Syntax.{w64}
use Rattle.bulk_tasks.specs.Bulk.{count_of}
use Rattle.wire_frames.specs.declared.requests.Bulk.TheVariants.{Count}
use Rattle.cmd_serve.proofs.Whole.{counted, refused}
use Rattle.cmd_serve.proofs.bulk.count.Goals as goal

pub returns-in_err-count-clause-completes : goal.returns-in_err-count-clause-completes
returns-in_err-count-clause-completes g c =
    let q = err_from_is_err_and c.from_residual.result c.from_residual.ensures.1 in
    rw (q.1, q.2) (refused _ _ _ count_of _ Count c.in_err-count.ensures.answers)

pub returns-clause-completes : goal.returns-clause-completes
returns-clause-completes g c = rw (to_z_pos w64 c.in_ok-count.count c.in_ok-count.ensures.fits) (counted _ _ _ _ c.in_ok-count.ensures.answers)
