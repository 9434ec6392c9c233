use Rattle.std.proofs.Common.{rules, ◌≡◌, ◌∙◌, Err, ap, sym, inl, subst}
use Rattle.std.proofs.lemmas.Result.{on_err_weaker}
use Rattle.map_types.specs.declared.refusals.Refusal.TheVariants.{LogFull}
use Rattle.cmd_mem.specs.Served.{CannotCommit}
use Rattle.cmd_mem.proofs.Releasing.{no_room}
use Rattle.cmd_mem.proofs.committing.commit_some.Goals as goal

pub returns-else-count-eq0-clause-err : goal.returns-else-count-eq0-clause-err
returns-else-count-eq0-clause-err g c =
    on_err_weaker c.commit_staged.result (λ broken. inl broken) c.commit_staged.ensures.err

pub returns-else-eq-clause-err : goal.returns-else-eq-clause-err
returns-else-eq-clause-err g c =
    let is : c.in-Err.refusal ≡ LogFull = search rules in
    let full = c.stage_batch.ensures.full.0 (c.in-Err.is ∙ ap Err is) in
    let batch = full.2 in
    let p = g.S.Steps.recorded c.args.journal.now.steps in
    subst (λ (s : g.row.S.Denot). CannotCommit c.stage_batch.new.self.keeper.log (g.S.Steps.recorded s)) (sym c.stage_batch.ensures.pass)
    (no_room c.args.journal.now.keeper.sweeper.in_hand c.args.journal.now.keeper.log c.stage_batch.new.self.keeper.log p batch.commands c.in-Err.ensures.err.0 c.runs_were_taken.ensures.next batch.some batch.longest
    (c.runs_were_taken.ensures.taken batch.commands batch.longest.run) batch.too_long)
