use Rattle.std.proofs.Common.{rules, ◌≡◌, ◌∙◌, ℕ, IfErr, subst, sym}
use Rattle.std.proofs.lemmas.Result.{err_from_is_err_and}
use Rattle.map_types.specs.declared.refusals.Refusal.TheVariants.{Failed}
use Rattle.connections.specs.Dialogue.{Answer}
use Rattle.flusher.specs.declared.keeper.Keeper.{Keeper}
use Rattle.cmd_mem.specs.Served.{AreTaken, IsCommitted, IsGivenOut, IsIdle, IsWithheld}
use Rattle.cmd_mem.proofs.Releasing.{found}
use Rattle.cmd_mem.proofs.committing.give_out.Goals as goal

pub returns-in_err-make_durable-clause-err : goal.returns-in_err-make_durable-clause-err
returns-in_err-make_durable-clause-err g c =
    let failing = c.in_err-make_durable.ensures.err in
    let q = err_from_is_err_and c.from_residual.result c.from_residual.ensures.1 in
    subst (λ (r : Answer). IfErr r (λ refusal. (refusal ≡ Failed) × IsWithheld (g.S.Steps.recorded c.args.journal.now.steps) (g.S.Steps.recorded c.make_durable.new.journal.steps) c.make_durable.new.journal.keeper.log)) (sym q.1) (q.2 ∙ failing.0, failing.1)

pub returns-clause-ok : goal.returns-clause-ok
returns-clause-ok g c =
    let at : c.position.result ≡ c.args.held.position = search rules in
    let made = g.S.Steps.recorded c.args.journal.now.steps in
    let t = c.make_durable.new.journal in
    let p = g.S.Steps.recorded t.steps in
    let w = g.S.Steps.recorded c.release.new.self.steps in
    let done = c.in_ok-make_durable.ensures.ok in
    let commits = subst (λ (q : ℕ). IsCommitted q made p t.keeper.log) at done.1 in
    let out = c.in-Reply.ensures.released in
    let same = sym c.release.ensures.same in (
      out.1,
      subst (λ (x : Keeper g.row.D.Denot). IsIdle x) same done.0,
      subst (λ (x : Keeper g.row.D.Denot). IsGivenOut c.args.held.position made w x.log) same (record {
        between = p;
        commits = commits;
        taken = subst (λ (q : ℕ). AreTaken q made p) at c.in_ok-make_durable.ensures.taken;
        reaches = found c.args.held.position made p w t.keeper.log commits out.2;
      }),
    )
