use Rattle.std.proofs.Common.{ap, subst, sym, refl}
use Rattle.ticket_order.specs.declared.record.Record.{Record}
use Rattle.flusher.specs.declared.keeper.Keeper.{Keeper}
use Rattle.cmd_mem.specs.Served.{IsCommitted, IsSwept, IsWithheld}
use Rattle.cmd_mem.proofs.Releasing.{committed_by, published_idle, were_taken}
use Rattle.cmd_mem.proofs.committing.make_durable.Goals as goal

pub returns-in-Ok-clause-ok : goal.returns-in-Ok-clause-ok
returns-in-Ok-clause-ok g c =
    let done = c.in-Ok.ensures.ok in
    let t = c.commit_in_time.new.journal in
    let u = c.publish.new.self in
    let made = g.S.Steps.recorded c.args.journal.now.steps in
    let after = g.S.Steps.recorded t.steps in
    let w = g.S.Steps.recorded u.steps in
    let is = c.publish.ensures.published done.0.unfailed in
    let k = c.journals_rest.ensures.kept in
    let swept : IsSwept made after = record { quiet = c.commit_in_time.ensures.quiet; seen = c.commit_in_time.ensures.seen } in (
      published_idle t.keeper u.keeper t.keeper.log.committed is.1 done.0,
      subst (λ (x : Keeper g.row.D.Denot). IsCommitted c.args.position made w x.log) (sym is.1)
          (committed_by c.args.position made after w t.keeper.log k.0 swept done.1 (c.committed_were_taken.ensures.front k.0 k.1) is.0),
    )

pub returns-in-Ok-clause-taken : goal.returns-in-Ok-clause-taken
returns-in-Ok-clause-taken g c =
    let done = c.in-Ok.ensures.ok in
    let t = c.commit_in_time.new.journal in
    let made = g.S.Steps.recorded c.args.journal.now.steps in
    let after = g.S.Steps.recorded t.steps in
    let is = c.publish.ensures.published done.0.unfailed in
    let swept : IsSwept made after = record { quiet = c.commit_in_time.ensures.quiet; seen = c.commit_in_time.ensures.seen } in
    were_taken c.args.position t.keeper.log.committed made after (g.S.Steps.recorded c.publish.new.self.steps) swept done.1 c.committed_were_taken.ensures.each (ap (λ (r : Record). r.taken) is.0)

pub returns-in-Err-clause-err : goal.returns-in-Err-clause-err
returns-in-Err-clause-err g c =
    let failing = c.fail.ensures.failed in
    let made = g.S.Steps.recorded c.args.journal.now.steps in
    let w = g.S.Steps.recorded c.fail.new.self.steps in (
      refl,
      subst (λ (x : Keeper g.row.D.Denot). IsWithheld made w x.log) (sym failing.1) (record {
        after = g.S.Steps.recorded c.commit_in_time.new.journal.steps;
        swept = record { quiet = c.commit_in_time.ensures.quiet; seen = c.commit_in_time.ensures.seen };
        cannot = c.in-Err.ensures.err;
        fails = failing.0;
      }),
    )
