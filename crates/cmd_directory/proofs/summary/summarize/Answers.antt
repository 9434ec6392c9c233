use Rattle.std.proofs.Common.{ℕ, Err, inl, inr, subst, sym}
use Rattle.store_layout.specs.Opening.{Contents, Holds}
use Rattle.gate_log.specs.Scan.{failed_in}
use Rattle.cmd_directory.proofs.Summaries.{looks_further, same_after}
use Rattle.cmd_directory.proofs.summary.summarize.Goals as goal

pub returns-in-Ok-clause-ok : goal.returns-in-Ok-clause-ok
returns-in-Ok-clause-ok g c =
    let counted = c.in_ok-disk.ensures.ok in
    let same = same_after g.D.Disk.states g.D.Disk.failures g.D.Disk.honest c.args.disk c.in_ok-disk.disk counted.looks in
    record {
      looks = looks_further g.D.Disk.states g.D.Disk.failures g.D.Disk.honest 0 c.args.disk c.in_ok-disk.disk c.stripes_of.new.disk counted.looks c.in-Ok.ensures.looks;
      sums = λ honest.
          let before = counted.counted (c.in-Ok.ensures.looks.was_honest honest) in
          let found = before.1.0 in
          let is = before.1.1 in (
            before.0,
            record {
              found = found;
              holds = is.holds;
              generation = is.generation;
              stripes = c.in-Ok.ensures.ok honest found (sym is.generation) (subst (λ (contents : Contents). Holds contents found) (sym same) is.holds);
              prefix = is.prefix;
              entries = is.entries;
            },
          );
    }

pub returns-in-Err-clause-err : goal.returns-in-Err-clause-err
returns-in-Err-clause-err g c =
    let counted = c.in_ok-disk.ensures.ok in
    let same = same_after g.D.Disk.states g.D.Disk.failures g.D.Disk.honest c.args.disk c.in_ok-disk.disk counted.looks in
    record {
      stopped = inr (looks_further g.D.Disk.states g.D.Disk.failures g.D.Disk.honest (failed_in {X = ℕ} (Err c.in-Err.refusal)) c.args.disk c.in_ok-disk.disk c.stripes_of.new.disk counted.looks c.in-Err.ensures.looks);
      listed = c.in-Err.ensures.listed;
      reason = λ honest.
          let before = counted.counted (c.in-Err.ensures.looks.was_honest honest) in
          let found = before.1.0 in
          let is = before.1.1 in
          let why = c.in-Err.ensures.err honest found (sym is.generation) (subst (λ (contents : Contents). Holds contents found) (sym same) is.holds) in
          (before.0, elim why [ inl failed ↦ inl failed | inr memory ↦ inr (inl memory) ]);
    }
