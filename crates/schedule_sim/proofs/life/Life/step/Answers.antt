use Rattle.std.proofs.Common.{set, arith, ap, sym, ◌∙◌}
use Rattle.schedule_sim.proofs.Workers.{job_there, put_back, step_skipped}
use Rattle.schedule_sim.proofs.life.Life.step.Goals as goal

pub step_call-requires-clause-but : goal.step_call-requires-clause-but
step_call-requires-clause-but c =
    let a = c.requires.1 in (
      c.requires.0,
      record {
        jobs = c.args.self.now.jobs.items;
        stands = a;
        was = job_there _ _ _ _ a.count c.if-worker-ge-WORKERS.false (sym c.in-Calling.is ∙ c.replace.ensures.value) c.index_mut.ensures.value;
        taken = ap (λ d. set c.args.self.now.jobs.items c.args.worker d) c.replace.ensures.after;
      },
    )

pub step_release-requires-clause-but : goal.step_release-requires-clause-but
step_release-requires-clause-but c =
    let a = c.requires.1 in (
      c.requires.0,
      record {
        jobs = c.args.self.now.jobs.items;
        stands = a;
        was = job_there _ _ _ _ a.count c.if-worker-ge-WORKERS.false (sym c.in-Releasing.is ∙ c.replace.ensures.value) c.index_mut.ensures.value;
        taken = ap (λ d. set c.args.self.now.jobs.items c.args.worker d) c.replace.ensures.after;
      },
    )

pub returns-then-worker-ge-WORKERS : goal.returns-then-worker-ge-WORKERS
returns-then-worker-ge-WORKERS c w a =
    step_skipped c.fits_of_workers.ensures.step w c.args.worker _ _ _ _ a (λ lt walk is. let ge = c.if-worker-ge-WORKERS.true in omega (arith, lt, ge))
    (λ lt walk is. let ge = c.if-worker-ge-WORKERS.true in omega (arith, lt, ge)) a

pub returns-in-Calling : goal.returns-in-Calling
returns-in-Calling c w a =
    c.step_call.ensures w
    (record {
      jobs = c.args.self.now.jobs.items;
      stands = a;
      was = job_there _ _ _ _ a.count c.if-worker-ge-WORKERS.false (sym c.in-Calling.is ∙ c.replace.ensures.value) c.index_mut.ensures.value;
      taken = ap (λ d. set c.args.self.now.jobs.items c.args.worker d) c.replace.ensures.after;
    })

pub returns-in-Releasing : goal.returns-in-Releasing
returns-in-Releasing c w a =
    c.step_release.ensures w
    (record {
      jobs = c.args.self.now.jobs.items;
      stands = a;
      was = job_there _ _ _ _ a.count c.if-worker-ge-WORKERS.false (sym c.in-Releasing.is ∙ c.replace.ensures.value) c.index_mut.ensures.value;
      taken = ap (λ d. set c.args.self.now.jobs.items c.args.worker d) c.replace.ensures.after;
    })

pub returns-in_default : goal.returns-in_default
returns-in_default c w a =
    step_skipped c.fits_of_workers.ensures.step w c.args.worker _ _ c.args.self.now.jobs.items _ a
    (λ lt walk is. c.in_default.not-Calling walk (sym (job_there _ _ _ _ a.count lt c.replace.ensures.value c.index_mut.ensures.value) ∙ is))
    (λ lt walk is. c.in_default.not-Releasing walk (sym (job_there _ _ _ _ a.count lt c.replace.ensures.value c.index_mut.ensures.value) ∙ is))
    (put_back w _ _ c.args.self.now.jobs.items c.args.worker c.replace.new.dest c.replace.result c.index_mut.result.now a (c.replace.ensures.value ∙ c.index_mut.ensures.value))
