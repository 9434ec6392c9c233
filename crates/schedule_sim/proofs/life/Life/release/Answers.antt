use Rattle.std.proofs.Common.{arith, refl, sym, ◌∙◌}
use Rattle.std.proofs.lemmas.List.{set-set}
use Rattle.schedule_sim.proofs.Workers.{job_there, put_back, release_did, release_skipped}
use Rattle.schedule_sim.proofs.life.Life.release.Goals as goal

pub returns-then-worker-ge-WORKERS : goal.returns-then-worker-ge-WORKERS
returns-then-worker-ge-WORKERS c w a =
    release_skipped c.fits_of_workers.ensures.release w c.args.worker _ _ _ _ a (λ lt held is. let ge = c.if-worker-ge-WORKERS.true in omega (arith, lt, ge)) a

pub returns-in-Waiting : goal.returns-in-Waiting
returns-in-Waiting c w a =
    release_did c.beginnings_of_walks.ensures.release c.laws_of_lives.ensures.workers w _ _ c.args.self.now.jobs.items c.args.worker c.in-Waiting.held _ _ a c.if-worker-ge-WORKERS.false
    (job_there _ _ _ _ a.count c.if-worker-ge-WORKERS.false (sym c.in-Waiting.is ∙ c.replace.ensures.value) c.index_mut.ensures.value) c.release.ensures refl refl (rw set-set refl)

pub returns-in_default : goal.returns-in_default
returns-in_default c w a =
    release_skipped c.fits_of_workers.ensures.release w c.args.worker _ _ c.args.self.now.jobs.items _ a
    (λ lt held is. c.in_default.not-Waiting held (sym (job_there _ _ _ _ a.count lt c.replace.ensures.value c.index_mut.ensures.value) ∙ is))
    (put_back w _ _ c.args.self.now.jobs.items c.args.worker c.replace.new.dest c.replace.result c.index_mut.result.now a (c.replace.ensures.value ∙ c.index_mut.ensures.value))
