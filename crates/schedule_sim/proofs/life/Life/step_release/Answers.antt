use Rattle.std.proofs.Common.{◌≡◌, length, arith, ap, refl, ◌∙◌}
use Rattle.std.proofs.lemmas.List.{length-set, set-set}
use Rattle.schedule_sim.specs.declared.job.Job.TheVariants.{Idle}
use Rattle.schedule_sim.proofs.Workers.{freeing_did, release_leaves, release_under_way, pass_there}
use Rattle.schedule_sim.proofs.life.Life.step_release.Goals as goal

pub step_walk-made-requires-clause-pass : goal.step_walk-made-requires-clause-pass
step_walk-made-requires-clause-pass c = let but = c.requires.but in pass_there but.0 _ _ _ _ but.1.stands c.requires.worker

pub step_walk-made-requires-clause-under_way : goal.step_walk-made-requires-clause-under_way
step_walk-made-requires-clause-under_way c =
    let but = c.requires.but in release_under_way c.walks_of_workers.ensures.under_way but.0 _ _ but.1.jobs _ _ but.1.stands c.requires.worker but.1.was

pub released-job-requires : goal.released-job-requires
released-job-requires c =
    let but = c.requires.but in release_leaves c.walks_of_workers.ensures.releases but.0 _ _ but.1.jobs _ _ _ _ but.1.stands c.requires.worker but.1.was c.step_walk-made.ensures.next

pub index_mut-requires : goal.index_mut-requires
index_mut-requires c =
    let but = c.requires.but.1 in
    let e : length c.args.self.now.jobs.items ≡ 64 = ap length but.taken ∙ (length-set but.jobs c.args.worker Idle ∙ but.stands.count) in
    omega (arith, e, c.requires.worker, c.args.self.now.jobs.ok.0)

pub returns : goal.returns
returns c w but =
    let of_release = release_leaves c.walks_of_workers.ensures.releases w _ _ but.jobs _ _ _ _ but.stands c.requires.worker but.was c.step_walk-made.ensures.next in
    rw c.released-job.ensures
    (freeing_did c.steps_of_workers.ensures.releases c.laws_of_lives.ensures.workers w _ _ _ but.jobs c.args.worker _ _ c.args.walk _ _ but.stands c.requires.worker but.was c.step_walk-made.ensures.one
    c.keeps_one_history.ensures.one c.keeps_one_history.ensures.apart c.step_walk-made.ensures.next of_release refl refl (rw (but.taken, set-set) refl))
