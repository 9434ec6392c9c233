use Rattle.std.proofs.Common.{◌≡◌, None, Ok, Some, refl, sym, ◌∙◌, subst}
use Rattle.one_history.specs.Turns.{record_of}
use Rattle.sim_keeper.specs.Laws.{file_due}
use Rattle.sim_rules.specs.After.{file_of}
use Rattle.sim_rules.specs.declared.event.Event.TheVariants as event
use Rattle.sim_rules.specs.declared.event.Side.TheVariants as side
use Rattle.sim_rules.specs.declared.outcome.Outcome.TheVariants as outcome
use Rattle.schedule_sim.specs.declared.life.Life.{Life}
use Rattle.schedule_sim.specs.Living.{Did}
use Rattle.schedule_sim.specs.Noting.{WasLast}
use Rattle.schedule_sim.specs.Tracing.{traced_states}
use Rattle.schedule_sim.proofs.Devices.{ok_of, planned_fits}
use Rattle.schedule_sim.proofs.LivesParts.{fits_now}
use Rattle.schedule_sim.proofs.CheckpointEnds.{checkpoint_calls, checkpoint_fails}
use Rattle.schedule_sim.proofs.life.Life.call_checkpoint.Goals as goal

pub advance-requires : goal.advance-requires
advance-requires c =
    let life = c.args.self.now in
    let w = c.requires.life.0 in
    let a = c.requires.life.1 in (
      life.words.stripes,
      a.done,
      record_of 64 life.words,
      planned_fits life.words.stripes a.done life.keeper (record_of 64 life.words) c.plan_none.new.self c.plan_none.ensures
          (fits_now w life.keeper life.words life.jobs.items a c.requires.may.no_capture),
    )

pub advance-requires-in-Fails : goal.advance-requires-in-Fails
advance-requires-in-Fails c =
    let life = c.args.self.now in
    let w = c.requires.life.0 in
    let a = c.requires.life.1 in (
      life.words.stripes,
      a.done,
      record_of 64 life.words,
      planned_fits life.words.stripes a.done life.keeper (record_of 64 life.words) c.plan.new.self c.plan.ensures
          (fits_now w life.keeper life.words life.jobs.items a c.requires.may.no_capture),
    )

pub returns-in_ok-call-in-Done : goal.returns-in_ok-call-in-Done
returns-in_ok-call-in-Done c w a =
    let life = c.args.self.now in
    let disk = c.take_made.new.self in
    let made = c.advance.new.keeper in
    let call = c.in_ok-call-in-Done.call in
    let told = c.laws_of_telling.ensures in
    let new : Life = record { keeper = record made { disk = disk }; words = life.words; jobs = life.jobs } in
    let was = ok_of (Ok call) c.take_made.result _ (λ t. WasLast None t (traced_states disk)) (λ t. WasLast None t (traced_states disk))
    c.in_ok-call-in-Done.ensures.value c.take_made.ensures.made (λ t is. is) in
    let named = ok_of (Ok call) c.take_made.result _ (λ t. file_of t ≡ c.checkpoint_due-file.result) (λ t. file_of t ≡ file_due life.keeper.checkpoint)
    c.in_ok-call-in-Done.ensures.value c.take_made.ensures.file (λ t is. is ∙ c.checkpoint_due-file.ensures) in
    subst (λ e. Did w (event.Device side.Checkpoint e) (outcome.Checkpointed call c.in-Ok.phase) new) (sym c.in-Done.is)
    (checkpoint_calls w life new c.plan_none.new.self disk made _ call c.in-Ok.phase c.advance.result c.in-Ok.is told.walk told.log told.checkpoint
    c.laws_of_checkpoint_calls.ensures.done c.steps_of_the_keeper.ensures.rests c.requires.may c.plan_none.ensures
    (record {
      steps = c.advance.ensures.steps;
      works = c.advance.ensures.works;
      breaks = c.advance.ensures.breaks;
      given = c.advance.ensures.given;
      sealed = c.advance.ensures.sealed;
      same = c.advance.ensures.same;
    })
    (λ n done. c.advance.ensures.fits n done (record_of 64 life.words)) c.take_made.ensures.same was named refl refl refl a)

pub returns-in_ok-call-in-Fails : goal.returns-in_ok-call-in-Fails
returns-in_ok-call-in-Fails c w a =
    let life = c.args.self.now in
    let disk = c.take_lost.new.self in
    let made = c.advance-in-Fails.new.keeper in
    let call = c.in_ok-call-in-Fails.call in
    let fill = c.in-Fails.fill in
    let told = c.laws_of_telling.ensures in
    let new : Life = record { keeper = record made { disk = disk }; words = life.words; jobs = life.jobs } in
    let was = ok_of (Ok call) c.take_lost.result _ (λ t. WasLast (Some fill) t (traced_states disk)) (λ t. WasLast (Some fill) t (traced_states disk))
    c.in_ok-call-in-Fails.ensures.value c.take_lost.ensures.lost (λ t is. is) in
    let named = ok_of (Ok call) c.take_lost.result _ (λ t. file_of t ≡ c.checkpoint_due-file.result) (λ t. file_of t ≡ file_due life.keeper.checkpoint)
    c.in_ok-call-in-Fails.ensures.value c.take_lost.ensures.file (λ t is. is ∙ c.checkpoint_due-file.ensures) in
    subst (λ e. Did w (event.Device side.Checkpoint e) (outcome.CallFailed call) new) (sym c.in-Fails.is)
    (checkpoint_fails w life new c.plan.new.self disk made _ fill call c.advance-in-Fails.result (sym c.is_ok.ensures.value ∙ c.if-is_ok.false) told.walk
    told.log told.checkpoint c.laws_of_checkpoint_calls.ensures.fails c.steps_of_the_keeper.ensures.rests c.requires.may c.plan.ensures
    (record {
      steps = c.advance-in-Fails.ensures.steps;
      works = c.advance-in-Fails.ensures.works;
      breaks = c.advance-in-Fails.ensures.breaks;
      given = c.advance-in-Fails.ensures.given;
      sealed = c.advance-in-Fails.ensures.sealed;
      same = c.advance-in-Fails.ensures.same;
    })
    (λ n done. c.advance-in-Fails.ensures.fits n done (record_of 64 life.words)) c.take_lost.ensures.same was named refl refl refl a)
