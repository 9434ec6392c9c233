use Rattle.std.proofs.Common.{◌≡◌, IfSome, Option, None, Some, false, sym, ◌∙◌, ap, subst}
use Rattle.one_history.specs.Turns.{record_of}
use Rattle.flusher.specs.Rotating.{logs_of}
use Rattle.sim_rules.specs.declared.event.Side.TheVariants as side
use Rattle.sim_rules.specs.After.{file_of}
use Rattle.sim_rules.specs.World.{World}
use Rattle.schedule_sim.specs.declared.life.Life.{Life}
use Rattle.schedule_sim.specs.Calling.{MayCall, call_on, is_sync, number_due}
use Rattle.schedule_sim.specs.Living.{IsLife}
use Rattle.schedule_sim.specs.Noting.{WasLast}
use Rattle.schedule_sim.specs.Storing.{IsInterrupted}
use Rattle.schedule_sim.specs.Tracing.{traced_states}
use Rattle.schedule_sim.proofs.Devices.{checkpoint_made, log_made, ok_of, planned_fits}
use Rattle.schedule_sim.proofs.Interrupts.{checkpoint_written, interrupted_write, log_written}
use Rattle.schedule_sim.proofs.LivesParts.{fits_now}
use Rattle.schedule_sim.proofs.life.Life.write.Goals as goal
use Rattle.schedule_sim.proofs.life.Life.write.Goals.{in-Log+in-Ok, in-Checkpoint+in-Ok-advance}

both_some : {A : Type 0} (o : Option A) (P Q : A → Type 0) → IfSome o P → IfSome o Q → IfSome o (λ x. P x × Q x)
both_some None P Q p q = tt
both_some (Some x) P Q p q = (p, q)

pub advance-requires : goal.advance-requires
advance-requires c =
    let life = c.args.self.now in
    let a = c.requires.life.1 in (
      life.words.stripes,
      a.done,
      record_of 64 life.words,
      planned_fits life.words.stripes a.done life.keeper (record_of 64 life.words) c.plan_none.new.self c.plan_none.ensures
          (fits_now c.requires.life.0 life.keeper life.words life.jobs.items a c.requires.may.no_capture),
    )

pub advance-requires-in-Checkpoint : goal.advance-requires-in-Checkpoint
advance-requires-in-Checkpoint c =
    let life = c.args.self.now in
    let a = c.requires.life.1 in (
      life.words.stripes,
      a.done,
      record_of 64 life.words,
      planned_fits life.words.stripes a.done life.keeper (record_of 64 life.words) c.plan_none.new.self c.plan_none.ensures
          (fits_now c.requires.life.0 life.keeper life.words life.jobs.items a c.requires.may.no_capture),
    )

pub returns : goal.returns
returns c =
    let life = c.args.self.now in
    let b = life.words in
    let jobs = life.jobs.items in
    let told = c.laws_of_telling.ensures in
    let stand = c.laws_of_known_histories.ensures.stands in
    let begun = c.requires.life.1 in
    let may = c.requires.may in
    let planned = c.plan_none.new.self in
    let disk = c.take_made.new.self in
    let fits = planned_fits b.stripes begun.done life.keeper (record_of 64 b) planned c.plan_none.ensures (fits_now c.requires.life.0 life.keeper b jobs begun may.no_capture) in
    let both = both_some c.take_made.result (λ call. WasLast None call (traced_states disk)) (λ call. file_of call ≡ c.number_due-file.result) c.take_made.ensures.made c.take_made.ensures.file in
    ok_of c.ok_or.result c.take_made.result _ (λ call. WasLast None call (traced_states disk) × (file_of call ≡ c.number_due-file.result)) (λ call. (w : World) → IsLife w life → IsInterrupted w c.args.side call disk)
    c.ok_or.ensures.value both
    (λ call was w a. elim c.match-side.branch [
      | in-Log+in-Ok v ↦
          let made = v.advance.new.self in
          let here : MayCall side.Log life.keeper = subst (λ s. MayCall s life.keeper) v.in-Log.is may in
          let same = c.take_made.ensures.same ∙ ap (λ (l : Life). traced_states l.keeper.disk) v.self-is in
          let unsynced = subst (λ s. is_sync (call_on s life.keeper) ≡ false) v.in-Log.is c.requires.writes in
          let named = was.1 ∙ c.number_due-file.ensures ∙ ap (λ s. number_due s life.keeper) v.in-Log.is in
          subst (λ s. IsInterrupted w s call disk) (sym v.in-Log.is)
          (interrupted_write stand told.staged side.Log w life.keeper b jobs call planned made.disk disk a c.plan_none.ensures
          (log_made life.keeper _ planned made.disk (logs_of made) v.advance.result here v.advance.ensures.steps)
          (v.advance.ensures.any_moment b.stripes begun.done (record_of 64 b) fits tt) same was.0
          (log_written told.log told.checkpoint _ c.laws_of_log_calls.ensures.done w life.keeper b jobs planned disk made call _ v.advance.result v.in-Ok.is a here unsynced c.plan_none.ensures
          (record {
            steps = v.advance.ensures.steps;
            committed = v.advance.ensures.committed;
            hand = v.advance.ensures.hand;
            works = v.advance.ensures.works;
            kept = v.advance.ensures.kept;
            same = v.advance.ensures.same;
          }) same was.0 named))
      | in-Checkpoint+in-Ok-advance v ↦
          let made = v.advance-in-Checkpoint.new.keeper in
          let here : MayCall side.Checkpoint life.keeper = subst (λ s. MayCall s life.keeper) v.in-Checkpoint.is may in
          let same = c.take_made.ensures.same ∙ ap (λ (l : Life). traced_states l.keeper.disk) v.self-is in
          let unsynced = subst (λ s. is_sync (call_on s life.keeper) ≡ false) v.in-Checkpoint.is c.requires.writes in
          let named = was.1 ∙ c.number_due-file.ensures ∙ ap (λ s. number_due s life.keeper) v.in-Checkpoint.is in
          subst (λ s. IsInterrupted w s call disk) (sym v.in-Checkpoint.is)
          (interrupted_write stand told.staged side.Checkpoint w life.keeper b jobs call planned made.disk disk a c.plan_none.ensures
          (checkpoint_made life.keeper made _ planned v.advance-in-Checkpoint.result here v.advance-in-Checkpoint.ensures.steps)
          (v.advance-in-Checkpoint.ensures.any_moment b.stripes begun.done (record_of 64 b) fits tt) same was.0
          (checkpoint_written told.log told.checkpoint _ c.laws_of_checkpoint_calls.ensures.done w life.keeper b jobs planned disk made call _ v.advance-in-Checkpoint.result v.in-Ok-advance.is a here unsynced c.plan_none.ensures
          (record {
            steps = v.advance-in-Checkpoint.ensures.steps;
            works = v.advance-in-Checkpoint.ensures.works;
            breaks = v.advance-in-Checkpoint.ensures.breaks;
            given = v.advance-in-Checkpoint.ensures.given;
            sealed = v.advance-in-Checkpoint.ensures.sealed;
            same = v.advance-in-Checkpoint.ensures.same;
          }) same was.0 named))
    ])
