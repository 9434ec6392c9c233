use Rattle.std.proofs.Common.{◌≡◌, false, true, not, sym, ◌∙◌, ap}
use Rattle.schedule_sim.proofs.CheckpointEnds.{due_can}
use Rattle.schedule_sim.proofs.Devices.{told_fits}
use Rattle.schedule_sim.proofs.life.Life.may_call.Goals as goal
use Rattle.schedule_sim.proofs.life.Life.may_call.Goals.{then-not-is_walking, else-not-is_walking}

pub returns-then-not-self-clause-told : goal.returns-then-not-self-clause-told
returns-then-not-self-clause-told c w fill a =
    let told = c.laws_of_telling.ensures in
    let life = c.args.self.now in
    elim c.if-not-is_walking.branch [
      | then-not-is_walking v ↦
          c.has_call.ensures
          ∙ due_can c.args.side life.keeper c.is_walking.result c.is_walking.ensures v.if-not-is_walking.true (sym v.value-is ∙ c.if-not-self.true)
          ∙ sym (told_fits told.walk told.log told.checkpoint c.args.side fill w life.keeper life.words life.jobs.items a)
      | else-not-is_walking v ↦ absurd (let no : false ≡ true = ap not (sym v.if-not-is_walking.false) ∙ sym v.value-is ∙ c.if-not-self.true in cc)
    ]
