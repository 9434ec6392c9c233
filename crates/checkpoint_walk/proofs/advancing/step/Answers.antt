use Rattle.std.proofs.Common.{◌≡◌, Some, refl, sym, ◌∙◌}
use Rattle.store_layout.specs.declared.checkpoint_phase.CheckpointPhase.TheVariants.{Opened}
use Rattle.checkpoint_walk.specs.Checkpointing.{checkpoints_of}
use Rattle.checkpoint_walk.proofs.Advanced.{kept_other}
use Rattle.checkpoint_walk.proofs.advancing.step.Goals as goal

pub returns-in-Err-clause-advances : goal.returns-in-Err-clause-advances
returns-in-Err-clause-advances g c = λ call due. (c.advance.new.self, c.in-Err.ensures.advances c.requires.works.1 call due, refl)

pub returns-else-eq-clause-advances : goal.returns-else-eq-clause-advances
returns-else-eq-clause-advances g c = λ call due.
    let not_last : c.args.writer.phase ≡ Opened → ⊥ = λ is. absurd (let same = rw (c.phase-phase.ensures ∙ is) at c.eq.ensures in let other = c.if-eq.false in cc) in (
      c.advance.new.self,
      c.in-Ok.ensures.advances c.requires.works.1 call due,
      sym (kept_other c.args.writer.phase c.advance.new.self (record (checkpoints_of c.args.keeper.now) { writer = Some c.args.writer }) not_last),
    )
