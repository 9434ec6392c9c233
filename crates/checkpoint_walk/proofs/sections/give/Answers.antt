use Rattle.std.proofs.Common.{Option, Some, ap, ◌∙◌}
use Rattle.ticket_order.specs.declared.walk.Walk.{Walk}
use Rattle.ticket_order.specs.Walks.{entries_captured}
use Rattle.checkpoint_file.specs.States.{CheckpointState, with_section}
use Rattle.checkpoint_walk.proofs.sections.give.Goals as goal

pub hand_out-requires : goal.hand_out-requires
hand_out-requires g c = (c.requires.looked.0, c.requires.looked.1, c.stage-walk.ensures.looked _ _ _ _ c.requires.looked.2)

pub returns-in-Ok-clause-given : goal.returns-in-Ok-clause-given
returns-in-Ok-clause-given g c = λ b i k.
    let z = c.in-Ok.captured in
    let given = c.stage-walk.ensures.given z c.in-Ok.ensures.captured.0 in
    record {
      entries = entries_captured z;
      captures = c.in-Ok.ensures.ok b i (c.stage-walk.ensures.looked _ b i _ k);
      writer = c.in-Some.writer;
      was = c.in-Some.is;
      is = ap (λ (w : CheckpointState). record c.args.keeper.now { checkpoint = Some w }) given.0
          ∙ ap (λ (o : Option Walk). record c.args.keeper.now { checkpoint = Some (with_section z.mark (entries_captured z) c.in-Some.writer); capture = o }) c.requires.over;
      stands = given.1;
    }
