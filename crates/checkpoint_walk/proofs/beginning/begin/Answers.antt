use Rattle.std.proofs.Common.{◌≡◌, None, ◌+◌, ap, sym, ◌∙◌}
use Rattle.gate_log.specs.States.{IsResting, LogState}
use Rattle.gate_log.specs.States as log_states
use Rattle.checkpoint_file.specs.States.{begun}
use Rattle.checkpoint_walk.proofs.Begun.{fits_begun, fits_rotating, given_begun}
use Rattle.checkpoint_walk.proofs.ChangedKeepers.{none_there}
use Rattle.checkpoint_walk.proofs.beginning.begin.Goals as goal

pub returns-then-generation-keeper-clause-given : goal.returns-then-generation-keeper-clause-given
returns-then-generation-keeper-clause-given g c = λ n done p f h.
    let none_ : c.args.keeper.now.checkpoint ≡ None = none_there c.args.keeper.now.checkpoint c.is_some.result c.is_some.ensures c.if-is_some.false in
    given_begun g.D.Disk.states g.D.Disk.honest n done c.args.keeper.now p c.low.result c.writer_from-writer.result f c.if-keeper.false none_ c.writer_from-writer.ensures.state c.writer_from-writer.ensures.stands h

pub returns-then-generation-keeper-clause-fits : goal.returns-then-generation-keeper-clause-fits
returns-then-generation-keeper-clause-fits g c = λ n done p f.
    let none_ : c.args.keeper.now.checkpoint ≡ None = none_there c.args.keeper.now.checkpoint c.is_some.result c.is_some.ensures c.if-is_some.false in
    let alone : c.args.keeper.now.next ≡ None = none_there c.args.keeper.now.next c.is_some-else-is_some.result c.is_some-else-is_some.ensures c.if-is_some-2.false in
    fits_begun g.D.Disk.states g.D.Disk.honest n done c.args.keeper.now p c.writer_from-writer.result c.steps_of_checkpoints.ensures.begins f c.if-keeper.false none_ alone
    (λ e. c.if-generation-keeper.true (c.generation.ensures ∙ e)) (c.writer_from-writer.ensures.state ∙ ap (λ low. begun (c.args.keeper.now.sealed + 1) low c.args.keeper.now.stripes.count c.args.keeper.now.must_close) c.low.ensures) c.writer_from-writer.ensures.stands

pub returns-clause-given : goal.returns-clause-given
returns-clause-given g c = λ n done p f h.
    let none_ : c.args.keeper.now.checkpoint ≡ None = none_there c.args.keeper.now.checkpoint c.is_some.result c.is_some.ensures c.if-is_some.false in
    given_begun g.D.Disk.states g.D.Disk.honest n done c.args.keeper.now p c.committed-committed.result c.writer_from-writer-2.result f c.if-keeper.false none_ c.writer_from-writer-2.ensures.state c.writer_from-writer-2.ensures.stands h

pub returns-clause-fits : goal.returns-clause-fits
returns-clause-fits g c = λ n done p f.
    let none_ : c.args.keeper.now.checkpoint ≡ None = none_there c.args.keeper.now.checkpoint c.is_some.result c.is_some.ensures c.if-is_some.false in
    let alone : c.args.keeper.now.next ≡ None = none_there c.args.keeper.now.next c.is_some-else-is_some.result c.is_some-else-is_some.ensures c.if-is_some-2.false in
    let rests : IsResting c.args.keeper.now.log = c.is_resting.ensures.0 c.if-not-is_resting.false in
    fits_rotating g.D.Disk.states g.D.Disk.honest n done c.args.keeper.now p c.new.result c.writer_from-writer-2.result c.steps_of_checkpoints.ensures.rotates f c.if-keeper.false none_ alone
    (sym c.generation.ensures ∙ c.if-generation-keeper.false) rests (c.new.ensures.state ∙ ap (λ low. log_states.begun (c.args.keeper.now.sealed + 1) low) c.committed-committed.ensures) c.new.ensures.stands (c.writer_from-writer-2.ensures.state ∙ ap (λ low. begun (c.args.keeper.now.sealed + 1) low c.args.keeper.now.stripes.count c.args.keeper.now.must_close) c.committed-committed.ensures) c.writer_from-writer-2.ensures.stands
