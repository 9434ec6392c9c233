use Rattle.std.proofs.Common.{refl, sym, ◌∙◌}
use Rattle.ticket_order.specs.Legality.{history_of}
use Rattle.disk_model.proofs.FileLemmas.{now_coherent}
use Rattle.flusher.specs.Fitting.{StopsFit}
use Rattle.checkpoint_walk.proofs.Advanced.{none_made, stops_now}
use Rattle.checkpoint_walk.proofs.ChangedKeepers.{none_there}
use Rattle.checkpoint_walk.proofs.Stepped.{Made, made_fits, made_given, made_moments, made_steps, made_uses}
use Rattle.checkpoint_walk.proofs.advancing.advance.Goals as goal

pub returns-then-keeper-clause-any_moment : goal.returns-then-keeper-clause-any_moment
returns-then-keeper-clause-any_moment g c = λ n done p f h.
    none_made g.D.Disk.states c.args.keeper.now.disk c.args.keeper.now.disk (StopsFit (history_of p) c.args.keeper.now) refl (stops_now g.D.Disk.states g.D.Disk.honest n done c.args.keeper.now p c.stops_of_a_store.ensures.rests f h)

pub returns-in_default-clause-any_moment : goal.returns-in_default-clause-any_moment
returns-in_default-clause-any_moment g c = λ n done p f h.
    none_made g.D.Disk.states c.args.keeper.now.disk c.args.keeper.now.disk (StopsFit (history_of p) c.args.keeper.now) refl (stops_now g.D.Disk.states g.D.Disk.honest n done c.args.keeper.now p c.stops_of_a_store.ensures.rests f h)

pub returns-then-is_some-clause-any_moment : goal.returns-then-is_some-clause-any_moment
returns-then-is_some-clause-any_moment g c = λ n done p f h.
    none_made g.D.Disk.states c.args.keeper.now.disk c.args.keeper.now.disk (StopsFit (history_of p) c.args.keeper.now) refl (stops_now g.D.Disk.states g.D.Disk.honest n done c.args.keeper.now p c.stops_of_a_store.ensures.rests f h)

made : (g : _) (c : goal.After-step g) → Made g.D.Disk.states g.D.Disk.failures g.D.Disk.honest c.in-Some.writer c.args.keeper.now c.step.new.keeper c.step.result
made g c = record {
  works = c.if-keeper.false;
  writer = sym c.take.ensures.value ∙ c.in-Some.is;
  alone = none_there c.args.keeper.now.next c.is_some.result c.is_some.ensures c.if-is_some.false;
  rests = c.step.ensures.rests;
  advances = c.step.ensures.advances;
  on = c.step.ensures.ok;
  off = c.step.ensures.err;
  same = c.step.ensures.same;
}

pub returns-clause-steps : goal.returns-clause-steps
returns-clause-steps g c = λ works call w due is. made_steps g.D.Disk.states g.D.Disk.failures g.D.Disk.honest call c.in-Some.writer w c.args.keeper.now c.step.new.keeper c.step.result (made g c) due is

pub returns-clause-any_moment : goal.returns-clause-any_moment
returns-clause-any_moment g c = λ n done p f h.
    made_moments g.D.Disk.states g.D.Disk.failures g.D.Disk.honest n done c.in-Some.writer c.args.keeper.now c.step.new.keeper p c.step.result c.stops_of_a_store.ensures.rests c.stops_of_a_store.ensures.writer (made g c) f h

pub returns-clause-given : goal.returns-clause-given
returns-clause-given g c = λ sections w given is. made_given g.D.Disk.states g.D.Disk.failures g.D.Disk.honest c.in-Some.writer w c.args.keeper.now c.step.new.keeper c.step.result sections (made g c) given is

pub returns-clause-sealed : goal.returns-clause-sealed
returns-clause-sealed g c = λ n done p w sections f h alone is last given.
    made_uses g.D.Disk.states g.D.Disk.failures g.D.Disk.honest n done c.in-Some.writer w c.args.keeper.now c.step.new.keeper p c.step.result sections c.laws_of_checkpoints.ensures.one c.steps_of_checkpoints.ensures.sealed c.stops_of_a_store.ensures.checkpoint (made g c) f h is last given
    (now_coherent (g.D.Disk.states c.step.new.keeper.disk) (g.met.D.Disk.are_coherent c.step.new.keeper.disk))

pub returns-clause-fits : goal.returns-clause-fits
returns-clause-fits g c = λ n done p f.
    made_fits g.D.Disk.states g.D.Disk.failures g.D.Disk.honest n done c.in-Some.writer c.args.keeper.now c.step.new.keeper p c.step.result c.stops_of_a_store.ensures.writer c.steps_of_checkpoints.ensures.steps c.steps_of_checkpoints.ensures.sealed (made g c) f
