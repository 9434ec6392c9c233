use Rattle.std.proofs.Common.{sym, subst, ◌∙◌}
use Rattle.std.proofs.lemmas.Result.{on_ok_weaker}
use Rattle.map_model.specs.Maps.{Map}
use Rattle.map_model.specs.Steps.{map_after}
use Rattle.recovery.specs.Counting.{counted_of}
use Rattle.recovery.specs.Lanes.{AreLanesOf}
use Rattle.recovery.proofs.restoring.Restoring.apply.Goals as goal

pub returns-clause-same : goal.returns-clause-same
returns-clause-same g c =
    let same = c.queue.ensures.same in
    record { stripes = c.run_if_many.ensures.stripes ∙ same.stripes; of = same.of; marks = same.marks }

pub returns-clause-ok : goal.returns-clause-ok
returns-clause-ok g c =
    on_ok_weaker c.run_if_many.result (λ kept m has.
    let new : Map = map_after m (counted_of c.args.self.now.of.count c.args.self.now.marks.items c.args.entries.items) in
    subst (λ s. AreLanesOf s.count new c.run_if_many.new.self.lanes.items) (sym c.run_if_many.ensures.stripes)
    (kept new (c.in_ok-queue.ensures.ok m has))) c.run_if_many.ensures.ok

pub returns-clause-some : goal.returns-clause-some
returns-clause-some g c =
    on_ok_weaker c.run_if_many.result (λ kept some.
    let new : Map = map_after some.0 (counted_of c.args.self.now.of.count c.args.self.now.marks.items c.args.entries.items) in (
      new,
      subst (λ s. AreLanesOf s.count new c.run_if_many.new.self.lanes.items) (sym c.run_if_many.ensures.stripes)
          (kept new (c.in_ok-queue.ensures.ok some.0 some.1)),
    )) c.run_if_many.ensures.ok
