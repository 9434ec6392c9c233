use Rattle.disk_model.specs.Files.{now}
use Rattle.disk_model.specs.Fills.{after_stop}
use Rattle.disk_model.specs.Memory.{memory_states}
use Rattle.std.proofs.Common.{sym, subst}
use Rattle.schedule_sim.specs.Noting.{IsCounted, IsPlanned}
use Rattle.schedule_sim.proofs.traced.Traced.stop.Goals as goal

pub invariant_of-self-2 : goal.invariant_of-self-2
invariant_of-self-2 c =
    let old = c.args.self.now in
    let states = memory_states old.disk in
    record {
      planned = subst (λ plan. IsPlanned old.fill plan) (sym c.stop.ensures.planned) old.planned;
      tied = tt;
      counted = subst (λ all. IsCounted c.one_more-self.result all) (sym c.in_ok-stop.ensures.ok) (c.one_more-self.ensures (after_stop c.args.fill.now (now states)) states old.counted);
    }
