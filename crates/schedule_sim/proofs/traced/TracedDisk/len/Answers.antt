use Rattle.disk_model.specs.Files.{now}
use Rattle.disk_model.specs.Memory.{memory_states, planned_of}
use Rattle.std.proofs.Common.{sym, subst}
use Rattle.schedule_sim.specs.Noting.{IsCounted, IsPlanned}
use Rattle.schedule_sim.proofs.TracedCalls.{still_planned}
use Rattle.schedule_sim.proofs.traced.TracedDisk.len.Goals as goal

pub invariant_of-self : goal.invariant_of-self
invariant_of-self c =
    let old = c.args.self.now in
    let states = memory_states old.disk in
    record {
      planned = subst (λ plan. IsPlanned old.fill plan) (sym c.len.ensures.plan.plan) (still_planned old.fill (planned_of old.disk) old.planned);
      tied = tt;
      counted = subst (λ all. IsCounted c.one_more-self.result all) (sym c.len.ensures.state) (c.one_more-self.ensures (now states) states old.counted);
    }
