use Rattle.std.proofs.Common.{◌≡◌, List, ◌∷◌, sym, ◌∙◌, subst, arith}
use Rattle.disk_model.specs.Files.{Files, now}
use Rattle.disk_model.specs.Memory.{memory_states, planned_of}
use Rattle.disk_model.specs.Plans.{passed}
use Rattle.sim_rules.specs.declared.outcome.DeviceCall.TheVariants as device
use Rattle.sim_rules.specs.Cases.{IsPossible}
use Rattle.schedule_sim.specs.Noting.{IsPlanned}
use Rattle.schedule_sim.proofs.TracedCalls.{HasOneMore, came, counted_on, either_way, still_planned, uses_plan, where_err, where_ok}
use Rattle.schedule_sim.proofs.traced.TracedDisk.sync.Goals as goal

one_more : {new old : List Files} (files : Files) → new ≡ files ∷ old → HasOneMore new old
one_more files is = record { files = files; is = is }

pub invariant_of-self : goal.invariant_of-self
invariant_of-self c =
    let old = c.args.self.now in
    let states = memory_states old.disk in
    let answer = c.sync-answer.result in
    let disk = c.sync-answer.new.self in
    let made = c.sync-answer.ensures in
    let possible : IsPossible (now states) (device.Sync c.args.file) = record { file = c.requires; place = tt; bytes = λ i. omega arith } in
    let grown : HasOneMore (memory_states disk) states = either_way answer (where_ok answer (λ is. one_more _ is) made.synced) (where_err answer (λ is. one_more _ is) made.same) in
    record {
      planned = subst (λ plan. IsPlanned c.note.new.fill plan) (sym made.plan.plan)
          (c.note.ensures.planned (passed (planned_of old.disk)) (still_planned old.fill (planned_of old.disk) old.planned)
          (λ long. uses_plan old.disk disk answer made.plan (sym c.is_short-is_short.ensures ∙ long)));
      tied = c.note.ensures.tied (memory_states disk)
          (λ long. came old.disk disk answer old.fill (device.Sync c.args.file) possible made.plan old.planned (sym c.is_short-is_short.ensures ∙ long) made.synced
          (where_err answer (λ same due is. same) made.same));
      counted = counted_on old.calls c.one_more-self.result (memory_states disk) states c.one_more-self.ensures grown old.counted;
    }
