use Rattle.std.proofs.Common.{rules, ◌≡◌, ℕ, List, ◌∷◌, length, false, OnOk, sym, ◌∙◌, subst, arith}
use Rattle.disk_model.specs.Files.{AreBytes, Files, now, with_file, written}
use Rattle.disk_model.specs.declared.fill.Fill.{Fill}
use Rattle.disk_model.specs.Fills.{torn}
use Rattle.disk_model.specs.Memory.{is_short, memory_states, planned_of}
use Rattle.disk_model.specs.Plans.{due_of, passed}
use Rattle.sim_rules.specs.declared.outcome.DeviceCall.TheVariants as device
use Rattle.sim_rules.specs.Cases.{IsPossible}
use Rattle.schedule_sim.specs.Noting.{IsPlanned}
use Rattle.schedule_sim.proofs.TracedCalls.{HasOneMore, came, counted_on, either_way, still_planned, uses_plan, where_err, where_ok, write_lost}
use Rattle.schedule_sim.proofs.traced.TracedDisk.write_at.Goals as goal

one_more : {new old : List Files} (files : Files) → new ≡ files ∷ old → HasOneMore new old
one_more files is = record { files = files; is = is }

pub invariant_of-self-in-Err : goal.invariant_of-self-in-Err
invariant_of-self-in-Err c =
    let old = c.args.self.now in
    let states = memory_states old.disk in
    let answer = c.write_at-answer.result in
    let disk = c.write_at-answer.new.self in
    let made = c.write_at-answer.ensures in
    let grown : HasOneMore (memory_states disk) states = either_way answer (where_ok answer (λ is. one_more _ is) made.written) (where_err answer (λ t. one_more _ t.2) made.torn) in
    record {
      planned = subst (λ plan. IsPlanned old.fill plan) (sym made.plan.plan) (still_planned old.fill (planned_of old.disk) old.planned);
      tied = tt;
      counted = counted_on old.calls c.one_more-self.result (memory_states disk) states c.one_more-self.ensures grown old.counted;
    }

pub invariant_of-self : goal.invariant_of-self
invariant_of-self c =
    let old = c.args.self.now in
    let states = memory_states old.disk in
    let answer = c.write_at-answer.result in
    let disk = c.write_at-answer.new.self in
    let made = c.write_at-answer.ensures in
    let copy = c.in-Ok.bytes in
    let call = device.Write c.args.file c.args.at copy in
    let same : c.args.bytes.now ≡ copy.items = search rules in
    let long : c.is_short-is_short.result ≡ false → is_short disk ≡ false = λ e. sym c.is_short-is_short.ensures ∙ e in
    let bytes : AreBytes c.args.bytes.now = λ i. omega (arith, c.type_inv.bytes i) in
    let possible : IsPossible (now states) call = record { file = c.requires.file; place = c.requires.place tt; bytes = subst AreBytes same bytes } in
    let left : List ℕ → Fill → List Files = λ bs due. with_file c.args.file (torn due c.args.file c.args.at bs (now states c.args.file)) (now states) ∷ states in
    let grown : HasOneMore (memory_states disk) states = either_way answer (where_ok answer (λ is. one_more _ is) made.written) (where_err answer (λ t. one_more _ t.2) made.torn) in
    record {
      planned = subst (λ plan. IsPlanned c.note.new.fill plan) (sym made.plan.plan)
          (c.note.ensures.planned (passed (planned_of old.disk)) (still_planned old.fill (planned_of old.disk) old.planned) (λ e. uses_plan old.disk disk answer made.plan (long e)));
      tied = c.note.ensures.tied (memory_states disk)
          (λ e. came old.disk disk answer old.fill call possible made.plan old.planned (long e)
          (subst (λ bs. OnOk answer (memory_states disk ≡ with_file c.args.file (written c.args.at bs (now states c.args.file)) (now states) ∷ states)) same made.written)
          (where_err answer (λ any due is. subst (λ bs. memory_states disk ≡ left bs due) same
          (write_lost old.disk disk c.args.file c.args.at c.args.bytes.now (due_of (planned_of old.disk)) due (left c.args.bytes.now) (long e) made.failed is)) made.torn));
      counted = counted_on old.calls c.one_more-self.result (memory_states disk) states c.one_more-self.ensures grown old.counted;
    }
