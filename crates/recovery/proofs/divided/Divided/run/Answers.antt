use Rattle.std.proofs.Common.{◌≡◌, ◌≤◌, ◌++◌, false, List, length, take, drop, sym, ap, subst, ◌∙◌, arith}
use Rattle.std.proofs.lemmas.List.{take-append-le, take_all}
use Rattle.std.specs.List.{AllByRecursion}
use Rattle.recovery.specs.declared.lanes.Lane.{Lane}
use Rattle.recovery.specs.Lanes.{AreLanesOf, RunsAll}
use Rattle.recovery.proofs.LaneLemmas.{IsDone, all_done, all_run}
use Rattle.recovery.proofs.divided.Divided.run.Given.{Over}
use Rattle.recovery.proofs.divided.Divided.run.Goals as goal

ran : (g : Over) (c : goal.Else-is_any_refused g) → RunsAll c.args.self.now.lanes.items c.run_each.new.arg2
ran g c = subst (λ (old : List Lane). RunsAll old c.run_each.new.arg2) c.deref_mut.ensures.value (c.requires.runs _ _ c.run_each.ensures)

-- the vector has the lanes as they are left
left : (g : Over) (c : goal.Else-is_any_refused g)
    → take c.args.self.now.lanes.len (c.run_each.new.arg2 ++ drop (length c.run_each.new.arg2) c.args.self.now.lanes.items) ≡ c.run_each.new.arg2
left g c =
    let new : List Lane = c.run_each.new.arg2 in
    let rest : List Lane = drop (length new) c.args.self.now.lanes.items in
    let size : length new ≤ c.args.self.now.lanes.len = omega (arith, (ran g c).len, c.deref_mut.ensures.len, ap length c.deref_mut.ensures.value) in
    let more : c.args.self.now.lanes.len ≤ length new = omega (arith, (ran g c).len, c.deref_mut.ensures.len, ap length c.deref_mut.ensures.value) in
    take-append-le c.args.self.now.lanes.len new rest more ∙ take_all c.args.self.now.lanes.len new size

unrefused : (g : Over) (c : goal.Else-is_any_refused g) → AllByRecursion (λ (lane : Lane). lane.is_refused ≡ false) c.run_each.new.arg2
unrefused g c = subst (AllByRecursion (λ (lane : Lane). lane.is_refused ≡ false)) (c.deref.ensures.value ∙ left g c) (c.is_any_refused.ensures c.if-is_any_refused.false)

pub returns-clause-ok : goal.returns-clause-ok
returns-clause-ok g c = λ m are.
    let old : List Lane = c.args.self.now.lanes.items in
    subst (AreLanesOf c.args.self.now.stripes.count m) (sym (left g c))
    (all_run c.args.self.now.stripes.count m old c.run_each.new.arg2 (ran g c).len (unrefused g c) (ran g c).each are)

pub returns-clause-none : goal.returns-clause-none
returns-clause-none g c =
    let old : List Lane = c.args.self.now.lanes.items in
    subst (AllByRecursion IsDone) (sym (left g c)) (all_done old c.run_each.new.arg2 (ran g c).len (unrefused g c) (ran g c).each)
