use Rattle.std.proofs.Common.{◌≡◌, ◌≢◌, Some, None, ap, ◌∙◌, refl, sym, rules}
use Rattle.store_layout.specs.declared.log_phase.Phase.TheVariants.{Idle}
use Rattle.flusher.specs.declared.keeper.Keeper.{Keeper}
use Rattle.flusher.proofs.Committing.{stops_by}
use Rattle.flusher.proofs.NewestSteps.{fits_logged, log_at_moments, log_may}
use Rattle.flusher.proofs.EndSteps.{fits_ended, next_at_moments}
use Rattle.flusher.proofs.HeaderSteps.{fits_headed}
use Rattle.flusher.proofs.Advancing.{count_after, logged_moments, same_hand, same_next, still_moments}
use Rattle.flusher.proofs.keeper.Keeper.advance.Goals as goal

pub returns-then-self-clause-any_moment : goal.returns-then-self-clause-any_moment
returns-then-self-clause-any_moment g c = λ n done p f h.
    still_moments g.D.Disk.states c.args.self.now.disk c.args.self.now.disk _ refl (stops_by g.D.Disk.states g.D.Disk.honest n done c.args.self.now p c.stops_of_a_store.ensures.rests f h)

pub step_log-requires-clause-stands : goal.step_log-requires-clause-stands
step_log-requires-clause-stands g c = log_may g.D.Disk.states g.D.Disk.honest c.requires.0 c.requires.1 c.args.self.now c.requires.2 c.requires.3 c.if-self.false

pub returns-in-None-clause-any_moment : goal.returns-in-None-clause-any_moment
returns-in-None-clause-any_moment g c = λ n done p f h.
    let e = c.step_log.ensures in
    logged_moments g.D.Disk.states g.D.Disk.failures g.D.Disk.honest n done c.args.self.now c.step_log.new.self p c.step_log.result c.stops_of_a_store.ensures.rests c.stops_of_a_store.ensures.log f c.if-self.false h
    (λ is. ((e.rests is).0, ap (λ (k : Keeper g.row.D.Denot). k.disk) (e.rests is).1)) e.advances

pub returns-in-None-clause-fits : goal.returns-in-None-clause-fits
returns-in-None-clause-fits g c = λ n done p f.
    let e = c.step_log.ensures in
    let old = c.args.self.now in
    let new = c.step_log.new.self in
    let alone : old.next ≡ None = search rules in
    let gone : c.take.new.self ≡ None = search rules in
    let as_was : record old { next = c.take.new.self } ≡ old = ap (λ o. let k : Keeper g.row.D.Denot = record old { next = o } in k) (gone ∙ sym alone) in
    fits_logged g.D.Disk.states g.D.Disk.failures g.D.Disk.honest n done old new p c.step_log.result c.steps_of_logs.ensures.log c.stops_of_a_store.ensures.log f (record {
      same = same_next old new c.take.new.self e.same;
      works = c.if-self.false;
      alone = alone;
      still = ap (λ (k : Keeper g.row.D.Denot). k.next) e.same ∙ gone;
      rests = λ is. ((e.rests is).0, (e.rests is).1 ∙ as_was);
      advances = e.advances;
      hand = e.hand;
      works_on = e.ok;
      kept = e.err;
    })

pub returns-in-None-clause-committed : goal.returns-in-None-clause-committed
returns-in-None-clause-committed g c =
    let r = c.requires in
    count_after g.D.Disk.states g.D.Disk.honest r.0 r.1 c.args.self.now c.step_log.new.self r.2 c.step_log.result r.3 (returns-in-None-clause-fits g c r.0 r.1 r.2 r.3)

pub returns-then-eq-clause-any_moment : goal.returns-then-eq-clause-any_moment
returns-then-eq-clause-any_moment g c = λ n done p f h.
    log_at_moments g.D.Disk.states g.D.Disk.failures g.D.Disk.honest n done c.args.self.now c.step_end.ensures.advances.0 c.step_end.new.self.disk p c.step_end.result c.stops_of_a_store.ensures.log f c.if-self.false h c.step_end.ensures.advances.1

pub returns-then-eq-clause-fits : goal.returns-then-eq-clause-fits
returns-then-eq-clause-fits g c = λ n done p f.
    let e = c.step_end.ensures in
    let old = c.args.self.now in
    let new = c.step_end.new.self in
    let there : old.next ≡ Some c.in-Some.next = search rules in
    let idle : c.in-Some.next.phase ≡ Idle = search rules in
    fits_ended g.D.Disk.states g.D.Disk.failures g.D.Disk.honest n done old new p c.in-Some.next c.step_end.result c.steps_of_logs.ensures.end c.steps_of_logs.ensures.ends c.stops_of_a_store.ensures.log f (record {
      same = same_hand old new e.same;
      works = c.if-self.false;
      next_is = there;
      idle = idle;
      sweeper = ap (λ (k : Keeper g.row.D.Denot). k.sweeper) e.same;
      staged = ap (λ (k : Keeper g.row.D.Denot). k.staged) e.same;
      log = e.advances.0;
      advances = e.advances.1;
      ok = e.ok;
      err = e.err;
    })

pub returns-then-eq-clause-committed : goal.returns-then-eq-clause-committed
returns-then-eq-clause-committed g c =
    let r = c.requires in
    count_after g.D.Disk.states g.D.Disk.honest r.0 r.1 c.args.self.now c.step_end.new.self r.2 c.step_end.result r.3 (returns-then-eq-clause-fits g c r.0 r.1 r.2 r.3)

pub returns-else-eq-clause-any_moment : goal.returns-else-eq-clause-any_moment
returns-else-eq-clause-any_moment g c = λ n done p f h.
    let a = c.step_next.ensures.advances in
    let there : c.args.self.now.next ≡ Some c.in-Some.next = search rules in
    let moves : c.in-Some.next.phase ≢ Idle = search rules in
    next_at_moments g.D.Disk.states g.D.Disk.failures g.D.Disk.honest n done c.args.self.now c.in-Some.next a.0 c.step_next.new.self.disk p a.1 c.stops_of_a_store.ensures.next f c.if-self.false there moves h a.3

pub returns-else-eq-clause-fits : goal.returns-else-eq-clause-fits
returns-else-eq-clause-fits g c = λ n done p f.
    let e = c.step_next.ensures in
    let a = e.advances in
    let old = c.args.self.now in
    let new = c.step_next.new.self in
    let there : old.next ≡ Some c.in-Some.next = search rules in
    let moves : c.in-Some.next.phase ≢ Idle = search rules in
    fits_headed g.D.Disk.states g.D.Disk.failures g.D.Disk.honest n done old new p c.in-Some.next a.0 a.1 c.step_next.result c.steps_of_logs.ensures.next c.steps_of_logs.ensures.ready c.stops_of_a_store.ensures.next f (record {
      same = same_hand old new e.same;
      works = c.if-self.false;
      next_is = there;
      moves = moves;
      sweeper = ap (λ (k : Keeper g.row.D.Denot). k.sweeper) e.same;
      staged = ap (λ (k : Keeper g.row.D.Denot). k.staged) e.same;
      follows = a.2;
      advances = a.3;
      told = a.4;
      stands = e.stands;
      ok = e.ok;
      err = e.err;
    })

pub returns-else-eq-clause-committed : goal.returns-else-eq-clause-committed
returns-else-eq-clause-committed g c =
    let r = c.requires in
    count_after g.D.Disk.states g.D.Disk.honest r.0 r.1 c.args.self.now c.step_next.new.self r.2 c.step_next.result r.3 (returns-else-eq-clause-fits g c r.0 r.1 r.2 r.3)
