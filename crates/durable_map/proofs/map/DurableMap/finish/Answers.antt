use Rattle.std.proofs.Common.{rules, ◌∙◌, ℕ, refl, subst}
use Rattle.stripe_locks.specs.Passes.{recorded}
use Rattle.durable_map.specs.Durable.{EndsDurable, EndsFailed}
use Rattle.durable_map.proofs.Growing.{ends_after, failed, fails_after, goes_on, missed, released}
use Rattle.durable_map.proofs.map.DurableMap.finish.Goals as goal

pub loop-turn-preserved : goal.loop-turn-preserved
loop-turn-preserved g c =
    let turn = c.loop-turn.invariant in
    let r = c.in-NotYet.ensures.released in
    record {
      next = search rules;
      finite = search rules;
      own = search rules;
      same = search rules;
      beside = goes_on _ _ _ turn.beside (missed _ _ _ _ r.2);
      held = search rules;
      position_is = r.0 ∙ turn.position_is;
      reply_is = r.1 ∙ turn.reply_is;
    }

pub returns-in-Reply-clause-finishes : goal.returns-in-Reply-clause-finishes
returns-in-Reply-clause-finishes g c =
    let turn = c.loop-turn.invariant in
    let r = c.in-Reply.ensures.released in
    let k = released _ _ _ r.2 in
    record {
      beside = goes_on _ _ _ turn.beside k.0;
      ends = (
        r.1 ∙ turn.reply_is,
        subst (λ (p : ℕ). EndsDurable (recorded c.args.pass.now) p (recorded c.release.new.pass)) turn.position_is (ends_after _ _ _ _ turn.beside.goes_on.beside.made turn.beside.goes_on.beside.steps k.1),
      );
    }

pub returns-in-Reply-clause-ready : goal.returns-in-Reply-clause-ready
returns-in-Reply-clause-ready g c =
    let turn = c.loop-turn.invariant in
    let k = released _ _ _ c.in-Reply.ensures.released.2 in
    let beside = goes_on _ _ _ turn.beside k.0 in
    record { own = search rules; free = beside.holding ∙ c.requires.ready.free }

pub returns-in-Failed-clause-finishes : goal.returns-in-Failed-clause-finishes
returns-in-Failed-clause-finishes g c =
    let turn = c.loop-turn.invariant in
    let k = failed _ _ _ c.in-Failed.ensures.released in
    record {
      beside = goes_on _ _ _ turn.beside k.0;
      ends = (
        refl,
        subst (λ (p : ℕ). EndsFailed (recorded c.args.pass.now) p (recorded c.release.new.pass)) turn.position_is (fails_after _ _ _ _ turn.beside.goes_on.beside.made turn.beside.goes_on.beside.steps k.1),
      );
    }

pub returns-in-Failed-clause-ready : goal.returns-in-Failed-clause-ready
returns-in-Failed-clause-ready g c =
    let turn = c.loop-turn.invariant in
    let k = failed _ _ _ c.in-Failed.ensures.released in
    let beside = goes_on _ _ _ turn.beside k.0 in
    record { own = search rules; free = beside.holding ∙ c.requires.ready.free }
