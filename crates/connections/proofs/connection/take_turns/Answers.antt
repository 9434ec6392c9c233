use Rattle.std.proofs.Common.{refl, sym, ◌∙◌, arith}
use Rattle.std.proofs.lemmas.Result.{err_from_is_err_and}
use Rattle.connections.proofs.Driven.{drives_none, drives_on, drives_fails, drives_done}
use Rattle.connections.proofs.Owning.{owns_none}
use Rattle.connections.proofs.connection.take_turns.Goals as goal

pub turns-init : goal.turns-init
turns-init g c =
    (drives_none g.C.Calls.began g.C.Calls.finished g.C.Calls.gave_up _ _ _, c.requires.idle, c.requires.unsent, c.requires.stage, c.requires.room, refl)

pub answer_all-requires : goal.answer_all-requires
answer_all-requires g c =
    record { unsent = c.begin.ensures.unsent ∙ c.turns.invariant.2; owned = c.begin.ensures.owned (owns_none g.C.Calls.owns _ _ c.turns.invariant.1) }

pub returns-then-is_idle-clause-turned : goal.returns-then-is_idle-clause-turned
returns-then-is_idle-clause-turned g c =
    let before = c.turns.invariant in
    let none = c.is_idle.ensures.idle c.if-is_idle.true in
    drives_done g.C.Calls.began g.C.Calls.finished g.C.Calls.gave_up _ _ _ _ _ _ _ _ before.0 c.begin.ensures.grew before.1 none (c.begin.ensures.unsent ∙ before.2) (λ h. before.3 (sym c.begin.ensures.stage ∙ h)) c.begin.ensures.stage (λ opened on. c.begin.ensures.partial on before.1 before.4 none opened)

pub returns-in_err-answer_all-clause-turned : goal.returns-in_err-answer_all-clause-turned
returns-in_err-answer_all-clause-turned g c =
    let from = err_from_is_err_and c.from_residual.result c.from_residual.ensures.1 in
    rw from.1 (drives_fails g.C.Calls.began g.C.Calls.finished g.C.Calls.gave_up _ _ _ _ _ _ _ _ _ _ c.turns.invariant.0 c.begin.ensures.grew c.in_err-answer_all.ensures.answered)

pub turns-preserved : goal.turns-preserved
turns-preserved g c =
    let before = c.turns.invariant in
    let all = c.in_ok-answer_all.ensures.answered in
    (drives_on g.C.Calls.began g.C.Calls.finished g.C.Calls.gave_up _ _ _ _ _ _ _ _ _ _ _ before.0 c.begin.ensures.grew all.0, all.1, all.2, c.in_ok-answer_all.ensures.stage (λ h. before.3 (sym c.begin.ensures.stage ∙ h)), omega (arith, before.4, c.in_ok-answer_all.ensures.capacity, c.begin.ensures.capacity), c.in_ok-answer_all.ensures.capacity ∙ c.begin.ensures.capacity ∙ before.5)

pub turns-smaller : goal.turns-smaller
turns-smaller g c =
    rw c.in_ok-answer_all.ensures.feeder (c.begin.ensures.fewer c.turns.invariant.1 (c.is_idle.ensures.busy c.if-is_idle.false))
