use Rattle.std.proofs.Common.{◌≡◌, ◌≢◌, ◌⊎◌, ℕ, ◌+◌, ◌<◌, ◌^◌, arith, sym, ap, subst, ◌∙◌}
use Rattle.std.proofs.lemmas.Result.{err_from_is_err_and}
use Rattle.map_types.specs.declared.refusals.Refusal.TheVariants.{Failed, WrongPhase}
use Rattle.one_history.specs.Turns.{record_of}
use Rattle.flusher.specs.Rotating.{Logs}
use Rattle.gate_log.specs.States.{IsResting}
use Rattle.checkpoint_walk.specs.Checkpointing.{MayBegin}
use Rattle.recovery.proofs.GateClosing.{on_ok, on_ok2}
use Rattle.recovery.proofs.OpeningLemmas.{if_err}
use Rattle.recovery.proofs.RefusedBehind.{behind_rotation, behind_seal}
use Rattle.recovery.proofs.Unmoved.{through}
use Rattle.recovery.proofs.Rotation.{is_after}
use Rattle.recovery.proofs.upgrading.rotate_sealed.Goals as goal

pub returns-then-generation-keeper-clause-rotated : goal.returns-then-generation-keeper-clause-rotated
returns-then-generation-keeper-clause-rotated g c =
    let b = c.args.steps.now.words.now in
    let p = record_of c.args.steps.now.pass b in
    on_ok2 _ _ _ c.rotate.result (λ unmoved rotated o is either. ((b.stripes, p, unmoved b.stripes o p is.unmoved), rotated (sym c.generation.ensures ∙ c.if-generation-keeper.true))) c.rotate.ensures.unmoved c.rotate.ensures.rotated

pub rotate-requires-2 : goal.rotate-requires-2
rotate-requires-2 g c =
    let b = c.seal_checkpoint.new.steps.words.now in
    let o = c.requires.unmoved.0 in
    (b.stripes, o, record_of c.seal_checkpoint.new.steps.pass b, (c.in_ok-seal_checkpoint.ensures.unmoved o c.requires.unmoved.1).unmoved)

pub returns-clause-stands : goal.returns-clause-stands
returns-clause-stands g c = λ o is.
    let b = c.seal_checkpoint.new.steps.words.now in
    through g.D.Disk.states g.D.Disk.honest o.first o.map c.args.keeper.now.disk c.seal_checkpoint.new.keeper.disk c.rotate-2.new.keeper.disk (c.seal_checkpoint.ensures.stands o is)
    (c.rotate-2.ensures.stands b.stripes o (record_of c.seal_checkpoint.new.steps.pass b) (c.in_ok-seal_checkpoint.ensures.unmoved o is).unmoved)

pub returns-clause-rotated : goal.returns-clause-rotated
returns-clause-rotated g c =
    let b = c.seal_checkpoint.new.steps.words.now in
    let p = record_of c.seal_checkpoint.new.steps.pass b in
    let same : c.seal_checkpoint.new.keeper.log.generation ≡ c.args.keeper.now.log.generation = ap (λ (l : Logs). l.newest.generation) c.seal_checkpoint.ensures.logs in
    on_ok2 _ _ _ c.rotate-2.result (λ unmoved rotated o is either. (
      (b.stripes, p, unmoved b.stripes o p (c.in_ok-seal_checkpoint.ensures.unmoved o is).unmoved),
      rotated (same ∙ is_after _ _ either (λ e. c.if-generation-keeper.false (c.generation.ensures ∙ e)) ∙ sym c.in_ok-seal_checkpoint.ensures.sealed.0),
    )) c.rotate-2.ensures.unmoved c.rotate-2.ensures.rotated

pub returns-then-generation-keeper-clause-err : goal.returns-then-generation-keeper-clause-err
returns-then-generation-keeper-clause-err g c =
    let k = c.args.keeper.now in
    let same : k.log.generation ≡ k.sealed = sym c.generation.ensures ∙ c.if-generation-keeper.true in
    let F : Type 0 = g.D.Disk.failures c.rotate.new.keeper.disk ≡ g.D.Disk.failures k.disk + 1 in
    if_err (λ e. ((e ≡ Failed) × F) ⊎ ((e ≡ WrongPhase) × (MayBegin k → ⊥))) _ c.rotate.result
    (λ e refused o is. behind_rotation F F (MayBegin k) _ k.stripes.count o.map k.log.generation k.sealed e (λ failing. failing)
    (λ never rests either below. never (record { none_runs = c.requires.none_runs.1; no_rotation = c.requires.none_runs.0; fits = subst (λ (n : ℕ). n + 1 < 2 ^ 64) same below; rests = λ x. rests })) refused) c.rotate.ensures.err

pub returns-in_err-seal_checkpoint-clause-err : goal.returns-in_err-seal_checkpoint-clause-err
returns-in_err-seal_checkpoint-clause-err g c =
    let k = c.args.keeper.now in
    let other : k.log.generation ≢ k.sealed = λ e. c.if-generation-keeper.false (c.generation.ensures ∙ e) in
    let q = err_from_is_err_and c.from_residual.result c.from_residual.ensures.1 in
    rw (q.1, q.2) (λ o is.
    behind_seal _ _ k.stripes.count o.map k.log.generation k.sealed c.in_err-seal_checkpoint.field-0.0 other
    (λ last rests either below. last (subst (λ (n : ℕ). n < 2 ^ 64) (c.generation.ensures ∙ is_after _ _ either other) (omega (arith, c.generation.type_inv)))) (c.in_err-seal_checkpoint.ensures.err o is))

pub returns-clause-err : goal.returns-clause-err
returns-clause-err g c =
    let failures = g.D.Disk.failures in
    let k = c.args.keeper.now in
    let k1 = c.seal_checkpoint.new.keeper in
    let k2 = c.rotate-2.new.keeper in
    let other : k.log.generation ≢ k.sealed = λ e. c.if-generation-keeper.false (c.generation.ensures ∙ e) in
    let ok = c.in_ok-seal_checkpoint.ensures in
    let logs = c.seal_checkpoint.ensures.logs in
    if_err (λ e. ((e ≡ Failed) × (failures k2.disk ≡ failures k1.disk + 1)) ⊎ ((e ≡ WrongPhase) × (MayBegin k1 → ⊥))) _ c.rotate-2.result
    (λ e refused o is. behind_rotation (failures k2.disk ≡ failures k1.disk + 1) (failures k2.disk ≡ failures k.disk + 1) (MayBegin k1) _ k.stripes.count o.map k.log.generation k.sealed e (λ failing. failing ∙ ap (λ (n : ℕ). n + 1) ok.counted)
    (λ never rests either below. never (record {
      none_runs = ok.sealed.1;
      no_rotation = ap (λ (l : Logs). l.next) logs ∙ c.requires.none_runs.0;
      fits = subst (λ (n : ℕ). n + 1 < 2 ^ 64) (is_after _ _ either other ∙ sym ok.sealed.0) below;
      rests = λ x. subst IsResting (sym (ap (λ (l : Logs). l.newest) logs)) rests;
    })) refused) c.rotate-2.ensures.err

pub returns-in_err-seal_checkpoint-clause-unfailing : goal.returns-in_err-seal_checkpoint-clause-unfailing
returns-in_err-seal_checkpoint-clause-unfailing g c =
    let q = err_from_is_err_and c.from_residual.result c.from_residual.ensures.1 in
    rw (q.1, q.2) c.in_err-seal_checkpoint.ensures.unfailing

pub returns-clause-counted : goal.returns-clause-counted
returns-clause-counted g c = on_ok _ _ c.rotate-2.result (λ none. none ∙ c.in_ok-seal_checkpoint.ensures.counted) c.rotate-2.ensures.counted

pub returns-clause-unfailing : goal.returns-clause-unfailing
returns-clause-unfailing g c =
    let failures = g.D.Disk.failures in
    let k2 = c.rotate-2.new.keeper.disk in
    let k1 = c.seal_checkpoint.new.keeper.disk in
    if_err (λ e. e ≢ Failed → failures k2 ≡ failures k1) _ c.rotate-2.result (λ e none other. none other ∙ c.in_ok-seal_checkpoint.ensures.counted) c.rotate-2.ensures.unfailing

pub returns-then-generation-keeper-clause-kept : goal.returns-then-generation-keeper-clause-kept
returns-then-generation-keeper-clause-kept g c = on_ok _ _ c.rotate.result (λ same at. same) c.rotate.ensures.stripes

pub returns-then-generation-keeper-clause-stripes : goal.returns-then-generation-keeper-clause-stripes
returns-then-generation-keeper-clause-stripes g c =
    on_ok _ _ c.rotate.result (λ same h other. absurd (other (sym c.generation.ensures ∙ c.if-generation-keeper.true))) c.rotate.ensures.stripes

pub returns-clause-kept : goal.returns-clause-kept
returns-clause-kept g c =
    on_ok _ _ c.rotate-2.result (λ same at. absurd (c.if-generation-keeper.false (c.generation.ensures ∙ at))) c.rotate-2.ensures.stripes

pub returns-clause-stripes : goal.returns-clause-stripes
returns-clause-stripes g c =
    let first = c.requires.unmoved in
    let b = c.seal_checkpoint.new.steps.words.now in
    let was = (c.rotate-2.ensures.stands b.stripes first.0 (record_of c.seal_checkpoint.new.steps.pass b) (c.in_ok-seal_checkpoint.ensures.unmoved first.0 first.1).unmoved).was_honest in
    on_ok _ _ c.rotate-2.result (λ same h other. same ∙ c.in_ok-seal_checkpoint.ensures.stripes (was h)) c.rotate-2.ensures.stripes
