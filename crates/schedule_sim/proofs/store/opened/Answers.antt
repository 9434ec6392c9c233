use Rattle.std.proofs.Common.{◌≡◌, ◌+◌, ℕ, List, length, IfOk, Result, Ok, Err, sym, subst, ◌∙◌, ap}
use Rattle.disk_model.specs.Files.{Files, now}
use Rattle.sim_rules.specs.World.{World}
use Rattle.schedule_sim.specs.declared.traced.Traced.{Traced}
use Rattle.schedule_sim.specs.Storing.{IsClosed}
use Rattle.schedule_sim.specs.Tracing.{traced_states}
use Rattle.schedule_sim.proofs.store.opened.Goals as goal

if_ok : {A B : Type 0} (r : Result A B) (P Q : A → Type 0) → ((x : A) → P x → Q x) → IfOk r P → IfOk r Q
if_ok (Ok x) P Q f p = f x p
if_ok (Err e) P Q f p = p

-- a plan changes no file
planned : (w : World) (least : ℕ) (old new : Traced) → traced_states new ≡ traced_states old → IsClosed w least old → IsClosed w least new
planned w least old new same closed = record { life = closed.life; files = closed.files ∙ ap now (sym same); reached = closed.reached; stops = closed.stops }

pub returns-else-names_within-clause-did : goal.returns-else-names_within-clause-did
returns-else-names_within-clause-did c = if_ok c.begun.result _ _ (λ x did w least closed. did w least c.args.fails_at c.plan_opening.new.disk
    (sym c.names_within.ensures ∙ c.if-names_within.false) (c.in_ok-calls-in-Ok.ensures (traced_states c.plan_opening.new.disk) c.calls-before.ensures) (c.in-Ok.ensures.made tt) c.in-Ok.ensures.calls (c.in-Ok.ensures.ok tt).1
    (planned w least c.args.disk c.plan_opening.new.disk c.plan_opening.ensures closed)) c.begun.ensures.did

pub returns-else-names_within-clause-told : goal.returns-else-names_within-clause-told
returns-else-names_within-clause-told c = c.begun.ensures.told c.args.disk
    (subst (λ (states : List Files). length states + c.in_ok-calls-in-Ok.calls ≡ length (traced_states c.in-Ok.keeper.disk)) c.plan_opening.ensures
    (c.in_ok-calls-in-Ok.ensures (traced_states c.plan_opening.new.disk) c.calls-before.ensures))

pub returns-in_ok-calls-in-Err-clause-did : goal.returns-in_ok-calls-in-Err-clause-did
returns-in_ok-calls-in-Err-clause-did c = if_ok c.refused.result _ _ (λ x did w least closed. did w least c.args.stripes c.plan_opening.new.disk
    (c.in_ok-calls-in-Err.ensures (traced_states c.plan_opening.new.disk) c.calls-before.ensures) (c.in-Err.ensures.tried tt) c.in-Err.ensures.stopped (c.in-Err.ensures.err tt).1
    (planned w least c.args.disk c.plan_opening.new.disk c.plan_opening.ensures closed)) c.refused.ensures.did

pub returns-in_ok-calls-in-Err-clause-told : goal.returns-in_ok-calls-in-Err-clause-told
returns-in_ok-calls-in-Err-clause-told c = c.refused.ensures.told c.args.disk
    (subst (λ (states : List Files). length states + c.in_ok-calls-in-Err.calls ≡ length (traced_states c.in-Err.disk)) c.plan_opening.ensures
    (c.in_ok-calls-in-Err.ensures (traced_states c.plan_opening.new.disk) c.calls-before.ensures))
