use Rattle.std.proofs.Common.{◌≡◌, ℕ, ◌≤◌, ◌<◌, length, refl, sym, ◌∙◌, subst}
use Rattle.ticket_order.specs.Records.{IsWithin}
use Rattle.ticket_order.specs.Walks.{Fits, ToChange}
use Rattle.schedule_sim.proofs.Workers.{change_did, change_refused, change_skipped, limit_there, pass_there}
use Rattle.schedule_sim.proofs.life.Life.change.Goals as goal

pub returns-then-not-is_idle : goal.returns-then-not-is_idle
returns-then-not-is_idle c w a = change_skipped c.fits_of_workers.ensures.change w _ _ _ a (c.is_idle.ensures.busy c.if-not-is_idle.true)

pub key_limit-requires : goal.key_limit-requires
key_limit-requires c =
    pass_there c.requires.0 _ c.args.self.now.words _ c.args.worker c.requires.1 (c.is_idle.ensures.idle c.if-not-is_idle.false).0

pub returns-then-is_above : goal.returns-then-is_above
returns-then-is_above c w a =
    let idle = c.is_idle.ensures.idle c.if-not-is_idle.false in
    let limit = c.key_limit.ensures ∙ limit_there w _ c.args.self.now.words _ c.args.worker a idle.0 in
    change_refused c.beginnings_of_walks.ensures.turned_down w c.args.worker c.args.command.now _ a idle
    (subst (λ (z : ℕ). z < length c.args.command.now.key) limit (c.is_above.ensures.above c.if-is_above.true))

pub returns : goal.returns
returns c w a =
    let idle = c.is_idle.ensures.idle c.if-not-is_idle.false in
    let limit = c.key_limit.ensures ∙ limit_there w _ c.args.self.now.words _ c.args.worker a idle.0 in
    change_did c.beginnings_of_walks.ensures.change c.laws_of_lives.ensures.workers w _ _ _ c.args.worker c.args.command.now _ _ a idle
    (subst (λ (z : ℕ). length c.args.command.now.key ≤ z) limit (c.is_above.ensures.within c.if-is_above.false))
    (λ n p free. subst (λ v. IsWithin p.opening.key_limit v → Fits n p (ToChange v) c.change-walk.result p) c.in_ok-copied_command.ensures (c.change-walk.ensures n p free)) refl refl refl
