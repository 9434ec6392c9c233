use Rattle.std.proofs.Common.{rules, ◌≡◌, ◌++◌, ◌∷◌, []}
use Rattle.ticket_order.specs.declared.record.Asked.TheVariants.{Reading}
use Rattle.ticket_order.specs.Records.{call}
use Rattle.stripe_locks.specs.Passes.{recorded, IsPassOf}
use Rattle.stripe_locks.proofs.Misses.{held_of}
use Rattle.stripe_locks.proofs.stripes.Stripes.read_on.Goals as goal

pub returns-clause-held : goal.returns-clause-held
returns-clause-held c =
    let before = c.requires.found.0 in
    let made = c.in_ok-held.ensures.answered before c.requires.found.1 in
    let added = made.grew in
    let own : IsPassOf c.args.self.now c.of-maker.result.value = search rules in
    let grew : (recorded c.of-maker.result.value).calls ≡ before.calls ++ call c.in_ok-held.held.position (Reading c.args.read) c.in_ok-held.held.reply ∷ [] = search rules in
    held_of _ _ (Reading c.args.read) before own grew
