use Rattle.std.proofs.Common.{subst}
use Rattle.ticket_order.specs.declared.record.Asked.TheVariants.{Changing}
use Rattle.stripe_locks.specs.declared.stripes.Stripes.{Stripes}
use Rattle.stripe_locks.specs.Passes.{recorded, stripe_count}
use Rattle.durable_map.specs.Durable.{Begins}
use Rattle.durable_map.proofs.Refusing.{change_ends_so}
use Rattle.durable_map.proofs.map.DurableMap.begin_change.Goals as goal

pub returns-clause-begins : goal.returns-clause-begins
returns-clause-begins g c =
    let t = c.call in
    subst (λ (s : Stripes). Begins (stripe_count s) (recorded c.args.pass.now) (Changing c.args.command) t.result (recorded t.new.pass)) c.deref.ensures (change_ends_so _ _ _ _ t.result t.ensures.made t.ensures.refused)
