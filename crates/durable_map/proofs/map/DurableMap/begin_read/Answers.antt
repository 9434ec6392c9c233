use Rattle.std.proofs.Common.{subst}
use Rattle.ticket_order.specs.declared.record.Asked.TheVariants.{Reading}
use Rattle.stripe_locks.specs.declared.stripes.Stripes.{Stripes}
use Rattle.stripe_locks.specs.Passes.{recorded, stripe_count}
use Rattle.durable_map.specs.Durable.{Begins}
use Rattle.durable_map.proofs.Refusing.{read_ends_so}
use Rattle.durable_map.proofs.map.DurableMap.begin_read.Goals as goal

pub returns-clause-begins : goal.returns-clause-begins
returns-clause-begins g c =
    let t = c.read in
    subst (λ (s : Stripes). Begins (stripe_count s) (recorded c.args.pass.now) (Reading c.args.read) t.result (recorded t.new.pass)) c.deref.ensures (read_ends_so _ _ _ _ t.result t.ensures.made t.ensures.refused)
