use Rattle.std.proofs.Common.{◌≡◌, ◌∙◌, sym, ap, subst}
use Rattle.atomic_table.specs.Table.{opening}
use Rattle.ticket_order.specs.declared.record.Opening.{Opening}
use Rattle.ticket_order.specs.Records.{newcomer}
use Rattle.one_history.specs.Turns.{opening_of}
use Rattle.stripe_locks.specs.Rule.{Kept}
use Rattle.stripe_locks.specs.Plays.{stepless}
use Rattle.stripe_locks.proofs.Begins.{opens}
use Rattle.stripe_locks.proofs.stripes.Stripes.new.Goals as goal

pub new-requires : goal.new-requires
new-requires c =
    let begins : c.new-beginning.result.opening ≡ opening_of c.args.first c.args.parts.items c.args.key_limit = c.new-beginning.ensures ∙ ap (λ parts. opening_of c.args.first parts c.args.key_limit) c.deref.ensures.value in
    subst (λ (o : Opening). Kept o (opening c.as_slice.result.now c.in_ok-slots.slots.items (stepless (newcomer o)))) (sym begins)
    (opens _ c.args.first c.args.key_limit c.args.parts.items c.as_slice.result.now c.in_ok-slots.slots.items c.requires.count c.requires.parts (c.in_ok-slots.ensures.ok) (c.as_slice.ensures.value ∙ c.in_ok-words.ensures.ok))
